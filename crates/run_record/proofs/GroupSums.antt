-- A wait group begins as one of no counter to which the declared one was added.
use Rattle.std.proofs.Common.{◌≡◌, ℕ, zero, suc, ◌<◌, ◌≤◌, ◌^◌, ◌-◌, ◌==◌, ℤ, pos, ◌+ℤ◌, Bool, true, false, cond, List, ◌∷◌, map, length, replicate, Some, None, refl, sym, ap, ◌∙◌, subst, arith}
use Rattle.std.specs.Prelude.{nat_lt, nat_le}
use Rattle.std.proofs.Math.IntN.{+ℤ_idl}
use Rattle.std.proofs.lemmas.Bool.Decides.{nat_tests}
use Rattle.std.proofs.lemmas.List.{length-replicate}
use Rattle.sync_model.specs.Log.{entry, after, Follows}
use Rattle.wait_cores.specs.declared.group.GroupEvent.TheVariants.{Add}
use Rattle.wait_cores.specs.declared.group.GroupPlace.{GroupPlace}
use Rattle.wait_cores.specs.declared.group.GroupPlace.TheVariants.{Out}
use Rattle.wait_cores.specs.declared.group.GroupReply.{GroupReply}
use Rattle.wait_cores.specs.declared.group.GroupReply.TheVariants.{Done, Still}
use Rattle.wait_cores.specs.GroupLaws.{Log}
use Rattle.wait_cores.specs.GroupMachine.{GroupState, start, next, made, added, within, released}
use Rattle.run_record.specs.WaitGroupKind.{group_start}

nobody_released : (callers : ℕ) → map released (replicate callers Out) ≡ replicate callers Out
nobody_released zero = refl
nobody_released (suc callers) = ap (λ (ps : List GroupPlace). Out ∷ ps) (nobody_released callers)

lt_true : (m n : ℕ) → m < n → nat_lt m n ≡ true
lt_true m n below = grind (arith, nat_tests)

le_true : (m n : ℕ) → m ≤ n → nat_le m n ≡ true
le_true m n most = grind (arith, nat_tests)

declared_now : (callers declared : ℕ) → declared < 2 ^ 31 → added (within (pos 0 +ℤ pos declared)) (start callers) ≡ (group_start callers declared, Done)
declared_now callers declared few =
    ap (λ (z : ℤ). added (within z) (start callers)) (+ℤ_idl (pos declared))
    ∙ ap (λ (b : Bool). added (cond b (Some declared) None) (start callers)) (le_true declared (2 ^ 31 - 1) (omega (arith, few)))
    ∙ places (declared == 0)
  where
    places : (b : Bool) → ◌≡◌ {A = GroupState × GroupReply} (record { counter = declared; places = cond b (map released (replicate callers Out)) (replicate callers Out) }, Done) (group_start callers declared, Done)
    places true = ap (λ (ps : List GroupPlace). (record { counter = declared; places = ps }, Done)) (nobody_released callers)
    places false = refl

declares : (callers declared : ℕ) → 0 < callers → declared < 2 ^ 31 → next (start callers) 0 (Add (pos declared)) ≡ (group_start callers declared, Done)
declares callers declared some few =
    ap (λ (b : Bool). cond b (made (start callers) 0 (Add (pos declared))) (start callers, Still)) (lt_true 0 (length (replicate callers Out)) (let long = length-replicate callers Out in omega (arith, some, long)))
    ∙ declared_now callers declared few

-- the log with that addition follows the group of no counter, and leads to the same state
pub from_none : (callers declared : ℕ) (log : Log) → 0 < callers → declared < 2 ^ 31 → Follows next (group_start callers declared) log → Follows next (start callers) (entry 0 (Add (pos declared)) Done ∷ log)
from_none callers declared log some few follows =
    let is = declares callers declared some few in
    (ap (λ (n : GroupState × GroupReply). n.1) is, subst (λ (n : GroupState × GroupReply). Follows next n.0 log) (sym is) follows)

pub same_end : (callers declared : ℕ) (log : Log) → 0 < callers → declared < 2 ^ 31 → after next (group_start callers declared) log ≡ after next (start callers) (entry 0 (Add (pos declared)) Done ∷ log)
same_end callers declared log some few = ap (λ (n : GroupState × GroupReply). after next n.0 log) (sym (declares callers declared some few))
