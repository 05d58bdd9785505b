-- The state that a wait group begins in, whose counter the workload declares.
use Rattle.std.proofs.Common.{◌≡◌, ℕ, zero, suc, ◌≤◌, Bool, true, false, cond, List, ◌∷◌, replicate, map, refl, sym, ap, ◌∙◌, subst, arith}
use Rattle.std.proofs.Math.Nat.{zero-add}
use Rattle.std.specs.Prelude.{ℤ, pos, ◌==◌, nat_lt, nat_le, length, Some, None}
use Rattle.std.proofs.lemmas.Bool.Decides.{nat_tests}
use Rattle.std.proofs.lemmas.List.{length-replicate}
use Rattle.wait_cores.specs.declared.group.GroupEvent.TheVariants.{Add}
use Rattle.wait_cores.specs.declared.group.GroupPlace.{GroupPlace}
use Rattle.wait_cores.specs.declared.group.GroupPlace.TheVariants.{Out}
use Rattle.wait_cores.specs.declared.group.GroupReply.{GroupReply}
use Rattle.wait_cores.specs.GroupMachine.{GroupState, start, next, added, within, released}
use Rattle.run_record.specs.WaitGroupKind.{group_start}

released_out : (n : ℕ) → map released (replicate n Out) ≡ replicate n Out
released_out zero = refl
released_out (suc n) = ap (λ (xs : List GroupPlace). Out ∷ xs) (released_out n)

by_zero : (callers counter : ℕ) (zero_now : Bool) → (let made : GroupState = record { counter = counter; places = cond zero_now (map released (replicate callers Out)) (replicate callers Out) } in made) ≡ group_start callers counter
by_zero callers counter true = ap (λ (places : List GroupPlace). let made : GroupState = record { counter = counter; places = places } in made) (released_out callers)
by_zero callers counter false = refl

by_sum : (callers n : ℕ) → n ≤ 10000 → (added (within (pos n)) (start callers)).0 ≡ group_start callers n
by_sum callers n few = by_test (nat_le n 2147483647) (grind (arith, nat_tests)) where
  by_test : (b : Bool) → b ≡ true → (added (cond b (Some n) None) (start callers)).0 ≡ group_start callers n
  by_test true is = by_zero callers n (n == 0)
  by_test false is = cc

-- the state after the first sum
pub begins : (callers n : ℕ) (core new : GroupState) (reply : GroupReply) (read : ℤ) → n ≤ 10000 → 1 ≤ callers → core ≡ start callers → read ≡ pos n → next core 0 (Add read) ≡ (new, reply) → new ≡ group_start callers n
begins callers n core new reply read few some is back step = ap (λ (z : GroupState × GroupReply). z.0) (sym here ∙ sym made_here) ∙ by_sum callers n few where
  below : nat_lt 0 (length (replicate callers Out)) ≡ true
  below = rw length-replicate (grind (arith, nat_tests))

  here : next (start callers) 0 (Add (pos n)) ≡ (new, reply)
  here = subst (λ (d : ℤ). next (start callers) 0 (Add d) ≡ (new, reply)) back (subst (λ (s : GroupState). next s 0 (Add read) ≡ (new, reply)) is step)

  made_here : added (within (pos n)) (start callers) ≡ next (start callers) 0 (Add (pos n))
  made_here = rw below (ap (λ k. added (within (pos k)) (start callers)) (sym (zero-add n)))
