-- The state that a group starts from.
use Rattle.std.proofs.Common.{◌≡◌, ℕ, zero, suc, ◌≤◌, Bool, true, false, cond, ◌∷◌, replicate, map, refl, sym, ap, ◌∙◌, subst, arith}
use Rattle.std.proofs.Math.Nat.{zero-add}
use Rattle.std.specs.Prelude.{ℤ, pos, negsuc, ◌≤ℤ◌, ◌+ℤ◌, ◌==◌, nat_lt, nat_le, length, Some, None}
use Rattle.std.proofs.lemmas.Bool.Decides.{nat_tests}
use Rattle.std.proofs.lemmas.List.{length-replicate}
use Rattle.std.proofs.lemmas.Int.{ints}
use Rattle.wait_cores.specs.declared.group.GroupEvent.TheVariants.{Add}
use Rattle.wait_cores.specs.declared.group.GroupPlace.TheVariants.{Out}
use Rattle.wait_cores.specs.declared.group.GroupReply.{GroupReply}
use Rattle.go_waits.specs.Groups.{IsBegun}
use Rattle.wait_cores.specs.GroupMachine.{GroupState, start, next, added, within, released}

released_out : (n : ℕ) → map released (replicate n Out) ≡ replicate n Out
released_out zero = refl
released_out (suc n) = ap (λ xs. Out ∷ xs) (released_out n)

by_zero : (callers counter : ℕ) (zero_now : Bool) → IsBegun callers (pos counter) (record { counter = counter; places = cond zero_now (map released (replicate callers Out)) (replicate callers Out) })
by_zero callers counter true = (refl, released_out callers)
by_zero callers counter false = (refl, refl)

by_sum : (callers n : ℕ) → n ≤ 10000 → IsBegun callers (pos n) (added (within (pos n)) (start callers)).0
by_sum callers n few = by_test (nat_le n 2147483647) (grind (arith, nat_tests)) where
  by_test : (b : Bool) → b ≡ true → IsBegun callers (pos n) (added (cond b (Some n) None) (start callers)).0
  by_test true is = by_zero callers n (n == 0)
  by_test false is = cc

by_delta : (callers : ℕ) (delta : ℤ) → pos 0 ≤ℤ delta → delta ≤ℤ pos 10000 → IsBegun callers delta (added (within (pos 0 +ℤ delta)) (start callers)).0
by_delta callers (pos n) least few = subst (λ (k : ℕ). IsBegun callers (pos n) (added (within (pos k)) (start callers)).0) (sym (zero-add n)) (by_sum callers n (omega (arith, ints)))
by_delta callers (negsuc n) least few = absurd (omega (arith, ints))

-- the state after the first sum
pub begins : (callers : ℕ) (delta : ℤ) (new : GroupState) (reply : GroupReply) → pos 0 ≤ℤ delta → delta ≤ℤ pos 10000 → 1 ≤ callers → next (start callers) 0 (Add delta) ≡ (new, reply) → IsBegun callers delta new
begins callers delta new reply least few some is = subst (IsBegun callers delta) (ap (λ (z : GroupState × GroupReply). z.0) (sym made_here ∙ is)) (by_delta callers delta least few) where
  below : nat_lt 0 (length (replicate callers Out)) ≡ true
  below = rw length-replicate (grind (arith, nat_tests))

  made_here : next (start callers) 0 (Add delta) ≡ added (within (pos 0 +ℤ delta)) (start callers)
  made_here = rw below refl
