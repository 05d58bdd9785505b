-- A walk over a map shows its entries.
use Rattle.std.proofs.Common.{rules, ◌≡◌, ◌≢◌, ℕ, ◌+◌, ◌<◌, ◌≤◌, Bool, true, false, ◌&&◌, cond, eq-eqb, ne_eqb, List, [], ◌∷◌, Some, None, refl, sym, ap, ◌∙◌, arith}
use Rattle.std.specs.Prelude.{T}
use Rattle.std.proofs.lemmas.Bool.{cases_lt}
use mathlib.Core.Logic.{dite, inl, inr}
use native.Mathlib.Decide.{ℕ_discrete}
use Rattle.std.specs.Ordering.{nat_cmp, is_lt}
use Rattle.std.specs.Cmp.{nat_cmp_total, unsigned_tied}
use Rattle.std.specs.FinMap.{entries, from_sorted, entries-from_sorted, get-from_sorted, find, is_sorted, same_map, nat_cmp-IsAntisymmetric}
use Rattle.std.specs.FinMap.Entries.{below_all}
use Rattle.sync_model.specs.SharedHistory.{Contents, map_at, value_at}
use Rattle.shared_plain.specs.MapWalks.{IsWalk}

pub both : (a b : Bool) → T a → T b → T (a && b)
both true b p q = q
both false b p q = p

less : (a b : ℕ) → a < b → T (is_lt (nat_cmp a b))
less a b below = search rules

module _ (contents : Contents) (m : ℕ) where
  -- a walk shows no key below its first
  unshown : (from q : ℕ) (pairs : List (ℕ × ℕ)) → IsWalk contents m from pairs → q < from → find nat_cmp q pairs ≡ None
  unshown from q [] walk below = refl
  unshown from q (pair ∷ pairs) walk below =
      let least = walk.0.0 in
      ap (λ (b : Bool). cond b (Some pair.1) (find nat_cmp q pairs)) (unsigned_tied q pair.0 ∙ ne_eqb q pair.0 (λ is. omega arith)) ∙ unshown (pair.0 + 1) q pairs walk.1 (omega arith)

  -- it shows what the map has from its first key on
  shown : (from q : ℕ) (pairs : List (ℕ × ℕ)) → IsWalk contents m from pairs → from ≤ q → find nat_cmp q pairs ≡ value_at contents m q
  shown from q [] walk least = sym (walk q least)
  shown from q (pair ∷ pairs) walk least = dite (ℕ_discrete q pair.0)
      (λ is. ap (λ (b : Bool). cond b (Some pair.1) (find nat_cmp q pairs)) (unsigned_tied q pair.0 ∙ eq-eqb q pair.0 is) ∙ (sym walk.0.1 ∙ ap (value_at contents m) (sym is)))
      (λ ne. ap (λ (b : Bool). cond b (Some pair.1) (find nat_cmp q pairs)) (unsigned_tied q pair.0 ∙ ne_eqb q pair.0 ne) ∙ by_side ne (shown (pair.0 + 1) q pairs walk.1))
    where
      by_side : q ≢ pair.0 → (pair.0 + 1 ≤ q → find nat_cmp q pairs ≡ value_at contents m q) → find nat_cmp q pairs ≡ value_at contents m q
      by_side ne behind = elim (cases_lt q pair.0) [
        | inl below ↦ unshown (pair.0 + 1) q pairs walk.1 (omega arith) ∙ sym (walk.0.2 q least below)
        | inr above ↦ behind (omega arith)
      ]

  later : (x from : ℕ) (pairs : List (ℕ × ℕ)) → IsWalk contents m from pairs → x < from → T (below_all nat_cmp x pairs)
  later x from [] walk below = tt
  later x from (pair ∷ pairs) walk below = let least = walk.0.0 in both _ _ (less x pair.0 (omega arith)) (later x (pair.0 + 1) pairs walk.1 (omega arith))

  rising : (from : ℕ) (pairs : List (ℕ × ℕ)) → IsWalk contents m from pairs → T (is_sorted nat_cmp pairs)
  rising from [] walk = tt
  rising from (pair ∷ pairs) walk = both _ _ (later pair.0 (pair.0 + 1) pairs walk.1 (omega arith)) (rising (pair.0 + 1) pairs walk.1)

  -- from key 0 on it shows all, in order
  pub shows_entries : (pairs : List (ℕ × ℕ)) → IsWalk contents m 0 pairs → pairs ≡ entries (map_at contents m)
  shows_entries pairs walk =
      let sorted = rising 0 pairs walk in
      sym (entries-from_sorted nat_cmp pairs sorted)
      ∙ ap entries (same_map nat_cmp_total nat_cmp-IsAntisymmetric (from_sorted pairs) (map_at contents m) (λ q. get-from_sorted nat_cmp pairs q sorted ∙ shown 0 q pairs walk (omega arith)))
