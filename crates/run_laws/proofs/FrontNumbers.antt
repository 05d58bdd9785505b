-- What a front knows, as the greatest of its calls' bounds.
use Rattle.std.proofs.Common.{◌≡◌, ℕ, zero, suc, ◌+◌, ◌<◌, ◌≤◌, List, [], ◌∷◌, take, Some, slice_get, slice_index, refl, subst, arith}
use Rattle.std.proofs.lemmas.Option.{none-some, same_Some}
use Rattle.sync_model.specs.declared.item.Item.{Item}
use Rattle.sync_model.specs.SharedCalls.{bound, Knows}
use Rattle.run_laws.specs.Known.{greatest_bound, known_from, known, CountsMade}

module _ {A : Type 0} where
  in_take : (n i : ℕ) (xs : List A) (x : A) → slice_get (take n xs) i ≡ Some x → (i < n) × (slice_get xs i ≡ Some x)
  in_take zero i xs x at = absurd (none-some x at)
  in_take (suc n) i [] x at = absurd (none-some x at)
  in_take (suc n) zero (y ∷ xs) x at = (omega arith, at)
  in_take (suc n) (suc i) (y ∷ xs) x at = let there = in_take n i xs x at in (omega (arith, there.0), there.1)

  to_take : (n i : ℕ) (xs : List A) (x : A) → i < n → slice_get xs i ≡ Some x → slice_get (take n xs) i ≡ Some x
  to_take zero i xs x less at = absurd (omega (arith, less))
  to_take (suc n) i [] x less at = absurd (none-some x at)
  to_take (suc n) zero (y ∷ xs) x less at = at
  to_take (suc n) (suc i) (y ∷ xs) x less at = to_take n i xs x (omega (arith, less)) at

greatest_le : (xs : List Item) (n : ℕ) → ((j : ℕ) (x : Item) → slice_get xs j ≡ Some x → bound x ≤ n) → greatest_bound xs ≤ n
greatest_le [] n all = omega arith
greatest_le (x ∷ xs) n all = omega (arith, all 0 x refl, greatest_le xs n (λ j y at. all (suc j) y at))

le_greatest : (xs : List Item) (n : ℕ) → greatest_bound xs ≤ n → (j : ℕ) (x : Item) → slice_get xs j ≡ Some x → bound x ≤ n
le_greatest [] n le j x at = absurd (none-some x at)
le_greatest (y ∷ xs) n le zero x at = subst (λ (z : Item). bound z ≤ n) (same_Some y x at) (omega (arith, le))
le_greatest (y ∷ xs) n le (suc j) x at = le_greatest xs n (omega (arith, le)) j x at

module _ (calls : ℕ → List Item) where
  from_le : (front : List ℕ) (c n : ℕ) → ((d : ℕ) → greatest_bound (take (slice_index front d) (calls (c + d))) ≤ n) → known_from calls c front ≤ n
  from_le [] c n all = omega arith
  from_le (count ∷ front) c n all =
      let first : greatest_bound (take count (calls c)) ≤ n = subst (λ (m : ℕ). greatest_bound (take count (calls m)) ≤ n) (omega arith) (all 0) in
      omega (arith, first, from_le front (c + 1) n (λ d. subst (λ (m : ℕ). greatest_bound (take (slice_index front d) (calls m)) ≤ n) (omega arith) (all (suc d))))

  le_from : (front : List ℕ) (c n : ℕ) → known_from calls c front ≤ n → (d : ℕ) → greatest_bound (take (slice_index front d) (calls (c + d))) ≤ n
  le_from [] c n le d = omega arith
  le_from (count ∷ front) c n le zero =
      let first : greatest_bound (take count (calls c)) ≤ n = omega (arith, le) in
      subst (λ (m : ℕ). greatest_bound (take count (calls m)) ≤ n) (omega arith) first
  le_from (count ∷ front) c n le (suc d) = subst (λ (m : ℕ). greatest_bound (take (slice_index front d) (calls m)) ≤ n) (omega arith) (le_from front (c + 1) n (omega (arith, le)) d)

  pub knows_least : (front : List ℕ) (n : ℕ) → Knows calls front n → known calls front ≤ n
  knows_least front n knows = from_le front 0 n (λ d. subst (λ (m : ℕ). greatest_bound (take (slice_index front d) (calls m)) ≤ n) (omega arith)
      (greatest_le (take (slice_index front d) (calls d)) n (λ j x at. let there = in_take (slice_index front d) j (calls d) x at in knows.within d j x there.0 there.1)))

  pub least_knows : (front : List ℕ) (n : ℕ) → CountsMade calls front → known calls front ≤ n → Knows calls front n
  least_knows front n made le = record {
    made = made;
    within = λ c j x before at. le_greatest (take (slice_index front c) (calls c)) n
        (subst (λ (m : ℕ). greatest_bound (take (slice_index front c) (calls m)) ≤ n) (omega arith) (le_from front 0 n le c)) j x (to_take (slice_index front c) j (calls c) x before at);
  }
