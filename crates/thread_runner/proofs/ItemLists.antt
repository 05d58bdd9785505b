-- Items of workers' lists, and lists of lists.
use Rattle.std.proofs.Common.{◌≡◌, ℕ, zero, suc, ◌+◌, ◌<◌, ◌≤◌, List, [], ◌∷◌, length, get_or, map, Option, Some, slice_get, refl, ap, ◌∙◌, subst, arith}
use Rattle.std.specs.Prelude.{unwrap_or}
use Rattle.std.proofs.lemmas.Option.{none-some}

pub first_is : {A : Type 0} (x y : A) (xs : List A) → slice_get (x ∷ xs) 0 ≡ Some y → x ≡ y
first_is {A} x y xs at = ap (λ (o : Option A). unwrap_or o x) at

module _ {A B : Type 0} (f : A → List B) where
  -- the list that an item of a list comes to, and none beyond
  pub mapped_at : (xs : List A) (i : ℕ) (x : A) → slice_get xs i ≡ Some x → get_or (map f xs) i [] ≡ f x
  mapped_at [] i x at = absurd (none-some x at)
  mapped_at (y ∷ xs) zero x at = ap f (first_is y x xs at)
  mapped_at (y ∷ xs) (suc i) x at = mapped_at xs i x at

  pub mapped_past : (xs : List A) (i : ℕ) → length xs ≤ i → get_or (map f xs) i [] ≡ []
  mapped_past [] i past = refl
  mapped_past (y ∷ xs) zero past = absurd (omega (arith, past))
  mapped_past (y ∷ xs) (suc i) past = mapped_past xs i (omega (arith, past))

-- lists whose items, item by item, come to the same
module _ {A B : Type 0} (f : A → List B) where
  pub mapped_is : (xs : List A) (ys : List (List B)) → length xs ≡ length ys → ((i : ℕ) (x : A) → slice_get xs i ≡ Some x → f x ≡ get_or ys i []) → map f xs ≡ ys
  mapped_is [] [] count same = refl
  mapped_is [] (y ∷ ys) count same = absurd (omega (arith, count))
  mapped_is (x ∷ xs) [] count same = absurd (omega (arith, count))
  mapped_is (x ∷ xs) (y ∷ ys) count same =
      ap (λ (z : List B). z ∷ map f xs) (same 0 x refl) ∙ ap (λ (zs : List (List B)). y ∷ zs) (mapped_is xs ys (omega (arith, count)) (λ i z at. same (suc i) z at))

-- what there is at each place, as one list
module _ {A : Type 0} (P : ℕ → A → Type 0) where
  abbrev pub Gathered : ℕ → ℕ → Type 0
  Gathered from n = (xs : List A) × (length xs ≡ n) × ((i : ℕ) (x : A) → slice_get xs i ≡ Some x → P (from + i) x)

  pub gathered : (n from : ℕ) → ((i : ℕ) → from ≤ i → i < from + n → (x : A) × P i x) → Gathered from n
  gathered zero from each = ([], refl, λ i x at. absurd (none-some x at))
  gathered (suc n) from each = joined (each from (omega arith) (omega arith)) (gathered n (suc from) (λ i low high. each i (omega (arith, low)) (omega (arith, high)))) where
    joined : (x : A) × P from x → Gathered (suc from) n → Gathered from (suc n)
    joined (x, is) (xs, count, all) = (x ∷ xs, ap (λ m. suc m) count, at) where
      at : (i : ℕ) (y : A) → slice_get (x ∷ xs) i ≡ Some y → P (from + i) y
      at zero y found = subst (λ m. P m y) (omega arith) (subst (P from) (first_is x y xs found) is)
      at (suc i) y found = subst (λ m. P m y) (omega arith) (all i y found)
