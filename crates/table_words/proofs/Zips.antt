-- Two lists together, and a list that is filtered, from the front on.
use Rattle.std.proofs.Common.{◌≡◌, ℕ, zero, suc, ◌+◌, ◌<◌, ◌≤◌, List, [], ◌∷◌, ◌++◌, take, length, get_or, Option, Some, None, slice_get, refl, ap, ◌∙◌, arith}
use Rattle.std.specs.Prelude.{zip}
use Rattle.std.specs.List.{filter_map, cons_option}
use Rattle.std.proofs.lemmas.List.{append-nil}
use Rattle.std.proofs.lemmas.List.Elements.{filter_map-append}
use Rattle.std.proofs.lemmas.List.{take_more}
use Rattle.std.proofs.lemmas.Option.{none-some, same_Some}

module _ {A B : Type 0} where
  pub zip_more : (xs : List A) (ys : List B) (i : ℕ) (d : A) (y : B) → i < length xs → slice_get ys i ≡ Some y → take (i + 1) (zip xs ys) ≡ take i (zip xs ys) ++ (get_or xs i d, y) ∷ []
  zip_more [] ys i d y below at = absurd (omega arith)
  zip_more (x ∷ xs) [] i d y below at = absurd (none-some y at)
  zip_more (x ∷ xs) (z ∷ ys) zero d y below at = λ j. (x, same_Some z y at j) ∷ []
  zip_more (x ∷ xs) (z ∷ ys) (suc i) d y below at = let e : suc i + 1 ≡ suc (i + 1) = omega arith in ap (λ n. take n (zip (x ∷ xs) (z ∷ ys))) e ∙ ap (λ l. (x, z) ∷ l) (zip_more xs ys i d y (omega arith) at)

  pub zip_first : (xs : List A) (ys : List B) (i : ℕ) → length xs ≤ i → take i (zip xs ys) ≡ zip xs ys
  zip_first [] ys zero le = refl
  zip_first [] ys (suc i) le = refl
  zip_first (x ∷ xs) [] zero le = refl
  zip_first (x ∷ xs) [] (suc i) le = refl
  zip_first (x ∷ xs) (y ∷ ys) zero le = absurd (omega arith)
  zip_first (x ∷ xs) (y ∷ ys) (suc i) le = ap (λ l. (x, y) ∷ l) (zip_first xs ys i (omega arith))

  pub zip_second : (xs : List A) (ys : List B) (i : ℕ) → length ys ≤ i → take i (zip xs ys) ≡ zip xs ys
  zip_second [] ys zero le = refl
  zip_second [] ys (suc i) le = refl
  zip_second (x ∷ xs) [] zero le = refl
  zip_second (x ∷ xs) [] (suc i) le = refl
  zip_second (x ∷ xs) (y ∷ ys) zero le = absurd (omega arith)
  zip_second (x ∷ xs) (y ∷ ys) (suc i) le = ap (λ l. (x, y) ∷ l) (zip_second xs ys i (omega arith))

-- one more of a list that is filtered
module _ {A B : Type 0} (f : A → Option B) where
  pub filter_some : (xs : List A) (i : ℕ) (d : A) (y : B) → i < length xs → f (get_or xs i d) ≡ Some y → filter_map f (take (i + 1) xs) ≡ filter_map f (take i xs) ++ y ∷ []
  filter_some xs i d y below is = ap (filter_map f) (take_more xs i d below) ∙ filter_map-append f (take i xs) (get_or xs i d ∷ []) ∙ ap (λ o. filter_map f (take i xs) ++ cons_option o []) is

  pub filter_none : (xs : List A) (i : ℕ) (d : A) → i < length xs → f (get_or xs i d) ≡ None → filter_map f (take (i + 1) xs) ≡ filter_map f (take i xs)
  filter_none xs i d below is = ap (filter_map f) (take_more xs i d below) ∙ filter_map-append f (take i xs) (get_or xs i d ∷ []) ∙ ap (λ o. filter_map f (take i xs) ++ cons_option o []) is ∙ append-nil (filter_map f (take i xs))

pub none_left : {A : Type 0} (o : Option A) → ((x : A) → o ≡ Some x → ⊥) → o ≡ None
none_left None no_value = refl
none_left (Some x) no_value = absurd (no_value x refl)
