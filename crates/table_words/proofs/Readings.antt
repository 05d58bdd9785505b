-- What is read of a row of words.
use Rattle.std.proofs.Common.{◌≡◌, ℕ, zero, suc, ◌+◌, ◌<◌, List, [], ◌∷◌, map, length, Some, None, slice_get, slice_index, refl, sym, ap, ◌∙◌, arith}
use Rattle.std.specs.List.{enumerate_from}
use Rattle.std.proofs.lemmas.Option.{none-some, same_Some}
use mathlib.Core.Option.{some, some-ne-none, some-injective}
use lib.ListN.{get_elem?}

pub word_at : (words : List ℕ) (i word : ℕ) → get_elem? words i ≡ some word → word ≡ slice_index words i
word_at [] i word at = absurd (some-ne-none word (sym at))
word_at (w ∷ words) zero word at = sym (some-injective w word at)
word_at (w ∷ words) (suc i) word at = word_at words i word at

module _ {A B : Type 0} (f : ℕ × A → B) where
  -- a list by number, from a number on
  some_at : (n : ℕ) (xs : List A) (i : ℕ) (x : A) → slice_get xs i ≡ Some x → slice_get (map f (enumerate_from n xs)) i ≡ Some (f (n + i, x))
  some_at n [] i x at = absurd (none-some x at)
  some_at n (y ∷ xs) zero x at = let e : n ≡ n + zero = omega arith in λ j. Some (f (e j, same_Some y x at j))
  some_at n (y ∷ xs) (suc i) x at = some_at (n + 1) xs i x at ∙ (let e : n + 1 + i ≡ n + suc i = omega arith in ap (λ m. Some (f (m, x))) e)

  none_at : (n : ℕ) (xs : List A) (i : ℕ) → slice_get xs i ≡ None → slice_get (map f (enumerate_from n xs)) i ≡ None
  none_at n [] i at = refl
  none_at n (y ∷ xs) zero at = absurd (none-some y (sym at))
  none_at n (y ∷ xs) (suc i) at = none_at (n + 1) xs i at

  pub numbered : (xs : List A) (i : ℕ) (x : A) → slice_get xs i ≡ Some x → slice_get (map f (enumerate_from 0 xs)) i ≡ Some (f (i, x))
  numbered xs i x at = some_at 0 xs i x at ∙ (let e : 0 + i ≡ i = omega arith in ap (λ m. Some (f (m, x))) e)

  pub not_numbered : (xs : List A) (i : ℕ) → slice_get xs i ≡ None → slice_get (map f (enumerate_from 0 xs)) i ≡ None
  not_numbered xs i at = none_at 0 xs i at

  pub as_long : (n : ℕ) (xs : List A) → length (map f (enumerate_from n xs)) ≡ length xs
  as_long n [] = refl
  as_long n (x ∷ xs) = let rest = as_long (n + 1) xs in omega arith

pub item_at : {A : Type 0} (xs : List A) (i : ℕ) → i < length xs → (x : A) × (slice_get xs i ≡ Some x)
item_at [] i below = absurd (omega arith)
item_at (x ∷ xs) zero below = (x, refl)
item_at (x ∷ xs) (suc i) below = item_at xs i (omega arith)
