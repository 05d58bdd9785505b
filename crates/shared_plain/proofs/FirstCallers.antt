-- What stands in a list with more behind it.
use Rattle.std.proofs.Common.{◌≡◌, ℕ, zero, suc, List, [], ◌∷◌, ◌++◌, length, Some, slice_get, refl}

module _ {A : Type 0} where
  pub within : (xs ys : List A) (i : ℕ) (x : A) → slice_get xs i ≡ Some x → slice_get (xs ++ ys) i ≡ Some x
  within [] ys i x is = cc
  within (y ∷ xs) ys zero x is = is
  within (y ∷ xs) ys (suc i) x is = within xs ys i x is

  pub at_last : (xs : List A) (x : A) → slice_get (xs ++ x ∷ []) (length xs) ≡ Some x
  at_last [] x = refl
  at_last (y ∷ xs) x = at_last xs x
