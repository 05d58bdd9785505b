-- Lists each of whose items is such.
use Rattle.std.proofs.Common.{◌≡◌, ℕ, zero, suc, ◌==◌, Bool, true, false, cond, List, [], ◌∷◌, ◌++◌, Some, slice_get, subst}
use Rattle.std.proofs.lemmas.Option.{none-some, same_Some}
use Rattle.sync_model.specs.Journal.{by}
use Rattle.run_record.specs.Record.{ObjectEntry}

abbrev pub Each : {A : Type 0} → (A → Type 0) → List A → Type 0
Each P [] = Unit {0}
Each P (x ∷ xs) = P x × Each P xs

module _ {A : Type 0} (P : A → Type 0) where
  pub each_at : (xs : List A) (i : ℕ) (x : A) → Each P xs → slice_get xs i ≡ Some x → P x
  each_at [] i x each at = absurd (none-some x at)
  each_at (y ∷ xs) zero x each at = subst P (same_Some y x at) each.0
  each_at (y ∷ xs) (suc i) x each at = each_at xs i x each.1 at

  pub each_both : (xs ys : List A) → Each P xs → Each P ys → Each P (xs ++ ys)
  each_both [] ys first second = second
  each_both (x ∷ xs) ys first second = (first.0, each_both xs ys first.1 second)

  pub each_left : (xs ys : List A) → Each P (xs ++ ys) → Each P xs
  each_left [] ys each = tt
  each_left (x ∷ xs) ys each = (each.0, each_left xs ys each.1)

  pub each_right : (xs ys : List A) → Each P (xs ++ ys) → Each P ys
  each_right [] ys each = each
  each_right (x ∷ xs) ys each = each_right xs ys each.1

-- among the entries of one caller, too
pub each_by : (P : ObjectEntry → Type 0) (caller : ℕ) (xs : List ObjectEntry) → Each P xs → Each P (by caller xs)
each_by P caller [] each = tt
each_by P caller (x ∷ xs) each = chosen (x.caller == caller) each.0 (each_by P caller xs each.1) where
  chosen : (b : Bool) → P x → Each P (by caller xs) → Each P (cond b (x ∷ by caller xs) (by caller xs))
  chosen true first rest = (first, rest)
  chosen false first rest = rest
