-- Objects, passes and columns that belong together are of one kind.
use Rattle.std.proofs.Common.{◌≡◌, ℕ, zero, suc, List, [], ◌∷◌, map, replicate, Option, Some, slice_get, refl, ap, subst}
use Rattle.std.specs.Prelude.{unwrap_or}
use Rattle.std.proofs.lemmas.Option.{none-some}
use Rattle.workload.specs.declared.object.ObjectWord.{ObjectWord}
use Rattle.thread_objects.specs.declared.column.AnyColumn.{AnyColumn}
use Rattle.thread_objects.specs.declared.column.AnyColumn.TheVariants as columns
use Rattle.thread_objects.specs.declared.object.AnyObject.{AnyObject}
use Rattle.thread_objects.specs.declared.object.AnyObject.TheVariants as objects
use Rattle.thread_objects.specs.declared.pass.AnyPass.{AnyPass}
use Rattle.thread_objects.specs.declared.pass.AnyPass.TheVariants as passes
use Rattle.thread_objects.specs.ByKind.{passes_in}
use Rattle.thread_objects.specs.Columns.{IsColumnOf}
use Rattle.thread_objects.specs.Kinds.{HasWord}
use Rattle.thread_objects.specs.Passes.{IsNone, IsSeatAt}
use Rattle.thread_objects.proofs.ColumnLemmas.{seat_at}

-- what is so of each element's image is so of each image
of_each : {A B : Type 0} (f : A → B) (xs : List A) (i : ℕ) (y : B) → slice_get (map f xs) i ≡ Some y → (is : B → Type 0) → ((x : A) → slice_get xs i ≡ Some x → is (f x)) → is y
of_each f [] i y at is each = absurd (none-some y at)
of_each {A} {B} f (x ∷ xs) zero y at is each = subst is (ap (λ (o : Option B). unwrap_or o y) at) (each x refl)
of_each f (x ∷ xs) (suc i) y at is each = of_each f xs i y at is each

none_in : {N : Type 0} (n i : ℕ) (pass : AnyPass N) → slice_get (replicate n passes.None) i ≡ Some pass → IsNone pass
none_in zero i pass at = absurd (none-some pass at)
none_in {N} (suc n) zero pass at = subst (λ (p : AnyPass N). IsNone p) (ap (λ (o : Option (AnyPass N)). unwrap_or o pass) at) tt
none_in (suc n) (suc i) pass at = none_in n i pass at

module _ {N H : Type 0} (at : H → N → Type 0) (home : H) (workers : ℕ) where
  pub column_seats : (count worker : ℕ) (object : AnyObject N H) (column : AnyColumn N) (pass : AnyPass N) → IsColumnOf at home workers count object column → slice_get (passes_in column) worker ≡ Some pass → IsSeatAt at home workers worker object pass
  column_seats count worker objects.Shared (columns.None n) pass seated here = none_in n worker pass here
  column_seats count worker (objects.Stop o) (columns.Stop ps) pass seated here = of_each passes.Stop ps.items worker pass here (IsSeatAt at home workers worker (objects.Stop o)) (λ p found. (seat_at _ _ _ at home workers o count worker ps.items p seated.0.0 found, seated.1 worker p found))
  column_seats count worker object (columns.None n) pass seated here = absurd seated
  column_seats count worker object column pass seated here = of_each _ _ worker pass here (IsSeatAt at home workers worker object) (search seat_at)

  -- a pass to two objects
  pub of_one_kind : (worker : ℕ) (object other : AnyObject N H) (pass : AnyPass N) (word : ObjectWord) → IsSeatAt at home workers worker object pass → IsSeatAt at home workers worker other pass → HasWord word object → HasWord word other
  of_one_kind worker objects.Shared other pass word seat same has = absurd has
  of_one_kind worker object other passes.None word seat same has = absurd seat
  of_one_kind worker object objects.Shared pass word seat same has = absurd same
  of_one_kind worker object other pass word seat same has = search
