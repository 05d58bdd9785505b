-- Calls leave as many maps and atomics as there were, and an end of a run is found by the number of its object.
use Rattle.std.proofs.Common.{◌≡◌, ℕ, zero, suc, ◌+◌, Bool, true, false, cond, List, [], ◌∷◌, ◌++◌, length, take, Some, slice_get, refl, ap, ◌∙◌, arith}
use Rattle.std.specs.Prelude.{zip}
use Rattle.std.proofs.lemmas.Bool.{false≢true}
use Rattle.std.proofs.lemmas.List.{length-set}
use Rattle.std.proofs.lemmas.List.Sums.{sum_by-cons}
use Rattle.std.proofs.lemmas.Option.{none-some, same_Some}
use Rattle.sync_model.specs.declared.item.SharedCall.{SharedCall}
use Rattle.sync_model.specs.declared.item.SharedCall.TheVariants as calls
use Rattle.sync_model.specs.declared.item.SharedEntry.{SharedEntry}
use Rattle.sync_types.specs.SequentialAtomic.{atomic_after}
use Rattle.sync_types.specs.SequentialMap.{map_after}
use Rattle.sync_model.specs.SharedHistory.{Contents, map_at, number_at, shared_after, contents_after}
use Rattle.workload.specs.declared.object.ObjectKind.{ObjectKind}
use Rattle.workload.specs.declared.object.ObjectLine.{ObjectLine}
use Rattle.run_record.specs.Objects.{places_from}
use Rattle.run_laws.proofs.Numbered.{count_before}

as_many : (call : SharedCall) (contents : Contents) → (length (shared_after call contents).maps ≡ length contents.maps) × (length (shared_after call contents).numbers ≡ length contents.numbers)
as_many (calls.Map m call) contents = (length-set contents.maps m (map_after call (map_at contents m)), refl)
as_many (calls.Begin m) contents = (refl, refl)
as_many (calls.Next begin) contents = (refl, refl)
as_many (calls.Atomic a call) contents = (refl, length-set contents.numbers a (atomic_after call (number_at contents a)))

pub as_many_after : (history : List SharedEntry) (contents : Contents) → (length (contents_after contents history).maps ≡ length contents.maps) × (length (contents_after contents history).numbers ≡ length contents.numbers)
as_many_after [] contents = (refl, refl)
as_many_after (e ∷ history) contents =
    let one = as_many e.call contents in
    let rest = as_many_after history (shared_after e.call contents) in
    (rest.0 ∙ one.0, rest.1 ∙ one.1)

pub get_left : {A : Type 0} (xs ys : List A) (i : ℕ) (x : A) → slice_get xs i ≡ Some x → slice_get (xs ++ ys) i ≡ Some x
get_left [] ys i x at = absurd (none-some x at)
get_left (y ∷ xs) ys zero x at = at
get_left (y ∷ xs) ys (suc i) x at = get_left xs ys i x at

pub get_zip : {A B : Type 0} (xs : List A) (ys : List B) (i : ℕ) (x : A) (y : B) → slice_get xs i ≡ Some x → slice_get ys i ≡ Some y → slice_get (zip xs ys) i ≡ Some (x, y)
get_zip [] ys i x y at_x at_y = absurd (none-some x at_x)
get_zip (a ∷ xs) [] i x y at_x at_y = absurd (none-some y at_y)
get_zip {A} {B} (a ∷ xs) (b ∷ ys) zero x y at_x at_y = λ i. Some (same_Some a x at_x i, same_Some b y at_y i)
get_zip (a ∷ xs) (b ∷ ys) (suc i) x y at_x at_y = get_zip xs ys i x y at_x at_y

-- the place of the object of a number
module _ (is : ObjectKind → Bool) where
  pub place_at : (k : ℕ) (objects : List ObjectLine) (place : ℕ) (object : ObjectLine) → slice_get objects place ≡ Some object → is object.kind ≡ true
      → slice_get (places_from k is objects) (count_before (λ (o : ObjectLine). is o.kind) objects place) ≡ Some (k + place)
  place_at k [] place object at such = absurd (none-some object at)
  place_at k (y ∷ objects) zero object at such = first (is y.kind) (ap (λ (o : ObjectLine). is o.kind) (same_Some y object at) ∙ such) where
    first : (b : Bool) → b ≡ true → slice_get (cond b (k ∷ places_from (k + 1) is objects) (places_from (k + 1) is objects)) 0 ≡ Some (k + 0)
    first true e = let same : k ≡ k + 0 = omega arith in ap (λ n. Some n) same
    first false e = absurd (false≢true e)
  place_at k (y ∷ objects) (suc i) object at such =
      ap (slice_get (places_from k is (y ∷ objects))) (sum_by-cons (λ (o : ObjectLine). cond (is o.kind) 1 0) y (take i objects)) ∙ behind (is y.kind) (place_at (k + 1) objects i object at such) where
        behind : (b : Bool) → slice_get (places_from (k + 1) is objects) (count_before (λ (o : ObjectLine). is o.kind) objects i) ≡ Some (k + 1 + i)
            → slice_get (cond b (k ∷ places_from (k + 1) is objects) (places_from (k + 1) is objects)) (cond b 1 0 + count_before (λ (o : ObjectLine). is o.kind) objects i) ≡ Some (k + suc i)
        behind true rest = let e : 1 + count_before (λ (o : ObjectLine). is o.kind) objects i ≡ suc (count_before (λ (o : ObjectLine). is o.kind) objects i) = omega arith in
            let same : k + 1 + i ≡ k + suc i = omega arith in
            ap (slice_get (k ∷ places_from (k + 1) is objects)) e ∙ (rest ∙ ap (λ n. Some n) same)
        behind false rest = let e : 0 + count_before (λ (o : ObjectLine). is o.kind) objects i ≡ count_before (λ (o : ObjectLine). is o.kind) objects i = omega arith in
            let same : k + 1 + i ≡ k + suc i = omega arith in
            ap (slice_get (places_from (k + 1) is objects)) e ∙ (rest ∙ ap (λ n. Some n) same)
