-- The places of objects of a kind, one object more.
use Rattle.std.proofs.Common.{◌≡◌, ℕ, zero, suc, ◌+◌, Bool, true, false, cond, List, [], ◌∷◌, ◌++◌, take, Some, slice_get, ap, ◌∙◌, arith}
use Rattle.std.proofs.lemmas.Option.{none-some, same_Some}
use Rattle.workload.specs.declared.object.ObjectKind.{ObjectKind}
use Rattle.workload.specs.declared.object.ObjectLine.{ObjectLine}
use Rattle.run_record.specs.Objects.{places_from}

-- the places with one object more
pub places_next : (from : ℕ) (is : ObjectKind → Bool) (xs : List ObjectLine) (i : ℕ) (x : ObjectLine) → slice_get xs i ≡ Some x → places_from from is (take (suc i) xs) ≡ places_from from is (take i xs) ++ cond (is x.kind) ((from + i) ∷ []) []
places_next from is [] i x at = absurd (none-some x at)
places_next from is (y ∷ xs) zero x at =
    ap (λ (n : ℕ). cond (is y.kind) (n ∷ []) []) (let e : from ≡ from + 0 = omega arith in e) ∙ ap (λ (o : ObjectLine). cond (is o.kind) ((from + 0) ∷ []) []) (same_Some y x at)
places_next from is (y ∷ xs) (suc i) x at =
    let last : List ℕ = cond (is x.kind) ((from + suc i) ∷ []) [] in
    let rest = places_next (from + 1) is xs i x at ∙ ap (λ (n : ℕ). places_from (from + 1) is (take i xs) ++ cond (is x.kind) (n ∷ []) []) (let e : from + 1 + i ≡ from + suc i = omega arith in e) in
    elim (is y.kind) as (λ b. cond b (from ∷ places_from (from + 1) is (take (suc i) xs)) (places_from (from + 1) is (take (suc i) xs)) ≡ cond b (from ∷ places_from (from + 1) is (take i xs)) (places_from (from + 1) is (take i xs)) ++ last) [
      | true ↦ ap (λ (l : List ℕ). from ∷ l) rest
      | false ↦ rest
    ]

pub more_places : (is : ObjectKind → Bool) (xs : List ObjectLine) (i : ℕ) (x : ObjectLine) → slice_get xs i ≡ Some x → places_from 0 is (take (i + 1) xs) ≡ places_from 0 is (take i xs) ++ cond (is x.kind) (i ∷ []) []
more_places is xs i x at =
    ap (λ (n : ℕ). places_from 0 is (take n xs)) (let e : i + 1 ≡ suc i = omega arith in e) ∙ places_next 0 is xs i x at
    ∙ ap (λ (n : ℕ). places_from 0 is (take i xs) ++ cond (is x.kind) (n ∷ []) []) (let e : 0 + i ≡ i = omega arith in e)
