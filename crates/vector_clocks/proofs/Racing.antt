-- Two steps that race, by what tells it.
use Rattle.std.proofs.Common.{◌≡◌, ◌↔◌, ℕ, ◌<◌, Bool, true, false, List, Some, slice_get, IsTrue, refl, sym, ◌∙◌, subst, not}
use Rattle.std.proofs.lemmas.Bool.{false≢true}
use Rattle.std.proofs.lemmas.Option.{same_Some}
use Rattle.vector_clocks.specs.declared.step.Step.{Step}
use Rattle.vector_clocks.specs.Before.{Before}
use Rattle.vector_clocks.specs.Races.{Conflicts, IsRace}

pub conflict_of : (trace : List Step) (i j : ℕ) (x y : Step) → slice_get trace i ≡ Some x → slice_get trace j ≡ Some y → IsRace trace i j → Conflicts x y
conflict_of trace i j x y at_x at_y r =
    subst (λ (s : Step). Conflicts s y) (same_Some r.first x (sym r.at_first ∙ at_x)) (subst (Conflicts r.first) (same_Some r.second y (sym r.at_second ∙ at_y)) r.conflict)

-- of two steps that conflict, by whether the first one is before the second
pub by_before : (trace : List Step) (i j : ℕ) (x y : Step) → slice_get trace i ≡ Some x → slice_get trace j ≡ Some y → i < j → Conflicts x y
    → (b : Bool) → (IsTrue b ↔ Before trace i j) → IsTrue (not b) ↔ IsRace trace i j
by_before trace i j x y at_x at_y earlier conflict true (to, from) = (λ t. absurd (false≢true t), λ r. absurd (r.unordered (to refl)))
by_before trace i j x y at_x at_y earlier conflict false (to, from) =
    (λ t. record { first = x; second = y; at_first = at_x; at_second = at_y; earlier = earlier; conflict = conflict; unordered = λ before. false≢true (from before) }, λ r. refl)

-- and of two that don't
pub without : (trace : List Step) (i j : ℕ) (x y : Step) → slice_get trace i ≡ Some x → slice_get trace j ≡ Some y → (b : Bool) → b ≡ false → (IsTrue b ↔ Conflicts x y) → IsTrue b ↔ IsRace trace i j
without trace i j x y at_x at_y b is (to, from) = (λ t. absurd (false≢true (sym is ∙ t)), λ r. absurd (false≢true (sym is ∙ from (conflict_of trace i j x y at_x at_y r))))
