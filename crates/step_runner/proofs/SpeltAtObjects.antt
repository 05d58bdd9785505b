-- A worker's own turn, its items and what is left of its call, by whether the call's object refers to another one.
use Rattle.std.proofs.Common.{◌≡◌, ◌≢◌, ℕ, zero, suc, Bool, true, false, eqb, List, [], ◌∷◌, set, Option, Some, None, refl, sym, ap, ◌∙◌, subst}
use Rattle.std.specs.Prelude.{slice_get}
use Rattle.std.specs.Option.{option_map_or}
use Rattle.std.proofs.lemmas.Bool.{eqb-true, eqb-false}
use Rattle.script_calls.specs.declared.call.Call.{Call}
use Rattle.workload.specs.declared.object.ObjectKind.{ObjectKind}
use Rattle.workload.specs.declared.object.ObjectKind.TheVariants as kinds
use Rattle.workload.specs.Plan.{Plan, is_target, reference_of}
use Rattle.step_runner.specs.declared.turns.answer.Answer.TheVariants as answers
use Rattle.step_runner.specs.declared.turns.object_state.ObjectState.{ObjectState}
use Rattle.step_runner.specs.Items.{items_on, items_on_both, items_by, items_at}
use Rattle.step_runner.specs.Objects.{kind_of, EachAt}
use Rattle.step_runner.specs.TurnAtObjects.{turn_on, turn_on_both, with_object, with_both, turn_by, turn_at}
use Rattle.step_runner.specs.Left.{left_on, left_on_both, left_beside, left_by, left_found, left_at}
use Rattle.step_runner.specs.Within.{StandsOn, StandsOnBoth, StandsBeside, StandsBy, StandsFound}

-- ---- lists of objects

pub set_there : {X : Type 0} (xs : List X) (i : ℕ) (next found : X) → slice_get xs i ≡ Some found → slice_get (set xs i next) i ≡ Some next
set_there [] i next found at = absurd cc
set_there (x ∷ xs) zero next found at = refl
set_there (x ∷ xs) (suc i) next found at = set_there xs i next found at

pub set_other : {X : Type 0} (xs : List X) (i k : ℕ) (next : X) → k ≢ i → slice_get (set xs i next) k ≡ slice_get xs k
set_other [] i k next apart = refl
set_other (x ∷ xs) zero zero next apart = absurd (apart refl)
set_other (x ∷ xs) zero (suc k) next apart = refl
set_other (x ∷ xs) (suc i) zero next apart = refl
set_other (x ∷ xs) (suc i) (suc k) next apart = set_other xs i k next (λ same. apart (ap suc same))

pub one_found : {X : Type 0} {a b : X} → Some a ≡ Some b → a ≡ b
one_found e = cc

-- what is so of each object behind a write, where it was so of each other one
pub each_but : (P : ℕ → ObjectState → Type 0) (objects : List ObjectState) (place : ℕ) (old next : ObjectState) → slice_get objects place ≡ Some old
    → ((k : ℕ) (o : ObjectState) → k ≢ place → slice_get objects k ≡ Some o → P k o) → P place next → EachAt P (set objects place next)
each_but P objects place old next there each is k o at = by_place (eqb k place) refl
  where
    by_place : (b : Bool) → eqb k place ≡ b → P k o
    by_place true same =
        let e : k ≡ place = eqb-true k place same in
        let here : Some next ≡ Some o = sym (set_there objects place next old there) ∙ ap (slice_get (set objects place next)) (sym e) ∙ at in
        subst (λ (n : ℕ). P n o) (sym e) (subst (P place) (one_found here) is)
    by_place false apart = each k o (eqb-false k place apart) (sym (set_other objects place k next (eqb-false k place apart)) ∙ at)

-- ---- by the reference of the call's object

no_self : (kind : ObjectKind) → is_target kind kind ≡ true → ⊥
no_self kinds.Map is = cc
no_self kind is = cc

pub apart : (objects : List ObjectState) (place other : ℕ) (object target : ObjectState) → slice_get objects place ≡ Some object → slice_get objects other ≡ Some target → is_target (kind_of object) (kind_of target) ≡ true → other ≢ place
apart objects place other object target at there is same =
    let one : object ≡ target = one_found (sym at ∙ ap (slice_get objects) (sym same) ∙ there) in
    no_self (kind_of object) (subst (λ (o : ObjectState). is_target (kind_of object) (kind_of o) ≡ true) (sym one) is)

module _ (call : Call) (worker moment : ℕ) (objects : List ObjectState) (object : ObjectState) (at : slice_get objects call.object ≡ Some object) where
  pub turn_alone : reference_of (kind_of object) ≡ None → turn_at call worker moment objects ≡ with_object call.object objects (turn_on call.operation worker moment object)
  turn_alone none =
      ap (λ (o : Option ObjectState). option_map_or (λ object. turn_by (reference_of (kind_of object)) call worker moment objects object) o (objects, answers.Still)) at
      ∙ ap (λ (o : Option ℕ). turn_by o call worker moment objects object) none

  pub items_alone : reference_of (kind_of object) ≡ None → items_at call worker moment objects ≡ items_on call.operation worker moment call.object object
  items_alone none =
      ap (λ (o : Option ObjectState). option_map_or (λ object. items_by (reference_of (kind_of object)) call worker moment objects object) o []) at
      ∙ ap (λ (o : Option ℕ). items_by o call worker moment objects object) none

  module _ (other : ℕ) (target : ObjectState) (some : reference_of (kind_of object) ≡ Some other) (there : slice_get objects other ≡ Some target) where
    pub turn_referring : turn_at call worker moment objects ≡ with_both call.object other objects (turn_on_both call.operation worker moment object target)
    turn_referring =
        ap (λ (o : Option ObjectState). option_map_or (λ object. turn_by (reference_of (kind_of object)) call worker moment objects object) o (objects, answers.Still)) at
        ∙ ap (λ (o : Option ℕ). turn_by o call worker moment objects object) some
        ∙ ap (λ (o : Option ObjectState). option_map_or (λ target. with_both call.object other objects (turn_on_both call.operation worker moment object target)) o (objects, answers.Still)) there

    pub items_referring : items_at call worker moment objects ≡ items_on_both call.operation worker moment call.object other object target
    items_referring =
        ap (λ (o : Option ObjectState). option_map_or (λ object. items_by (reference_of (kind_of object)) call worker moment objects object) o []) at
        ∙ ap (λ (o : Option ℕ). items_by o call worker moment objects object) some
        ∙ ap (λ (o : Option ObjectState). option_map_or (λ target. items_on_both call.operation worker moment call.object other object target) o []) there

-- what is left, and where the worker stands
module _ (call : Call) (objects : List ObjectState) (object : ObjectState) (at : slice_get objects call.object ≡ Some object) where
  pub left_alone : (plan : Plan) (worker before : ℕ) → reference_of (kind_of object) ≡ None → left_at plan worker before call objects ≡ left_on plan worker before call.object call.operation object
  left_alone plan worker before none =
      ap (λ (o : Option ObjectState). left_found plan worker before call o objects) at ∙ ap (λ (o : Option ℕ). left_by plan worker before call o objects object) none

  pub left_referring : (plan : Plan) (worker before other : ℕ) (target : ObjectState) → reference_of (kind_of object) ≡ Some other → slice_get objects other ≡ Some target
      → left_at plan worker before call objects ≡ left_on_both plan worker before call.object other call.operation object target
  left_referring plan worker before other target some there =
      ap (λ (o : Option ObjectState). left_found plan worker before call o objects) at ∙ ap (λ (o : Option ℕ). left_by plan worker before call o objects object) some
      ∙ ap (λ (o : Option ObjectState). left_beside plan worker before call other object o) there

  pub stands_alone : (worker : ℕ) → reference_of (kind_of object) ≡ None → StandsFound worker call (slice_get objects call.object) objects ≡ StandsOn call.operation worker object
  stands_alone worker none = ap (λ (o : Option ObjectState). StandsFound worker call o objects) at ∙ ap (λ (o : Option ℕ). StandsBy worker call o objects object) none

  pub stands_referring : (worker other : ℕ) (target : ObjectState) → reference_of (kind_of object) ≡ Some other → slice_get objects other ≡ Some target
      → StandsFound worker call (slice_get objects call.object) objects ≡ StandsOnBoth call.operation worker object target
  stands_referring worker other target some there =
      ap (λ (o : Option ObjectState). StandsFound worker call o objects) at ∙ ap (λ (o : Option ℕ). StandsBy worker call o objects object) some
      ∙ ap (λ (o : Option ObjectState). StandsBeside worker call object o) there
