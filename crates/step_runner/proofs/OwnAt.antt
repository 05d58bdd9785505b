-- A worker's own turn at all objects.
use Rattle.std.proofs.Common.{◌≡◌, ◌≢◌, ℕ, ◌+◌, false, List, map, set, length, Option, Some, None, refl, sym, ap, ◌∙◌, subst, Bool}
use Rattle.std.specs.Prelude.{slice_get, if◌then◌else◌, unwrap_or}
use Rattle.std.specs.Option.{option_map, option_map_or}
use Rattle.std.proofs.lemmas.Option.{slice_get-map}
use Rattle.script_calls.specs.declared.call.Call.{Call}
use Rattle.script_calls.specs.declared.call.Reply.{Reply}
use Rattle.run_record.specs.Parts.{Part}
use Rattle.run_record.specs.Record.{shared_in}
use Rattle.run_record.specs.declared.made.Made.{Made}
use Rattle.workload.specs.declared.object.ObjectKind.{ObjectKind}
use Rattle.workload.specs.Draft.{all_keys, is_access_operation}
use Rattle.workload.specs.Plan.{Plan, reference_of}
use Rattle.step_runner.specs.declared.turns.answer.Answer.{Answer}
use Rattle.step_runner.specs.declared.turns.answer.Answer.TheVariants as answers
use Rattle.step_runner.specs.declared.turns.object_state.ObjectState.{ObjectState}
use Rattle.step_runner.specs.declared.turns.item.Item.{Item}
use Rattle.step_runner.specs.Items.{items_on, items_on_both, items_at}
use Rattle.step_runner.specs.MapKeys.{HasObjectKeysIn}
use Rattle.step_runner.specs.Objects.{kind_of, EachAt}
use Rattle.step_runner.specs.Ready.{IsReady}
use Rattle.step_runner.specs.Stands.{may_wait, waits_at, IsOutAt, IsOutBut}
use Rattle.step_runner.specs.TurnAtObjects.{turn_on, turn_on_both, turn_at}
use Rattle.step_runner.specs.Left.{left_on, left_on_both, left_at}
use Rattle.step_runner.specs.Recorded.{recorded}
use Rattle.step_runner.specs.Tells.{Tells}
use Rattle.step_runner.specs.Within.{IsIdle, StandsOn, StandsOnBoth, IsWithin, StandsBehind}
use Rattle.step_runner.proofs.SpeltAtObjects.{set_there, set_other, each_but, apart, turn_alone, items_alone, turn_referring, items_referring, left_alone, left_referring, stands_alone, stands_referring}
use Rattle.step_runner.proofs.SpellingLaws.{Laws}
use Rattle.step_runner.proofs.TurnOwn.{BehindOn, turn_own, BehindBoth, both_own}

-- what the law of turns says of kinds
abbrev pub KindsKept : Type 0
KindsKept = (workers worker moment : ℕ) (call : Call) (objects : List ObjectState) → IsReady workers worker call objects → map kind_of (turn_at call worker moment objects).0 ≡ map kind_of objects

some_kind : {a b : ObjectKind} → Some a ≡ Some b → a ≡ b
some_kind e = cc

-- the kind of the object at a place, among objects of the same kinds
pub same_kind : (objects others : List ObjectState) (place : ℕ) (o n : ObjectState) → map kind_of others ≡ map kind_of objects → slice_get objects place ≡ Some o → slice_get others place ≡ Some n → kind_of n ≡ kind_of o
same_kind objects others place o n kinds at there =
    some_kind (sym (ap (option_map kind_of) there) ∙ sym (slice_get-map kind_of others place) ∙ ap (λ (ks : List ObjectKind). slice_get ks place) kinds ∙ slice_get-map kind_of objects place ∙ ap (option_map kind_of) at)

-- a worker is out wherever its call doesn't wait
out_waitless : (objects : List ObjectState) (call : Call) (worker place : ℕ) (o : ObjectState) → IsOutBut (waits_at (map kind_of objects) call) worker objects → slice_get objects place ≡ Some o → may_wait call.operation ≡ false → IsOutAt worker o
out_waitless objects call worker place o out at is =
    out place o at (λ e.
    let waits = Some (unwrap_or (option_map_or reference_of (slice_get (map kind_of objects) call.object) None) call.object) in
    let none : None ≡ Some place = sym (ap (λ (b : Bool). if b then waits else None) is) ∙ e in
    cc)

-- ---- where it stands behind the turn

-- at the object that was written, and nowhere else
within_alone : (worker : ℕ) (call : Call) (objects : List ObjectState) (old next : ObjectState) → slice_get objects call.object ≡ Some old → reference_of (kind_of next) ≡ None
    → ((k : ℕ) (o : ObjectState) → k ≢ call.object → slice_get objects k ≡ Some o → IsIdle worker o) → StandsOn call.operation worker next → IsWithin worker call (set objects call.object next)
within_alone worker call objects old next at none elsewhere stands = record {
  here = subst (λ (T : Type 0). T) (sym (stands_alone call (set objects call.object next) next (set_there objects call.object next old at) worker none)) stands;
  elsewhere = each_but (λ place o. place ≢ call.object → IsIdle worker o) objects call.object old next at (λ k o apart there far. elsewhere k o apart there) (λ far. absurd (far refl));
}

behind_alone : (worker : ℕ) (call : Call) (a : Answer) (objects : List ObjectState) (old next : ObjectState) → slice_get objects call.object ≡ Some old → reference_of (kind_of next) ≡ None
    → ((k : ℕ) (o : ObjectState) → k ≢ call.object → slice_get objects k ≡ Some o → IsIdle worker o) → BehindOn call.operation worker a next → StandsBehind worker call a (set objects call.object next)
behind_alone worker call answers.Still objects old next at none elsewhere is = within_alone worker call objects old next at none elsewhere is
behind_alone worker call answers.Unfinished objects old next at none elsewhere is = within_alone worker call objects old next at none elsewhere is
behind_alone worker call (answers.Completed reply) objects old next at none elsewhere is = each_but (λ place. IsIdle worker) objects call.object old next at elsewhere is
behind_alone worker call (answers.Misused misuse) objects old next at none elsewhere is = tt

-- at the two objects that were written
module _ (worker : ℕ) (call : Call) (objects : List ObjectState) (other : ℕ) (old target next next_target : ObjectState) (at : slice_get objects call.object ≡ Some old) (there : slice_get objects other ≡ Some target) (two : other ≢ call.object)
    (some : reference_of (kind_of next) ≡ Some other) (elsewhere : (k : ℕ) (o : ObjectState) → k ≢ call.object → slice_get objects k ≡ Some o → IsIdle worker o) (idle : IsIdle worker next_target) where
  abbrev written : List ObjectState
  written = set (set objects call.object next) other next_target

  pub first_there : slice_get written call.object ≡ Some next
  first_there = set_other (set objects call.object next) other call.object next_target (λ same. two (sym same)) ∙ set_there objects call.object next old at

  other_there : slice_get (set objects call.object next) other ≡ Some target
  other_there = set_other objects call.object other next two ∙ there

  pub second_there : slice_get written other ≡ Some next_target
  second_there = set_there (set objects call.object next) other next_target target other_there

  within_both : StandsOnBoth call.operation worker next next_target → IsWithin worker call written
  within_both stands = record {
    here = subst (λ (T : Type 0). T) (sym (stands_referring call written next first_there worker other next_target some second_there)) stands;
    elsewhere = each_but (λ place o. place ≢ call.object → IsIdle worker o) (set objects call.object next) other target next_target other_there
        (λ k o apart found far. elsewhere k o far (sym (set_other objects call.object k next far) ∙ found)) (λ far. idle);
  }

  pub behind_both : (a : Answer) → BehindBoth call.operation worker a next next_target → StandsBehind worker call a written
  behind_both answers.Still is = within_both is
  behind_both answers.Unfinished is = within_both is
  behind_both (answers.Completed reply) is =
      each_but (λ place. IsIdle worker) (set objects call.object next) other target next_target other_there
      (λ k o apart found. each_but (λ place. IsIdle worker) objects call.object old next at elsewhere is k o found) idle
  behind_both (answers.Misused misuse) is = tt

module _ (laws : Laws) (kinds : KindsKept) (plan : Plan) (worker before moment : ℕ) (call : Call) (objects : List ObjectState) (r : IsReady plan.workers worker call objects) (plain : is_access_operation call.operation ≡ false) where
  abbrev pub Own : Part (Reply ℕ) → List Made → List ObjectState × Answer → Type 0
  Own old made x = Tells plan old (left_at plan worker (before + length (shared_in made)) call x.0) made x.1 × StandsBehind worker call x.1 x.0

  module _ (keys : EachAt (λ place. HasObjectKeysIn (all_keys plan.scripts)) objects) (out : IsOutBut (waits_at (map kind_of objects) call) worker objects) (within : IsWithin worker call objects) where
    own_alone : reference_of (kind_of r.object) ≡ None → Own (left_at plan worker before call objects) (recorded plan before (items_at call worker moment objects)) (turn_at call worker moment objects)
    own_alone none =
        let object = r.object in
        let step = turn_on call.operation worker moment object in
        let new = set objects call.object step.0 in
        let there = set_there objects call.object step.0 object r.there in
        let turn = turn_alone call worker moment objects object r.there none in
        let kind = same_kind objects new call.object object step.0 (ap (λ (x : List ObjectState × Answer). map kind_of x.0) (sym turn) ∙ kinds plan.workers worker moment call objects r) r.there there in
        let none_new = ap reference_of kind ∙ none in
        let stands = subst (λ (T : Type 0). T) (stands_alone call objects object r.there worker none) within.here in
        let own = turn_own laws plan worker before call.object moment call.operation object r.has none r.below r.machine (keys call.object object r.there) (out_waitless objects call worker call.object object out r.there) stands plain in
        let made = recorded plan before (items_on call.operation worker moment call.object object) in
        let told = subst (λ (P : Part (Reply ℕ)). Tells plan (left_on plan worker before call.object call.operation object) P made step.1) (sym (left_alone call new step.0 there plan worker (before + length (shared_in made)) none_new)) own.0 in
        let elsewhere : (k : ℕ) (o : ObjectState) → k ≢ call.object → slice_get objects k ≡ Some o → IsIdle worker o = λ k o apart at. within.elsewhere k o at apart in
        let stands_now : BehindOn call.operation worker step.1 step.0 → StandsBehind worker call step.1 new = behind_alone worker call step.1 objects object step.0 r.there none_new elsewhere in
        subst (λ (x : List ObjectState × Answer). Own (left_at plan worker before call objects) (recorded plan before (items_at call worker moment objects)) x) (sym turn)
        (subst (λ (l : List Item). Own (left_at plan worker before call objects) (recorded plan before l) (new, step.1)) (sym (items_alone call worker moment objects object r.there none))
        (subst (λ (P : Part (Reply ℕ)). Own P made (new, step.1)) (sym (left_alone call objects object r.there plan worker before none)) (told, stands_now own.1)))

    own_referring : (other : ℕ) → reference_of (kind_of r.object) ≡ Some other → Own (left_at plan worker before call objects) (recorded plan before (items_at call worker moment objects)) (turn_at call worker moment objects)
    own_referring other some =
        let object = r.object in
        let t = r.refers other some in
        let target = t.target in
        let two = apart objects call.object other object target r.there t.there t.is in
        let step = turn_on_both call.operation worker moment object target in
        let new = set (set objects call.object step.0.0) other step.0.1 in
        let turn = turn_referring call worker moment objects object r.there other target some t.there in
        let stands = subst (λ (T : Type 0). T) (stands_referring call objects object r.there worker other target some t.there) within.here in
        let own = both_own laws plan worker before call.object moment other call.operation object target r.has t.is r.below r.machine t.machine (keys call.object object r.there) (out_waitless objects call worker other target out t.there) stands in
        let elsewhere : (k : ℕ) (o : ObjectState) → k ≢ call.object → slice_get objects k ≡ Some o → IsIdle worker o = λ k o apart at. within.elsewhere k o at apart in
        let there = set_other (set objects call.object step.0.0) other call.object step.0.1 (λ same. two (sym same)) ∙ set_there objects call.object step.0.0 object r.there in
        let kind = same_kind objects new call.object object step.0.0 (ap (λ (x : List ObjectState × Answer). map kind_of x.0) (sym turn) ∙ kinds plan.workers worker moment call objects r) r.there there in
        let some_new = ap reference_of kind ∙ some in
        let second = set_there (set objects call.object step.0.0) other step.0.1 target (set_other objects call.object other step.0.0 two ∙ t.there) in
        let made = recorded plan before (items_on_both call.operation worker moment call.object other object target) in
        let told = subst (λ (P : Part (Reply ℕ)). Tells plan (left_on_both plan worker before call.object other call.operation object target) P made step.1)
        (sym (left_referring call new step.0.0 there plan worker (before + length (shared_in made)) other step.0.1 some_new second)) own.0 in
        let stands_now = behind_both worker call objects other object target step.0.0 step.0.1 r.there t.there two some_new elsewhere own.1.1 step.1 own.1.0 in
        subst (λ (x : List ObjectState × Answer). Own (left_at plan worker before call objects) (recorded plan before (items_at call worker moment objects)) x) (sym turn)
        (subst (λ (l : List Item). Own (left_at plan worker before call objects) (recorded plan before l) (new, step.1)) (sym (items_referring call worker moment objects object r.there other target some t.there))
        (subst (λ (P : Part (Reply ℕ)). Own P made (new, step.1)) (sym (left_referring call objects object r.there plan worker before other target some t.there)) (told, stands_now)))

    pub own_at : Own (left_at plan worker before call objects) (recorded plan before (items_at call worker moment objects)) (turn_at call worker moment objects)
    own_at = by_reference (reference_of (kind_of r.object)) refl
      where
        by_reference : (o : Option ℕ) → reference_of (kind_of r.object) ≡ o → Own (left_at plan worker before call objects) (recorded plan before (items_at call worker moment objects)) (turn_at call worker moment objects)
        by_reference None none = own_alone none
        by_reference (Some other) some = own_referring other some
