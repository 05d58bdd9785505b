-- What the items of a turn spell of its call, whether the call is a `waitfor`, a `go` or one that makes one turn at its objects.
use Rattle.std.proofs.Common.{◌≡◌, ◌≢◌, ℕ, zero, suc, ◌+◌, ◌-◌, Bool, List, [], ◌++◌, map, length, filter, Option, None, refl, sym, ap, ◌∙◌, subst, false}
use Rattle.std.specs.Prelude.{◌==◌, pos}
use Rattle.std.proofs.lemmas.List.Elements.{filter-append}
use Rattle.script_calls.specs.declared.call.Call.{Call}
use Rattle.script_calls.specs.declared.call.ComposedCall.TheVariants.{WaitFor, Go}
use Rattle.script_calls.specs.declared.call.Operation.{Operation}
use Rattle.script_calls.specs.declared.call.Operation.TheVariants as operations
use Rattle.script_calls.specs.declared.call.Reply.{Reply}
use Rattle.sync_types.specs.declared.wait_call.WaitGroupCall.TheVariants as group_calls
use Rattle.protocols.specs.Spelling.{CallAnswer}
use Rattle.run_record.specs.Calls.{call_on, call_at, SpellsCall}
use Rattle.run_record.specs.Objects.{atomic_number, starts_number}
use Rattle.run_record.specs.Parts.{Part, and_then}
use Rattle.run_record.specs.Record.{object_number, shared_in}
use Rattle.run_record.specs.Tests.{compared, waits_for}
use Rattle.run_record.specs.declared.made.Made.{Made}
use Rattle.workload.specs.declared.object.ObjectKind.{ObjectKind}
use Rattle.workload.specs.declared.object.ObjectLine.{ObjectLine}
use Rattle.workload.specs.Draft.{all_keys, is_access_operation}
use Rattle.workload.specs.Plan.{Plan}
use Rattle.step_runner.specs.declared.turns.answer.Answer.{Answer}
use Rattle.step_runner.specs.declared.turns.answer.Answer.TheVariants as answers
use Rattle.step_runner.specs.declared.turns.object_state.ObjectState.{ObjectState}
use Rattle.step_runner.specs.declared.turns.object_state.ObjectState.TheVariants as states
use Rattle.step_runner.specs.declared.turns.item.Item.{Item}
use Rattle.step_runner.specs.Items.{items_at}
use Rattle.step_runner.specs.Left.{left_at}
use Rattle.step_runner.specs.MapKeys.{HasObjectKeysIn}
use Rattle.step_runner.specs.Objects.{kind_of, EachAt}
use Rattle.step_runner.specs.Ready.{IsReady}
use Rattle.step_runner.specs.Recorded.{recorded}
use Rattle.step_runner.specs.Stands.{IsOutBut}
use Rattle.step_runner.specs.StandsWithin.{IsReadyWithin, waits_within, IsWithinCall, StandsAfter, left_within}
use Rattle.step_runner.specs.Tells.{Tells}
use Rattle.step_runner.specs.TurnAtObjects.{turn_at}
use Rattle.step_runner.specs.TurnWithin.{wait_on, load_of, add_one, turn_within, items_within, wait_for_items}
use Rattle.step_runner.specs.Within.{IsIdle, IsWithin, StandsBehind}
use Rattle.step_runner.proofs.Entered.{line_there}
use Rattle.step_runner.proofs.GoesOn.{CanBe, go_can}
use Rattle.step_runner.proofs.GoSpelt.{left_go, own_go}
use Rattle.step_runner.proofs.GoTurns.{group_there, start_own, start_no_others}
use Rattle.step_runner.proofs.WaitBegins.{wait_there, wait_kept, waited_then, left_unbegun, left_begun}
use Rattle.step_runner.proofs.WaitCan.{waits_can, waited_can, read_can}
use Rattle.step_runner.proofs.WaitSpelt.{TurnLaws, own_within}
use Rattle.step_runner.proofs.TurnsWithin.{turns_keep, all_items}

abbrev pub call_of : ℕ → Operation → Call
call_of place operation = record { object = place; operation = operation }

-- ---- own turns

abbrev IsPlain : Operation → Type 0
IsPlain (operations.Composed (WaitFor atomic value tries)) = ⊥
IsPlain (operations.Composed (Go started)) = ⊥
IsPlain operation = Unit {0}

stands_after : (worker place begun : ℕ) (operation : Operation) (a : Answer) (objects : List ObjectState) → IsPlain operation → let call = call_of place operation in
    StandsBehind worker call a objects → StandsAfter worker call a begun objects
stands_after worker place begun (operations.Composed (WaitFor atomic value tries)) a objects plain stands = absurd plain
stands_after worker place begun (operations.Composed (Go started)) a objects plain stands = absurd plain
stands_after worker place begun operation answers.Still objects plain stands = stands
stands_after worker place begun operation answers.Unfinished objects plain stands = stands
stands_after worker place begun operation (answers.Completed reply) objects plain stands = stands
stands_after worker place begun operation (answers.Misused misuse) objects plain stands = stands

module _ (laws : TurnLaws) (plan : Plan) (worker before moment begun place : ℕ) (objects : List ObjectState) where
  abbrev pub OwnSpelt : Call → Type 0
  OwnSpelt call =
      let taken = turn_within call worker moment begun objects in
      let made = recorded plan before (items_within call worker moment begun objects) in
      Tells plan (left_within plan worker before call objects begun) (left_within plan worker (before + length (shared_in made)) call taken.0.0 taken.0.1) made taken.1 × StandsAfter worker call taken.1 taken.0.1 taken.0.0

  pub own_spelt : (operation : Operation) → let call = call_of place operation in
      IsReadyWithin plan.workers worker call objects → is_access_operation operation ≡ false → EachAt (λ k. HasObjectKeysIn (all_keys plan.scripts)) objects → IsOutBut (waits_within (map kind_of objects) call begun) worker objects → IsWithinCall worker call begun objects → OwnSpelt call
  own_spelt (operations.Composed (WaitFor atomic value tries)) ready plain keys out within =
      own_within laws plan worker moment place atomic tries value before (before + length (shared_in (recorded plan before (wait_for_items worker moment place atomic value tries begun objects)))) begun objects ready keys out within
  own_spelt (operations.Composed (Go started)) ready plain keys out within =
      own_go plan worker place started laws before (before + length (shared_in (recorded plan before (items_within (call_of place (operations.Composed (Go started))) worker moment begun objects)))) moment begun objects ready keys out within
  own_spelt operation ready plain keys out within =
      let call = call_of place operation in
      let told = laws.own plan worker before moment call objects ready plain keys out within in
      (told.0, stands_after worker place begun operation (turn_at call worker moment objects).1 (turn_at call worker moment objects).0 tt told.1)

-- ---- another's turns

-- what the laws of one turn say of another's
pub record OtherLaws : Type 0 where
  pub ready : (workers worker moment other : ℕ) (call own : Call) (objects : List ObjectState) → IsReady workers worker call objects → IsReady workers other own objects → IsReady workers other own (turn_at call worker moment objects).0
  pub kinds : (workers worker moment : ℕ) (call : Call) (objects : List ObjectState) → IsReady workers worker call objects → map kind_of (turn_at call worker moment objects).0 ≡ map kind_of objects
  pub others : (plan : Plan) (worker other before moment : ℕ) (own call : Call) (objects : List ObjectState) → IsReady plan.workers worker own objects → IsReady plan.workers other call objects → worker ≢ other
      → (IsWithin worker own objects → IsWithin worker own (turn_at call other moment objects).0)
      × ((later : List Made) (answer : CallAnswer (Reply ℕ)) → left_at plan worker before own (turn_at call other moment objects).0 later answer → left_at plan worker before own objects later answer)
  pub idle : (workers worker other moment : ℕ) (call : Call) (objects : List ObjectState) → IsReady workers other call objects → worker ≢ other → EachAt (λ k. IsIdle worker) objects → EachAt (λ k. IsIdle worker) (turn_at call other moment objects).0

-- whoever is ready is so behind another's turn at the objects
ready_on : (laws : OtherLaws) (workers worker other moment place : ℕ) (operation : Operation) (call : Call) (objects : List ObjectState) → let own = call_of place operation in
    IsReadyWithin workers worker own objects → IsReady workers other call objects → IsReadyWithin workers worker own (turn_at call other moment objects).0
ready_on laws workers worker other moment place (operations.Composed (WaitFor atomic value tries)) call objects ready by =
    (laws.ready workers other moment worker call (wait_on place) objects by ready.0, laws.ready workers other moment worker call (load_of atomic) objects by ready.1)
ready_on laws workers worker other moment place (operations.Composed (Go started)) call objects ready by = laws.ready workers other moment worker call (add_one place) objects by ready
ready_on laws workers worker other moment place operation call objects ready by = laws.ready workers other moment worker call (call_of place operation) objects by ready

waited_as : (old new : Part (Reply ℕ)) (next : Part Bool) → ((items : List Made) (answer : CallAnswer (Reply ℕ)) → new items answer → old items answer) → (items : List Made) (answer : CallAnswer (Reply ℕ)) → waited_then new next items answer → waited_then old next items answer
waited_as old new next on items answer (given, (earlier, later, mid, is, spelt, behind), same) = (given, (earlier, later, mid, is, on earlier mid spelt, behind), same)

module _ (laws : OtherLaws) (plan : Plan) (worker other before moment : ℕ) (apart : worker ≢ other) where
  -- the worker's call is where it was
  abbrev pub Kept : Call → ℕ → List ObjectState → List ObjectState → Type 0
  Kept own begun objects later =
      (IsWithinCall worker own begun objects → IsWithinCall worker own begun later)
      × ((items : List Made) (answer : CallAnswer (Reply ℕ)) → left_within plan worker before own later begun items answer → left_within plan worker before own objects begun items answer)

  -- behind a turn at the objects
  one_kept : (place : ℕ) (operation : Operation) (begun : ℕ) (call : Call) (objects : List ObjectState) → let own = call_of place operation in
      IsReadyWithin plan.workers worker own objects → IsReady plan.workers other call objects → Kept own begun objects (turn_at call other moment objects).0
  one_kept place (operations.Composed (WaitFor atomic value tries)) zero call objects ready by =
      let new = (turn_at call other moment objects).0 in
      let w = wait_there plan.workers worker place objects ready.0 in
      let n = wait_kept plan.workers worker place w.0 objects new w.1 (laws.kinds plan.workers other moment call objects by) (laws.ready plan.workers other moment worker call (wait_on place) objects by ready.0) in (
        laws.idle plan.workers worker other moment call objects by apart,
        λ items answer left.
            subst (λ (P : Part (Reply ℕ)). P items answer) (left_unbegun plan plan.workers worker before place w.0 new n atomic tries value ∙ sym (left_unbegun plan plan.workers worker before place w.0 objects w.1 atomic tries value)) left,
      )
  one_kept place (operations.Composed (WaitFor atomic value tries)) (suc begun) call objects ready by =
      let new = (turn_at call other moment objects).0 in
      let w = wait_there plan.workers worker place objects ready.0 in
      let n = wait_kept plan.workers worker place w.0 objects new w.1 (laws.kinds plan.workers other moment call objects by) (laws.ready plan.workers other moment worker call (wait_on place) objects by ready.0) in
      let kept = laws.others plan worker other before moment (wait_on place) call objects ready.0 by apart in
      let rest = waits_for (object_number place) (object_number w.0) (atomic_number plan.objects atomic) value (tries - suc begun) in (
        kept.0,
        λ items answer left.
            subst (λ (P : Part (Reply ℕ)). P items answer) (sym (left_begun plan plan.workers worker before place w.0 objects w.1 atomic tries value begun))
            (waited_as (left_at plan worker before (wait_on place) objects) (left_at plan worker before (wait_on place) new) rest kept.1 items answer
            (subst (λ (P : Part (Reply ℕ)). P items answer) (left_begun plan plan.workers worker before place w.0 new n atomic tries value begun) left)),
      )
  one_kept place (operations.Composed (Go started)) begun call objects ready by =
      let new = (turn_at call other moment objects).0 in
      let w = group_there plan.workers worker place (group_calls.Add (pos 1)) objects ready in
      let n = group_there plan.workers worker place (group_calls.Add (pos 1)) new (laws.ready plan.workers other moment worker call (add_one place) objects by ready) in (
        (laws.others plan worker other before moment (add_one place) call objects ready by apart).0,
        λ items answer left. subst (λ (P : Part (Reply ℕ)). P items answer) (left_go plan worker place started before new n begun ∙ sym (left_go plan worker place started before objects w begun)) left,
      )
  one_kept place operation begun call objects ready by = laws.others plan worker other before moment (call_of place operation) call objects ready by apart

  -- behind any turn
  module _ (own : Call) (begun later place : ℕ) (objects : List ObjectState) (ready : IsReadyWithin plan.workers worker own objects) where
    pub others_kept : (operation : Operation) → let call = call_of place operation in
        IsReadyWithin plan.workers other call objects → Kept own begun objects (turn_within call other moment later objects).0.0
    others_kept (operations.Composed (WaitFor atomic value tries)) by =
        (turns_keep other moment place atomic value tries (λ new. IsReadyWithin plan.workers worker own new × (IsReady plan.workers other (wait_on place) new × Kept own begun objects new))
        (λ new is.
        let kept = one_kept own.object own.operation begun (wait_on place) new is.0 is.1.0 in (
          ready_on laws plan.workers worker other moment own.object own.operation (wait_on place) new is.0 is.1.0,
          (laws.ready plan.workers other moment other (wait_on place) (wait_on place) new is.1.0 is.1.0, (λ within. kept.0 (is.1.1.0 within), λ items answer left. is.1.1.1 items answer (kept.1 items answer left))),
        ))
        later objects (ready, (by.0, (λ within. within, λ items answer left. left)))).1.1
    others_kept (operations.Composed (Go started)) by = one_kept own.object own.operation begun (add_one place) objects ready by
    others_kept operation by = one_kept own.object own.operation begun (call_of place operation) objects ready by

-- who is idle stays so
pub idle_kept : (laws : OtherLaws) (workers worker other moment begun place : ℕ) (operation : Operation) (objects : List ObjectState) → worker ≢ other → let call = call_of place operation in
    IsReadyWithin workers other call objects → EachAt (λ k. IsIdle worker) objects → EachAt (λ k. IsIdle worker) (turn_within call other moment begun objects).0.0
idle_kept laws workers worker other moment begun place (operations.Composed (WaitFor atomic value tries)) objects apart by idle =
    (turns_keep other moment place atomic value tries (λ new. IsReady workers other (wait_on place) new × EachAt (λ k. IsIdle worker) new)
    (λ new is. (laws.ready workers other moment other (wait_on place) (wait_on place) new is.0 is.0, laws.idle workers worker other moment (wait_on place) new is.0 apart is.1)) begun objects (by.0, idle)).1
idle_kept laws workers worker other moment begun place (operations.Composed (Go started)) objects apart by idle = laws.idle workers worker other moment (add_one place) objects by apart idle
idle_kept laws workers worker other moment begun place operation objects apart by idle = laws.idle workers worker other moment (call_of place operation) objects by apart idle

-- ---- the next call

-- what the law of the call at its objects says
abbrev pub EntersAt : Type 0
EntersAt = (plan : Plan) (worker before : ℕ) (call : Call) (objects : List ObjectState) → IsReady plan.workers worker call objects → map kind_of objects ≡ map (λ (line : ObjectLine). line.kind) plan.objects
    → EachAt (λ k. IsIdle worker) objects → IsOutBut None worker objects
    → IsWithin worker call objects × ((items : List Made) (answer : CallAnswer (Reply ℕ)) → left_at plan worker before call objects items answer → SpellsCall plan worker before call items answer)

pub enters_whole : EntersAt → (plan : Plan) (worker before place : ℕ) (operation : Operation) (objects : List ObjectState) → let call = call_of place operation in
    IsReadyWithin plan.workers worker call objects → map kind_of objects ≡ map (λ (line : ObjectLine). line.kind) plan.objects → EachAt (λ k. IsIdle worker) objects → IsOutBut None worker objects
    → IsWithinCall worker call 0 objects × ((items : List Made) (answer : CallAnswer (Reply ℕ)) → left_within plan worker before call objects 0 items answer → SpellsCall plan worker before call items answer)
enters_whole law plan worker before place (operations.Composed (WaitFor atomic value tries)) objects ready same idle out =
    let w = wait_there plan.workers worker place objects ready.0 in
    let operation = operations.Composed (WaitFor atomic value tries) in
    let line = line_there plan objects place (states.Cond w.1.c w.0) same w.1.there in (
      idle,
      λ items answer left.
          subst (λ (P : Part (Reply ℕ)). P items answer)
          (left_unbegun plan plan.workers worker before place w.0 objects w.1 atomic tries value ∙ ap (λ (k : ObjectKind). call_on plan worker before place k operation) line.2
          ∙ ap (λ (l : Option ObjectLine). call_at plan worker before place l operation) (sym line.1)) left,
    )
enters_whole law plan worker before place (operations.Composed (Go started)) objects ready same idle out =
    let w = group_there plan.workers worker place (group_calls.Add (pos 1)) objects ready in
    let operation = operations.Composed (Go started) in
    let line = line_there plan objects place (states.WaitGroup w.g w.first) same w.there in (
      (law plan worker before (add_one place) objects ready same idle out).0,
      λ items answer left.
          subst (λ (P : Part (Reply ℕ)). P items answer)
          (left_go plan worker place started before objects w 0 ∙ ap (λ (k : ObjectKind). call_on plan worker before place k operation) line.2
          ∙ ap (λ (l : Option ObjectLine). call_at plan worker before place l operation) (sym line.1)) left,
    )
enters_whole law plan worker before place operation objects ready same idle out = law plan worker before (call_of place operation) objects ready same idle out

abbrev pub GoesOnAt : Type 0
GoesOnAt = (plan : Plan) (worker before : ℕ) (call : Call) (objects : List ObjectState) → IsReady plan.workers worker call objects → is_access_operation call.operation ≡ false → CanBe (left_at plan worker before call objects)

pub goes_on : GoesOnAt → (plan : Plan) (worker before place : ℕ) (operation : Operation) (begun : ℕ) (objects : List ObjectState) → let call = call_of place operation in
    IsReadyWithin plan.workers worker call objects → is_access_operation operation ≡ false → CanBe (left_within plan worker before call objects begun)
goes_on law plan worker before place (operations.Composed (WaitFor atomic value tries)) zero objects ready plain =
    let w = wait_there plan.workers worker place objects ready.0 in
    let a = atomic_number plan.objects atomic in
    subst (λ (P : Part (Reply ℕ)). CanBe P) (sym (left_unbegun plan plan.workers worker before place w.0 objects w.1 atomic tries value))
    (read_can compared (waits_for (object_number place) (object_number w.0) a value tries) (waits_can plan (object_number place) (object_number w.0) a value tries))
goes_on law plan worker before place (operations.Composed (WaitFor atomic value tries)) (suc begun) objects ready plain =
    let w = wait_there plan.workers worker place objects ready.0 in
    let a = atomic_number plan.objects atomic in
    let rest = waits_for (object_number place) (object_number w.0) a value (tries - suc begun) in
    let first = left_at plan worker before (wait_on place) objects in
    subst (λ (P : Part (Reply ℕ)). CanBe P) (sym (left_begun plan plan.workers worker before place w.0 objects w.1 atomic tries value begun))
    (read_can compared (and_then first (λ waited. rest)) (waited_can first rest (law plan worker before (wait_on place) objects ready.0 refl) (waits_can plan (object_number place) (object_number w.0) a value (tries - suc begun))))
goes_on law plan worker before place (operations.Composed (Go started)) begun objects ready plain =
    let w = group_there plan.workers worker place (group_calls.Add (pos 1)) objects ready in
    subst (λ (P : Part (Reply ℕ)). CanBe P) (sym (left_go plan worker place started before objects w begun)) (go_can (object_number place) (starts_number plan) started)
goes_on law plan worker before place operation begun objects ready plain = law plan worker before (call_of place operation) objects ready plain

-- ---- whose items they are

abbrev pub AreOwn : Type 0
AreOwn = (worker moment : ℕ) (call : Call) (objects : List ObjectState) → filter (λ (item : Item). item.caller == worker) (items_at call worker moment objects) ≡ items_at call worker moment objects

abbrev pub AreNoOthers : Type 0
AreNoOthers = (worker other moment : ℕ) (call : Call) (objects : List ObjectState) → worker ≢ other → filter (λ (item : Item). item.caller == other) (items_at call worker moment objects) ≡ []

pub own_items : AreOwn → (worker moment begun place : ℕ) (operation : Operation) (objects : List ObjectState) → let made = items_within (call_of place operation) worker moment begun objects in
    filter (λ (item : Item). item.caller == worker) made ≡ made
own_items law worker moment begun place (operations.Composed (WaitFor atomic value tries)) objects =
    all_items worker moment place atomic value tries (λ made. filter (λ (item : Item). item.caller == worker) made ≡ made) refl
    (λ one two is are. filter-append (λ (item : Item). item.caller == worker) one two ∙ (λ i. is i ++ are i)) (law worker moment) begun objects
own_items law worker moment begun place (operations.Composed (Go started)) objects =
    let add = add_one place in
    start_own worker (length objects) started (items_at add worker moment objects) (turn_at add worker moment objects).1 (law worker moment add objects)
own_items law worker moment begun place operation objects = law worker moment (call_of place operation) objects

pub no_others : AreNoOthers → (worker other moment begun place : ℕ) (operation : Operation) (objects : List ObjectState) → worker ≢ other
    → filter (λ (item : Item). item.caller == other) (items_within (call_of place operation) worker moment begun objects) ≡ []
no_others law worker other moment begun place (operations.Composed (WaitFor atomic value tries)) objects apart =
    all_items worker moment place atomic value tries (λ made. filter (λ (item : Item). item.caller == other) made ≡ []) refl
    (λ one two is are. filter-append (λ (item : Item). item.caller == other) one two ∙ (λ i. is i ++ are i)) (λ call objects. law worker other moment call objects apart) begun objects
no_others law worker other moment begun place (operations.Composed (Go started)) objects apart =
    let add = add_one place in
    start_no_others worker (length objects) started (items_at add worker moment objects) (turn_at add worker moment objects).1 other apart (law worker other moment add objects apart)
no_others law worker other moment begun place operation objects apart = law worker other moment (call_of place operation) objects apart
