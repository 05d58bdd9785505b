-- What the turn of a `go` spells: its `add` as a call of the wait group does, and the start behind that.
use Rattle.std.proofs.Common.{◌≡◌, ℕ, ◌+◌, List, [], ◌∷◌, ◌++◌, map, length, refl, sym, ap, ◌∙◌, subst, append-nil}
use Rattle.std.specs.Prelude.{pos, Ok, Err}
use Rattle.sync_model.specs.declared.answer.Answer.TheVariants.{Done, Halted}
use Rattle.script_calls.specs.declared.call.Call.{Call}
use Rattle.script_calls.specs.declared.call.ComposedCall.TheVariants.{Go}
use Rattle.script_calls.specs.declared.call.Operation.TheVariants as operations
use Rattle.script_calls.specs.declared.call.Reply.{Reply}
use Rattle.script_calls.specs.declared.call.Reply.TheVariants as replies
use Rattle.sync_types.specs.declared.wait_call.WaitGroupCall.TheVariants as group_calls
use Rattle.starts_core.specs.StartsStages.{starts_event, starts_meaning}
use Rattle.starts_core.specs.declared.protocol.StartsOutcome.TheVariants as outcome
use Rattle.starts_core.specs.declared.protocol.StartsStage.TheVariants as stage
use Rattle.starts_core.specs.declared.starts.StartReply.TheVariants as told
use Rattle.protocols.specs.Spelling.{CallAnswer}
use Rattle.protocols.specs.declared.step.Step.TheVariants.{Finished}
use Rattle.run_record.specs.Objects.{starts_number}
use Rattle.run_record.specs.Parts.{Part, read_as}
use Rattle.run_record.specs.Record.{object_number, shared_in}
use Rattle.run_record.specs.StartsKind.{starts_part, go_call}
use Rattle.run_record.specs.WaitGroupKind.{wait_group_call}
use Rattle.run_record.specs.declared.entered.ObjectEvent.TheVariants as events
use Rattle.run_record.specs.declared.entered.ObjectReply.TheVariants as answered
use Rattle.run_record.specs.declared.made.Made.{Made}
use Rattle.workload.specs.Draft.{all_keys}
use Rattle.workload.specs.Plan.{Plan}
use Rattle.step_runner.specs.declared.turns.answer.Answer.{Answer}
use Rattle.step_runner.specs.declared.turns.answer.Answer.TheVariants as answers
use Rattle.step_runner.specs.declared.turns.object_state.ObjectState.{ObjectState}
use Rattle.step_runner.specs.declared.turns.object_state.ObjectState.TheVariants as states
use Rattle.step_runner.specs.declared.turns.item.Item.{Item}
use Rattle.step_runner.specs.Items.{items_at}
use Rattle.step_runner.specs.Left.{left_at}
use Rattle.step_runner.specs.MapKeys.{HasObjectKeysIn}
use Rattle.step_runner.specs.Objects.{kind_of, EachAt}
use Rattle.step_runner.specs.Recorded.{recorded_reply, recorded}
use Rattle.step_runner.specs.Stands.{IsOutBut}
use Rattle.step_runner.specs.StandsWithin.{IsReadyWithin, waits_within, IsWithinCall, StandsAfter, whole_at, left_within}
use Rattle.step_runner.specs.Tells.{Tells}
use Rattle.step_runner.specs.TurnAtObjects.{turn_at}
use Rattle.step_runner.specs.TurnWithin.{add_one, start_item, start_items, turn_within, items_within}
use Rattle.step_runner.specs.Within.{StandsBehind}
use Rattle.step_runner.proofs.GoTurns.{GroupAt, group_there}
use Rattle.step_runner.proofs.Spelled.{event_made, says}
use Rattle.step_runner.proofs.SpeltAtObjects.{left_alone}
use Rattle.step_runner.proofs.SpeltLines.{recorded-append}
use Rattle.step_runner.proofs.WaitSpelt.{TurnLaws, goes_on}

module _ (plan : Plan) (worker place started : ℕ) where
  abbrev pub go : Call
  go = record { object = place; operation = operations.Composed (Go started) }

  -- the `add`, and the whole call
  abbrev pub added : Part (Reply ℕ)
  added = wait_group_call (object_number place) (group_calls.Add (pos 1))

  abbrev pub whole : Part (Reply ℕ)
  whole = go_call (object_number place) (starts_number plan) started

  -- ---- what is left, at a wait group

  module _ (before : ℕ) (objects : List ObjectState) (w : GroupAt place objects) where
    pub left_add : left_at plan worker before (add_one place) objects ≡ added
    left_add = left_alone (add_one place) objects (states.WaitGroup w.g w.first) w.there plan worker before refl

    pub left_go : (begun : ℕ) → left_within plan worker before go objects begun ≡ whole
    left_go begun = ap (whole_at plan worker before go objects) w.there

  -- ---- the start

  abbrev started_behind : Part (Reply ℕ)
  started_behind = read_as (λ ended. replies.Returned) (starts_part (starts_number plan) (stage.Start started))

  -- the start in a record
  abbrev start : Made
  start = event_made events.Starts answered.Starts starts_event starts_meaning (starts_number plan) worker (starts_event (stage.Start started) 0) told.Done

  start_spelt : started_behind (start ∷ []) (Done (Ok replies.Returned))
  start_spelt = (Done (Ok outcome.Done), says events.Starts answered.Starts starts_event starts_meaning (starts_number plan) worker (stage.Start started) 0 told.Done (Finished outcome.Done) refl, refl)

  one : {a b : Reply ℕ} → ◌≡◌ {A = CallAnswer (Reply ℕ)} (Done (Ok a)) (Done (Ok b)) → b ≡ a
  one e = cc

  -- an `add` that is completed returns
  add_returns : (made : List Made) (reply : Reply ℕ) → added made (Done (Ok reply)) → replies.Returned ≡ reply
  add_returns made reply (Done (Ok done), spelt, same) = one same
  add_returns made reply (Done (Err misuse), spelt, same) = absurd cc
  add_returns made reply (Halted misuse, spelt, same) = absurd cc

  -- ---- the turn

  -- what the items of the `add` are of it, they are of the call with the start
  go_tells : (before count : ℕ) (made : List Item) (a : Answer) → Tells plan added added (recorded plan before made) a → Tells plan whole whole (recorded plan before (made ++ start_items a (start_item worker count started))) a
  go_tells before count made answers.Still tells = ap (recorded plan before) (append-nil made) ∙ tells
  go_tells before count made answers.Unfinished tells = subst (λ (l : List Item). Tells plan whole whole (recorded plan before l) answers.Unfinished) (sym (append-nil made))
      (λ later answer left. goes_on plan added added (λ reply. started_behind) (recorded plan before made) later answer tells left)
  go_tells before count made (answers.Completed reply) tells =
      let first = recorded plan before made in
      let given = recorded_reply plan reply in
      subst (λ (l : List Made). whole l (Done (Ok given))) (sym (recorded-append plan before made (start_item worker count started ∷ [])))
      (first, start ∷ [], Done (Ok given), refl, tells, subst (λ (r : Reply ℕ). started_behind (start ∷ []) (Done (Ok r))) (add_returns first given tells) start_spelt)
  go_tells before count made (answers.Misused misuse) tells = subst (λ (l : List Item). whole (recorded plan before l) (Done (Err misuse))) (sym (append-nil made))
      (recorded plan before made, [], Done (Err misuse), sym (append-nil (recorded plan before made)), tells, (refl, refl))

  go_stands : (a : Answer) (begun : ℕ) (objects : List ObjectState) → StandsBehind worker (add_one place) a objects → StandsAfter worker go a begun objects
  go_stands answers.Still begun objects stands = stands
  go_stands answers.Unfinished begun objects stands = stands
  go_stands (answers.Completed reply) begun objects stands = stands
  go_stands (answers.Misused misuse) begun objects stands = tt

  pub own_go : TurnLaws → (before later moment begun : ℕ) (objects : List ObjectState) → IsReadyWithin plan.workers worker go objects → EachAt (λ k. HasObjectKeysIn (all_keys plan.scripts)) objects
      → IsOutBut (waits_within (map kind_of objects) go begun) worker objects → IsWithinCall worker go begun objects
      → let taken = turn_within go worker moment begun objects in
      Tells plan (left_within plan worker before go objects begun) (left_within plan worker later go taken.0.0 taken.0.1) (recorded plan before (items_within go worker moment begun objects)) taken.1 × StandsAfter worker go taken.1 taken.0.1 taken.0.0
  own_go laws before later moment begun objects ready keys out within =
      let add = add_one place in
      let step = turn_at add worker moment objects in
      let made = items_at add worker moment objects in
      let w = group_there plan.workers worker place (group_calls.Add (pos 1)) objects ready in
      let n = group_there plan.workers worker place (group_calls.Add (pos 1)) step.0 (laws.ready plan.workers worker moment worker add add objects ready ready) in
      let own = laws.own plan worker before moment add objects ready refl keys out within in
      let count = before + length (shared_in (recorded plan before made)) in
      let of_add : Tells plan added added (recorded plan before made) step.1 =
      subst (λ (old : Part (Reply ℕ)). Tells plan old added (recorded plan before made) step.1) (left_add before objects w)
      (subst (λ (new : Part (Reply ℕ)). Tells plan (left_at plan worker before add objects) new (recorded plan before made) step.1) (left_add count step.0 n) own.0) in
      let all = recorded plan before (items_within go worker moment begun objects) in (
        subst (λ (old : Part (Reply ℕ)). Tells plan old (left_within plan worker later go step.0 begun) all step.1) (sym (left_go before objects w begun))
            (subst (λ (new : Part (Reply ℕ)). Tells plan whole new all step.1) (sym (left_go later step.0 n begun)) (go_tells before (length objects) made step.1 of_add)),
        go_stands step.1 begun step.0 own.1,
      )
