-- What the turn of a `go` comes to, by what the group answers to its `add`.
use Rattle.std.proofs.Common.{◌≡◌, ℕ, ◌+◌, ◌-◌, ◌^◌, ◌<◌, ◌≤◌, Bool, true, false, List, [], ◌∷◌, ◌++◌, length, set, Some, None, refl, sym, subst, arith}
use Rattle.std.specs.Prelude.{pos, slice_get, nat_le, if◌then◌else◌}
use Rattle.std.proofs.lemmas.Bool.{lt-ltb, leb-true, leb-false}
use Rattle.script_calls.specs.declared.call.Call.{Call}
use Rattle.script_calls.specs.declared.call.ComposedCall.TheVariants.{Go}
use Rattle.script_calls.specs.declared.call.Operation.{Operation}
use Rattle.script_calls.specs.declared.call.Operation.TheVariants as operations
use Rattle.wait_cores.specs.GroupMachine.{GroupState, callers_of, added, next}
use Rattle.wait_cores.specs.declared.group.GroupEvent.TheVariants.{Add}
use Rattle.wait_cores.specs.declared.group.GroupReply.{GroupReply}
use Rattle.wait_cores.specs.declared.group.GroupReply.TheVariants.{Still}
use Rattle.protocols.specs.GroupStages.{group_meaning}
use Rattle.protocols.specs.declared.wait_group.GroupStage.TheVariants as stage
use Rattle.workload.specs.Plan.{has_call}
use Rattle.step_runner.specs.declared.turns.answer.Answer.{Answer}
use Rattle.step_runner.specs.declared.turns.object_state.ObjectState.{ObjectState}
use Rattle.step_runner.specs.declared.turns.object_state.ObjectState.TheVariants as states
use Rattle.step_runner.specs.Due.{returned}
use Rattle.step_runner.specs.Goes.{add_item, HasGone}
use Rattle.step_runner.specs.declared.turns.item.Item.{Item}
use Rattle.step_runner.specs.Items.{items_at}
use Rattle.step_runner.specs.Objects.{kind_of, IsMachineOf}
use Rattle.step_runner.specs.Ready.{IsReady}
use Rattle.step_runner.specs.Stages.{outcome_of, answer_by}
use Rattle.step_runner.specs.StandsWithin.{ReadyBy, IsReadyWithin}
use Rattle.step_runner.specs.TurnAtObjects.{turn_at}
use Rattle.step_runner.specs.TurnWithin.{add_one, start_item, start_items, turn_by_operation, turn_within, items_by_operation, items_within}
use Rattle.step_runner.proofs.SpeltAtObjects.{set_there, turn_alone, items_alone}
use Rattle.step_runner.proofs.Writes.{set_back}
use Rattle.step_runner.proofs.Refuted.{no}

module _ (call : Call) (workers worker moment started : ℕ) (objects : List ObjectState) where
  -- the objects behind the group's step and the turn's answer, and what the turn makes
  abbrev Gone : List ObjectState × Answer → List Item → Type 0
  Gone step made = HasGone call worker started objects step.0 (made ++ start_items step.1 (start_item worker (length objects) started)) step.1

  module _ (g : GroupState) (first : ℕ) (there : slice_get objects call.object ≡ Some (states.WaitGroup g first)) where
    abbrev Stepped : GroupState × GroupReply → Type 0
    Stepped step = Gone (set objects call.object (states.WaitGroup step.0 first), answer_by returned (outcome_of (group_meaning (stage.Add (pos 1)) step.1))) (add_item call worker started step.1 ∷ [])

    by_sum : (b : Bool) → nat_le (g.counter + 1) (2 ^ 31 - 1) ≡ b → Stepped (added (if b then Some (g.counter + 1) else None) g)
    by_sum true fits =
        let below : g.counter + 1 < 2 ^ 31 = omega (arith, leb-true (g.counter + 1) (2 ^ 31 - 1) fits) in
        (refl, (g.counter, (g, first, there, refl), (_, first, set_there objects call.object _ (states.WaitGroup g first) there, refl), below), refl)
    by_sum false full =
        let above : 2 ^ 31 ≤ g.counter + 1 = omega (arith, leb-false (g.counter + 1) (2 ^ 31 - 1) full) in
        ((g.counter, (g, first, there, refl), above, set_back objects call.object (states.WaitGroup g first) there), refl)

    by_step : worker < callers_of g → Stepped (next g worker (Add (pos 1)))
    by_step below = subst (λ (b : Bool). Stepped (if b then added (if nat_le (g.counter + 1) (2 ^ 31 - 1) then Some (g.counter + 1) else None) g else (g, Still))) (sym (lt-ltb worker (callers_of g) below))
        (by_sum (nat_le (g.counter + 1) (2 ^ 31 - 1)) refl)

    by_turn : worker < callers_of g → Gone (turn_at (add_one call.object) worker moment objects) (items_at (add_one call.object) worker moment objects)
    by_turn below =
        subst (λ (step : List ObjectState × Answer). Gone step (items_at (add_one call.object) worker moment objects)) (sym (turn_alone (add_one call.object) worker moment objects (states.WaitGroup g first) there refl))
        (subst (Gone (set objects call.object (states.WaitGroup (next g worker (Add (pos 1))).0 first), answer_by returned (outcome_of (group_meaning (stage.Add (pos 1)) (next g worker (Add (pos 1))).1))))
        (sym (items_alone (add_one call.object) worker moment objects (states.WaitGroup g first) there refl)) (by_step below))

  by_object : (object : ObjectState) → slice_get objects call.object ≡ Some object → has_call (kind_of object) (add_one call.object).operation ≡ true → IsMachineOf workers object → worker < workers
      → Gone (turn_at (add_one call.object) worker moment objects) (items_at (add_one call.object) worker moment objects)
  by_object (states.WaitGroup g first) there has machine below = by_turn g first there (omega (arith, below, machine))
  by_object object there has machine below = no has

  by_operation : (operation : Operation) (begun : ℕ) → operations.Composed (Go started) ≡ operation → ReadyBy workers worker call objects operation
      → HasGone call worker started objects (turn_by_operation call worker moment begun objects operation).0.0 (items_by_operation call worker moment begun objects operation) (turn_by_operation call worker moment begun objects operation).1
  by_operation operation begun is = subst
      (λ (operation : Operation). ReadyBy workers worker call objects operation
      → HasGone call worker started objects (turn_by_operation call worker moment begun objects operation).0.0 (items_by_operation call worker moment begun objects operation) (turn_by_operation call worker moment begun objects operation).1) is
      (λ (r : IsReady workers worker (add_one call.object) objects). by_object r.object r.there r.has r.machine r.below)

pub has_gone : (workers worker moment begun started : ℕ) (call : Call) (objects : List ObjectState) → IsReadyWithin workers worker call objects → call.operation ≡ operations.Composed (Go started)
    → HasGone call worker started objects (turn_within call worker moment begun objects).0.0 (items_within call worker moment begun objects) (turn_within call worker moment begun objects).1
has_gone workers worker moment begun started call objects ready is = by_operation call workers worker moment started objects call.operation begun (sym is) ready
