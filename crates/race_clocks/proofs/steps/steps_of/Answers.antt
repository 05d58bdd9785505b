use Rattle.std.proofs.Common.{◌≡◌, ℕ, ◌+◌, ◌<◌, List, [], ◌∷◌, ◌++◌, length, Some, sym, subst, ap, ◌∙◌, arith}
use Rattle.std.specs.Prelude.{All, slice_get}
use Rattle.vector_clocks.specs.Fits.{StepFits}
use Rattle.vector_clocks.specs.declared.step.Step.{Step}
use Rattle.step_runner.specs.declared.trace.TraceItem.{TraceItem}
use Rattle.step_runner.specs.Traces.{trace_of}
use Rattle.race_clocks.specs.Stepping.{AreSteps}
use Rattle.race_clocks.proofs.StepByStep.{agree_all, within_next}
use Rattle.race_clocks.proofs.Stepping.{item_at, steps_more, steps_begin, steps_fit}
use Rattle.race_clocks.proofs.steps.steps_of.Goals as goal

-- the turn stands in the trace
at_turn : (items trace : List TraceItem) (i : ℕ) (turn : TraceItem) → items ≡ trace → slice_get items i ≡ Some turn → slice_get trace i ≡ Some turn
at_turn items trace i turn same at = ap (λ (list : List TraceItem). slice_get list i) (sym same) ∙ at

pub loop-turn-init : goal.loop-turn-init
loop-turn-init c = record {
  count = ap (λ (list : List Step). length list) c.new-steps.ensures.items;
  are = steps_begin c.args.workload.now c.args.trace.now c.new-steps.result.items c.new-seen.result c.new-numbers.result c.new-steps.ensures.items c.new-seen.ensures c.new-numbers.ensures;
}

pub step_of-requires-clause-are : goal.step_of-requires-clause-are
step_of-requires-clause-are c = c.loop-turn.invariant.are.comes.are

pub step_of-requires-clause-numbered : goal.step_of-requires-clause-numbered
step_of-requires-clause-numbered c = c.loop-turn.invariant.are.numbered

pub step_of-requires-clause-small : goal.step_of-requires-clause-small
step_of-requires-clause-small c call is_call =
    let plan = c.args.workload.now in
    let i : ℕ = c.loop-turn.turn-index in
    let turn : TraceItem = c.turn-item.result in
    let at : slice_get (trace_of plan) i ≡ Some turn = at_turn c.as_slice-turn-items.result.now (trace_of plan) i turn (c.as_slice-turn-items.ensures ∙ c.requires) (item_at c.as_slice-turn-items.result.now i turn c.turn-item.is c.loop-turn-test.true) in
    c.turns_call_objects_at_small_places.ensures plan i turn call c.workers-workers.ensures.readable at is_call

pub loop-turn-preserved : goal.loop-turn-preserved
loop-turn-preserved c =
    let plan = c.args.workload.now in
    let trace : List TraceItem = c.args.trace.now in
    let i : ℕ = c.loop-turn.turn-index in
    let turn : TraceItem = c.turn-item.result in
    let steps : List Step = c.loop-turn.steps.items in
    let step : Step = c.in_ok-step_of.field-0 in
    let count : length steps ≡ i = c.loop-turn.invariant.count in
    let pushed : c.push.new.self.items ≡ steps ++ step ∷ [] = c.in_ok-push.ensures.items in
    let at : slice_get trace i ≡ Some turn = at_turn c.as_slice-turn-items.result.now trace i turn c.as_slice-turn-items.ensures (item_at c.as_slice-turn-items.result.now i turn c.turn-item.is c.loop-turn-test.true) in
    let here : slice_get trace (length steps) ≡ Some turn = subst (λ m. slice_get trace m ≡ Some turn) (sym count) at in
    let less : turn.worker < plan.workers = c.turns_are_of_workers.ensures plan i turn c.workers-workers.ensures.valid (ap (λ (list : List TraceItem). slice_get list i) (sym c.requires) ∙ at) in
    let worker : step.worker < plan.workers = subst (λ w. w < plan.workers) (sym c.in_ok-step_of.ensures.worker) less in
    let longer : length (steps ++ step ∷ []) ≡ length steps + 1 = let one = within_next steps step in omega (arith, one) in
    record {
      count = ap (λ (list : List Step). length list) pushed ∙ longer ∙ ap (λ m. m + 1) count;
      are = subst (λ (list : List Step). AreSteps plan trace list c.step_of.new.seen c.step_of.new.numbers) (sym pushed)
          (steps_more plan trace steps turn c.loop-turn.seen c.step_of.new.seen c.loop-turn.numbers c.step_of.new.numbers step c.loop-turn.invariant.are here c.in_ok-step_of.ensures worker);
    }

pub returns-clause-agree : goal.returns-clause-agree
returns-clause-agree c =
    let steps : List Step = c.loop-turn.steps.items in
    let count : length steps ≡ c.loop-turn.turn-index = c.loop-turn.invariant.count in
    let all : length c.as_slice-turn-items.result.now ≡ length c.args.trace.now = ap (λ (list : List TraceItem). length list) c.as_slice-turn-items.ensures in
    let ended : c.loop-turn.turn-index ≡ length c.as_slice-turn-items.result.now = omega (arith, c.loop-turn-test.false, c.loop-turn.auto.turn-index-end) in
    agree_all c.args.workload.now c.args.trace.now steps (count ∙ ended ∙ all) c.loop-turn.invariant.are.agree

pub returns-clause-fit : goal.returns-clause-fit
returns-clause-fit c =
    let plan = c.args.workload.now in
    subst (λ (m : ℕ). All (StepFits plan.workers m) c.loop-turn.steps.items) (sym c.count.ensures)
    (steps_fit plan c.args.trace.now c.loop-turn.steps.items c.loop-turn.seen c.loop-turn.numbers c.loop-turn.invariant.are)
