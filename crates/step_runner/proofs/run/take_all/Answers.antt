use Rattle.std.proofs.Common.{inl, inr, ◌∙◌, ap}
use Rattle.step_runner.specs.declared.step.Step.{Step}
use Rattle.step_runner.specs.Traces.{traced_from, all_rounds_traced}
use Rattle.step_runner.specs.Turns.{items_of}
use Rattle.step_runner.proofs.TraceLemmas.{then_still, then_made}
use Rattle.step_runner.proofs.run.take_all.Goals as goal

pub returns-in-Still-clause-noted : goal.returns-in-Still-clause-noted
returns-in-Still-clause-noted c =
    let plan = c.args.workload.now in
    let s = c.args.state.now.state in
    let t = c.take_schedule.new.state.state in
    elim c.in-Still.is [
      | inl is ↦
          then_still c.take_rounds.result (traced_from plan plan.schedule s) (items_of plan plan.schedule s) (all_rounds_traced plan) t c.args.trace.now c.take_schedule.new.trace c.take_rounds.new.trace
          (c.in_ok-take_schedule.ensures.items ∙ ap (λ (step : Step). (t, step)) is) c.in_ok-take_schedule.ensures.noted c.take_rounds.ensures.noted
      | inr is ↦
          then_made c.take_rounds.result (traced_from plan plan.schedule s) (items_of plan plan.schedule s) (all_rounds_traced plan) t c.args.trace.now c.take_schedule.new.trace c.take_rounds.new.trace
          (c.in_ok-take_schedule.ensures.items ∙ ap (λ (step : Step). (t, step)) is) c.in_ok-take_schedule.ensures.noted c.take_rounds.ensures.noted
    ]
