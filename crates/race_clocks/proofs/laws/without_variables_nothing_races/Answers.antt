use Rattle.std.proofs.Common.{◌++◌, slice_get, sym, ap, ◌∙◌}
use Rattle.step_runner.specs.Outcomes.{rounds}
use Rattle.step_runner.specs.Traces.{trace_of}
use Rattle.race_clocks.proofs.NoVariables.{no_races}
use Rattle.race_clocks.proofs.laws.without_variables_nothing_races.Goals as goal

pub returns : goal.returns
returns c plan races valid none are =
    let whole = c.a_trace_tells_what_turns_made.ensures.whole plan in
    let items = plan.schedule ++ rounds whole.0 plan.workers in
    no_races plan valid none (trace_of plan) (λ n one at. c.a_trace_tells_what_turns_made.ensures.places plan items n one (ap (λ trace. slice_get trace n) (sym whole.1) ∙ at)) races are
