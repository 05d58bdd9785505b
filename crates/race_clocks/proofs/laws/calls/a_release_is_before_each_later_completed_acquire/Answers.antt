use Rattle.std.proofs.Common.{◌++◌}
use Rattle.step_runner.specs.Outcomes.{rounds}
use Rattle.step_runner.specs.Traces.{trace_of}
use Rattle.race_clocks.proofs.CallRows.{all_told, weight_acquired, weight_tried}
use Rattle.race_clocks.proofs.laws.calls.a_release_is_before_each_later_completed_acquire.Goals as goal

pub returns-clause-acquire : goal.returns-clause-acquire
returns-clause-acquire c plan i j place w given weight d reply earlier one gives completes =
    let whole = c.a_trace_tells_what_turns_made.ensures.whole plan in
    weight_acquired plan (trace_of plan) (all_told plan (trace_of plan) (plan.schedule ++ rounds whole.0 plan.workers) whole.1) i j place earlier w d one given weight gives reply completes

pub returns-clause-try_acquire : goal.returns-clause-try_acquire
returns-clause-try_acquire c plan i j place w given weight d earlier one gives completes =
    let whole = c.a_trace_tells_what_turns_made.ensures.whole plan in
    weight_tried plan (trace_of plan) (all_told plan (trace_of plan) (plan.schedule ++ rounds whole.0 plan.workers) whole.1) i j place earlier w d one given weight gives completes
