use Rattle.std.proofs.Common.{◌++◌}
use Rattle.step_runner.specs.Outcomes.{rounds}
use Rattle.step_runner.specs.Traces.{trace_of}
use Rattle.race_clocks.proofs.CallRows.{all_told, added_then_waited, done_then_waited}
use Rattle.race_clocks.proofs.laws.calls.a_completed_done_is_before_each_later_completed_wait.Goals as goal

pub returns-clause-done : goal.returns-clause-done
returns-clause-done c plan i j group said reply earlier one completes =
    let whole = c.a_trace_tells_what_turns_made.ensures.whole plan in
    done_then_waited plan (trace_of plan) (all_told plan (trace_of plan) (plan.schedule ++ rounds whole.0 plan.workers) whole.1) i j group earlier said reply one completes

pub returns-clause-add : goal.returns-clause-add
returns-clause-add c plan i j group n said reply earlier one completes =
    let whole = c.a_trace_tells_what_turns_made.ensures.whole plan in
    added_then_waited plan (trace_of plan) (all_told plan (trace_of plan) (plan.schedule ++ rounds whole.0 plan.workers) whole.1) i j group earlier n said reply one completes
