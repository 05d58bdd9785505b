use Rattle.std.proofs.Common.{◌++◌}
use Rattle.step_runner.specs.Outcomes.{rounds}
use Rattle.step_runner.specs.Traces.{trace_of}
use Rattle.race_clocks.proofs.CallRows.{all_told}
use Rattle.race_clocks.proofs.ComposedCalls.{go_then}
use Rattle.race_clocks.proofs.laws.calls.a_completed_go_is_before_the_first_item_of_its_worker.Goals as goal

pub returns : goal.returns
returns c plan i j group place started reply e earlier completes m none =
    let whole = c.a_trace_tells_what_turns_made.ensures.whole plan in
    go_then plan (trace_of plan) (all_told plan (trace_of plan) (plan.schedule ++ rounds whole.0 plan.workers) whole.1) i group started reply completes j place e earlier m none
