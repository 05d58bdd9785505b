use Rattle.std.proofs.Common.{◌++◌}
use Rattle.step_runner.specs.Outcomes.{rounds}
use Rattle.step_runner.specs.Traces.{trace_of}
use Rattle.race_clocks.proofs.CallRows.{all_told}
use Rattle.race_clocks.proofs.DoneOnce.{do_then}
use Rattle.race_clocks.proofs.laws.calls.a_do_that_ran_is_before_each_later_do.Goals as goal

pub returns : goal.returns
returns c plan i j once sum earlier ran done =
    let whole = c.a_trace_tells_what_turns_made.ensures.whole plan in
    do_then plan (trace_of plan) (all_told plan (trace_of plan) (plan.schedule ++ rounds whole.0 plan.workers) whole.1) i j once sum earlier ran done
