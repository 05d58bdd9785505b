use Rattle.std.proofs.Common.{◌++◌}
use Rattle.step_runner.specs.Outcomes.{rounds}
use Rattle.step_runner.specs.Traces.{trace_of}
use Rattle.race_clocks.proofs.CallRows.{all_told, reader_then_lock, reader_then_try_lock}
use Rattle.race_clocks.proofs.laws.calls.a_readers_unlock_is_before_each_later_completed_lock.Goals as goal

pub returns-clause-lock : goal.returns-clause-lock
returns-clause-lock c plan i j place w d reply earlier one unlock completes =
    let whole = c.a_trace_tells_what_turns_made.ensures.whole plan in
    reader_then_lock plan (trace_of plan) (all_told plan (trace_of plan) (plan.schedule ++ rounds whole.0 plan.workers) whole.1) i j place earlier w d one unlock reply completes

pub returns-clause-try_lock : goal.returns-clause-try_lock
returns-clause-try_lock c plan i j place w d earlier one unlock completes =
    let whole = c.a_trace_tells_what_turns_made.ensures.whole plan in
    reader_then_try_lock plan (trace_of plan) (all_told plan (trace_of plan) (plan.schedule ++ rounds whole.0 plan.workers) whole.1) i j place earlier w d one unlock completes
