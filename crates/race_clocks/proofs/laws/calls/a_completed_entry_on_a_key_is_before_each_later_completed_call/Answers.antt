use Rattle.std.proofs.Common.{◌++◌}
use Rattle.step_runner.specs.Outcomes.{rounds}
use Rattle.step_runner.specs.Traces.{trace_of}
use Rattle.race_clocks.proofs.CallRows.{all_told}
use Rattle.race_clocks.proofs.PlacedCalls.{key_then}
use Rattle.race_clocks.proofs.laws.calls.a_completed_entry_on_a_key_is_before_each_later_completed_call.Goals as goal

pub returns : goal.returns
returns c plan i j place call other reply answer key earlier one completes enters finds none =
    let whole = c.a_trace_tells_what_turns_made.ensures.whole plan in
    key_then plan (trace_of plan) (all_told plan (trace_of plan) (plan.schedule ++ rounds whole.0 plan.workers) whole.1) i j place call other reply answer key earlier one completes enters finds none
