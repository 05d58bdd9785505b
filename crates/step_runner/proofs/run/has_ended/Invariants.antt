use Rattle.std.proofs.Common.{◌≡◌, ℕ, ◌<◌, None}
use Rattle.step_runner.specs.Turns.{next_call}
use Rattle.step_runner.proofs.run.has_ended.Given as goal

abbrev pub invariant-loop-worker : goal.invariant-loop-worker
invariant-loop-worker l = (k : ℕ) → k < l.worker → next_call l.workload k l.state.state ≡ None
