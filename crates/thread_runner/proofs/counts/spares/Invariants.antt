use Rattle.std.proofs.Common.{◌≡◌, ℕ, ◌<◌, ◌≤◌, [], length, get_or, slice_index}
use Rattle.thread_runner.specs.Sites.{cost_of_calls}
use Rattle.thread_runner.proofs.counts.spares.Given as goal

abbrev pub invariant-loop-worker : goal.invariant-loop-worker
invariant-loop-worker l = record {
  count : length l.spares.items ≡ l.worker;
  each : (worker : ℕ) → worker < l.worker → slice_index l.spares.items worker ≡ cost_of_calls (get_or l.fn.workload.scripts worker []);
  few : (worker : ℕ) → worker < l.worker → slice_index l.spares.items worker ≤ length (get_or l.fn.workload.scripts worker []);
}
