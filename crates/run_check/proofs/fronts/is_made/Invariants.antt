use Rattle.std.proofs.Common.{ℕ, ◌<◌, ◌≤◌, map, slice_index}
use Rattle.run_check.specs.declared.fronts.Known.{Known}
use Rattle.run_check.proofs.fronts.is_made.Given as goal

abbrev pub invariant-loop-worker : goal.invariant-loop-worker
invariant-loop-worker l = (worker : ℕ) → worker < l.worker → slice_index l.front worker ≤ slice_index (map (λ (one : Known). one.calls) l.known) worker
