use Rattle.std.proofs.Common.{◌≡◌, map}
use Rattle.std.specs.List.{range_with_len}
use Rattle.step_runner.specs.Places.{closing_group}
use Rattle.step_runner.proofs.state.closing_groups.Given as goal

abbrev pub invariant-loop-worker : goal.invariant-loop-worker
invariant-loop-worker l = l.groups.items ≡ map (closing_group l.workload) (range_with_len 0 l.worker)
