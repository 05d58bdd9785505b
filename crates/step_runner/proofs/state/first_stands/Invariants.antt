use Rattle.std.proofs.Common.{◌≡◌, ◌++◌, map, drop}
use Rattle.step_runner.specs.State.{first_stand}
use Rattle.step_runner.proofs.state.first_stands.Given as goal

abbrev pub invariant-loop-waits : goal.invariant-loop-waits
invariant-loop-waits l = l.stands.items ++ map first_stand (drop l.waits-index l.waits-items) ≡ map first_stand l.workload.dormant
