use Rattle.std.proofs.Common.{◌≡◌, ◌++◌, drop}
use Rattle.step_runner.specs.State.{new_objects}
use Rattle.step_runner.proofs.state.new_objects.Given as goal

abbrev pub invariant-loop-place : goal.invariant-loop-place
invariant-loop-place l = l.objects.items ++ new_objects l.workload l.place (drop l.place l.workload.objects) ≡ new_objects l.workload 0 l.workload.objects
