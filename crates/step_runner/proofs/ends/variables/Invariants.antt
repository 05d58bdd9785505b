use Rattle.std.proofs.Common.{◌≡◌, ◌++◌, drop}
use Rattle.step_runner.specs.Ends.{variables_from}
use Rattle.step_runner.proofs.ends.variables.Given as goal

abbrev pub invariant-loop-object : goal.invariant-loop-object
invariant-loop-object l = l.ends ++ variables_from l.object (drop l.object l.objects) ≡ variables_from 0 l.objects
