use Rattle.std.proofs.Common.{◌≡◌, ◌++◌, drop, map}
use Rattle.sync_types.specs.Ends.{number_end}
use Rattle.step_runner.specs.Ends.{numbers_from}
use Rattle.step_runner.proofs.ends.push_numbers.Given as goal

abbrev pub invariant-loop-object : goal.invariant-loop-object
invariant-loop-object l = l.ends ++ map number_end (numbers_from l.object (drop l.object l.objects)) ≡ l.initial.ends ++ map number_end (numbers_from 0 l.objects)
