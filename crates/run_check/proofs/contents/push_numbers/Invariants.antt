use Rattle.std.proofs.Common.{◌≡◌, ◌++◌, map}
use Rattle.sync_types.specs.Ends.{number_end}
use Rattle.run_check.proofs.contents.push_numbers.Given as goal

abbrev pub invariant-loop-object : goal.invariant-loop-object
invariant-loop-object l = l.ends.items ≡ l.initial.ends.items ++ map (λ pair. number_end (pair.0.now, pair.1.now)) l.yielded
