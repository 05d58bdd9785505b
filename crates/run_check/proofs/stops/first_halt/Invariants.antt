use Rattle.std.proofs.Common.{◌≡◌, true, take}
use Rattle.run_check.specs.Found.{are_no_halts}
use Rattle.run_check.proofs.stops.first_halt.Given as goal

abbrev pub invariant-loop-index : goal.invariant-loop-index
invariant-loop-index l = are_no_halts (take l.index l.list) ≡ true
