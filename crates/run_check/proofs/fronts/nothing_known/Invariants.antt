use Rattle.std.proofs.Common.{◌≡◌, map, replicate}
use Rattle.run_check.specs.Fronts.{at_start, standing}
use Rattle.run_check.proofs.fronts.nothing_known.Given as goal

abbrev pub invariant-loop-worker : goal.invariant-loop-worker
invariant-loop-worker l = map standing l.known.items ≡ replicate l.worker at_start
