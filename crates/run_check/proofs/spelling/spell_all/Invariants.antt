use Rattle.run_check.specs.Lists.{AreSpeltTo}
use Rattle.run_check.proofs.spelling.spell_all.Given as goal

abbrev pub invariant-loop-worker : goal.invariant-loop-worker
invariant-loop-worker l = AreSpeltTo l.workload l.items l.worker l.found
