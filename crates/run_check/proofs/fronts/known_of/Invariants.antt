use Rattle.run_check.proofs.FrontOrder.{KnownTo}
use Rattle.run_check.proofs.fronts.known_of.Given as goal

abbrev pub invariant-loop-index : goal.invariant-loop-index
invariant-loop-index l = KnownTo l.workers l.items l.index l.known.items
