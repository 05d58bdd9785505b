use Rattle.run_check.proofs.HaltWalks.{HaltsTo}
use Rattle.run_check.proofs.stops.are_halts_by.Given as goal

abbrev pub invariant-loop-index : goal.invariant-loop-index
invariant-loop-index l = HaltsTo l.list l.misuse l.from l.index
