use Rattle.run_check.proofs.HaltWalks.{Behind}
use Rattle.run_check.proofs.stops.first_halt_of.Given as goal

abbrev pub invariant-loop-row : goal.invariant-loop-row
invariant-loop-row l = Behind l.journal l.row-index
