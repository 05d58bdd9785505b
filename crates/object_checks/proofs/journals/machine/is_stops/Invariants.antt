use Rattle.object_checks.proofs.MachineLemmas.{HaltsTo}
use Rattle.object_checks.proofs.journals.machine.is_stops.Given as goal

abbrev pub invariant-loop-row : goal.invariant-loop-row
invariant-loop-row l = HaltsTo l.journal l.row-index
