use Rattle.object_checks.proofs.FrontLemmas.{Copies}
use Rattle.object_checks.proofs.journals.edge.counts_of.Given as goal

abbrev pub invariant-loop-caller : goal.invariant-loop-caller
invariant-loop-caller l = Copies l.front l.of l.caller
