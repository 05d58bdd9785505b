use Rattle.object_checks.proofs.TakenLemmas.{TakenTo}
use Rattle.object_checks.proofs.journals.merging.are_taken.Given as goal

abbrev pub invariant-loop-worker : goal.invariant-loop-worker
invariant-loop-worker l = TakenTo l.tables l.object l.heads l.worker
