use Rattle.object_checks.proofs.MachineLemmas.{DeclaredTo}
use Rattle.object_checks.proofs.journals.machine.declared_follow.Given as goal

abbrev pub invariant-loop-place : goal.invariant-loop-place
invariant-loop-place l = DeclaredTo l.workers l.objects l.journals l.place
