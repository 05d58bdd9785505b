use Rattle.object_checks.proofs.GatherLemmas.{HaveJournals}
use Rattle.object_checks.proofs.journals.gathering.journals_of.Given as goal

abbrev pub invariant-loop-object : goal.invariant-loop-object
invariant-loop-object l = HaveJournals l.lists l.objects l.object l.journals.items
