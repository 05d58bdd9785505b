use Rattle.object_checks.proofs.GatherLemmas.{AreTables}
use Rattle.object_checks.proofs.journals.gathering.tables_of.Given as goal

abbrev pub invariant-loop-items : goal.invariant-loop-items
invariant-loop-items l = AreTables l.lists l.objects l.items-index l.tables.items
