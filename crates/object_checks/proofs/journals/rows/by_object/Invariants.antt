use Rattle.object_checks.proofs.RowLemmas.{AreRows}
use Rattle.object_checks.proofs.journals.rows.by_object.Given as goal

abbrev pub invariant-loop-item : goal.invariant-loop-item
invariant-loop-item l = AreRows l.items l.objects l.item-index l.rows
