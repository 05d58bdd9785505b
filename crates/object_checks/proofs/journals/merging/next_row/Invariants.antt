use Rattle.std.proofs.Common.{ℕ, ◌<◌}
use Rattle.object_checks.specs.declared.journals.item.JournalItem.{JournalItem}
use Rattle.object_checks.specs.JournalRows.{IsNext, items_in}
use Rattle.object_checks.proofs.journals.merging.next_row.Given as goal

abbrev pub invariant-loop-worker : goal.invariant-loop-worker
invariant-loop-worker l = (worker : ℕ) (item : JournalItem) → worker < l.worker → IsNext (items_in l.tables l.object) l.heads l.number worker item → ⊥
