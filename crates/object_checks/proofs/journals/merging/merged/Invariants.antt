use Rattle.std.proofs.Common.{◌≡◌, length}
use Rattle.object_checks.specs.JournalItems.{entries_in_row}
use Rattle.object_checks.specs.JournalRows.{items_in}
use Rattle.object_checks.proofs.Merging.{Merges}
use Rattle.object_checks.proofs.TakenLemmas.{left_in}
use Rattle.object_checks.proofs.journals.merging.merged.Given as goal

abbrev pub invariant-loop-row : goal.invariant-loop-row
invariant-loop-row l = record {
  heads : length l.heads.items ≡ length l.tables;
  merges : Merges (items_in l.tables l.object) l.heads.items (entries_in_row l.rows);
}

abbrev pub decreases-loop-row : goal.decreases-loop-row
decreases-loop-row l = left_in l.object l.tables l.heads.items
