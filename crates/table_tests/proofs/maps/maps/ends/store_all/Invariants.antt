use Rattle.sync_model.specs.Shared.{AreAllCallers}
use Rattle.shared_table.specs.Notes.{own_by, IsNoteOf}
use Rattle.shared_table.specs.Tables.{caller_count}
use Rattle.table_tests.proofs.maps.maps.ends.store_all.Given as goal

abbrev pub invariant-loop-key : goal.invariant-loop-key
invariant-loop-key g l = AreAllCallers IsNoteOf own_by l.table l.callers (caller_count l.table)
