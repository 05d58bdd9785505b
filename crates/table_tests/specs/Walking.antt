-- Callers with a walk, for the tests.
use Rattle.std.specs.Prelude.{ℕ}
use Rattle.sync_model.specs.declared.caller.Caller.{Caller}
use Rattle.sync_model.specs.Shared.{IsCallerAt}
use Rattle.shared_table.specs.declared.note.SharedNote.{SharedNote}
use Rattle.shared_table.specs.declared.table.SharedTable.{SharedTable}
use Rattle.shared_table.specs.Notes.{own_by, IsNoteOf}
use Rattle.go_map.specs.declared.cursor.Cursor.{Cursor}
use Rattle.go_map.specs.Ranges.{StandsFor}

-- a caller of the table, whose walk goes over map 0
abbrev pub IsWalking : SharedTable → Cursor → Caller SharedNote → Type 0
IsWalking table cursor caller = IsCallerAt IsNoteOf own_by table caller × ((begin : ℕ) × StandsFor table cursor 0 begin caller.note)
