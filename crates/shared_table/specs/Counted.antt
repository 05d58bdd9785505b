-- A caller's own number in its own note's front is the number of its calls.
use Rattle.sync_model.specs.Note.{IsCounted}
use Rattle.shared_table.specs.declared.note.SharedNote.{SharedNote}
use Rattle.shared_table.specs.declared.table.SharedTable.{SharedTable}
use Rattle.shared_table.specs.Notes.{counts_by, own_by, IsNoteOf}

pub is_counted : (home : SharedTable) (note : SharedNote) → IsNoteOf home note → IsCounted (own_by note) (counts_by note)
is_counted home note is = is.counted
