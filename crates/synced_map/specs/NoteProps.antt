-- That a note is one of a table is a fact with one proof at most, so that a struct may keep it in a ghost field.
use denote.Struct.Props.{props}
use Rattle.shared_table.specs.CallerProps.{counted_prop}
use Rattle.shared_table.specs.declared.note.SharedNote.{SharedNote}
use Rattle.shared_table.specs.declared.table.SharedTable.{SharedTable}
use Rattle.shared_table.specs.Notes.{IsNoteOf}

pub note_prop : (table : SharedTable) (note : SharedNote) → IsProp (IsNoteOf table note)
note_prop table note = Prim.hlevel (counted_prop, props)
