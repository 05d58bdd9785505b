-- A caller of a table stays one where its note is kept.
use Rattle.std.proofs.Common.{Option, IsSome, sym, subst}
use Rattle.ruled_object.specs.Growth.{KeepsNote}
use Rattle.shared_table.specs.declared.note.SharedNote.{SharedNote}
use Rattle.shared_table.specs.declared.table.SharedTable.{SharedTable}
use Rattle.shared_table.specs.Notes.{front_by, own_by, IsNoteOf}

pub still_caller : (table : SharedTable) (old new : SharedNote) → KeepsNote IsNoteOf own_by front_by old new → IsNoteOf table old × IsSome (own_by old) → IsNoteOf table new × IsSome (own_by new)
still_caller table old new kept was = (kept.home table was.0, subst (λ (o : Option _). IsSome o) (sym kept.kept) was.1)
