-- Calls on one typed atomic.
use Rattle.std.specs.Prelude.{ℕ}
use Rattle.sync_types.specs.declared.atomic_object.AtomicCall.{AtomicCall}
use Rattle.sync_types.specs.declared.atomic_object.AtomicReply.{AtomicReply}
use Rattle.sync_model.specs.declared.item.SharedCall.TheVariants as calls
use Rattle.sync_model.specs.declared.item.SharedReply.TheVariants as replies
use Rattle.sync_model.specs.Note.{SameHome}
use Rattle.sync_model.specs.Shared.{Called, state_of}
use Rattle.shared_table.specs.declared.note.SharedNote.{SharedNote}
use Rattle.shared_table.specs.declared.table.SharedTable.{SharedTable}
use Rattle.shared_table.specs.Notes.{front_by, own_by, seen_by, IsLawfulFor, IsNoteOf}
use Rattle.shared_table.specs.Tables.{first_of}
use Rattle.table_rule.specs.Operations.{IsAtEnd}

-- a note's holder made a call on an atomic, which was answered this. The note is still one of its homes. What the holder has then seen is lawful with all callers' calls, and the call lies at its end
abbrev pub MakesCall : SharedTable → ℕ → AtomicCall → AtomicReply → SharedNote → SharedNote → Type 0
MakesCall table atomic call reply old new =
    SameHome IsNoteOf old new × Called (first_of table) (calls.Atomic atomic call) (replies.Atomic reply) 0 (state_of own_by front_by seen_by old) (state_of own_by front_by seen_by new)
    × IsLawfulFor table new × IsAtEnd (state_of own_by front_by seen_by new)
