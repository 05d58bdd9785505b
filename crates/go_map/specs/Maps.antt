-- Calls on the maps of a shared table.
use Rattle.std.specs.Prelude.{ℕ, ◌≤◌}
use Rattle.std.specs.Option.{ForSome}
use Rattle.sync_model.specs.declared.item.SharedCall.TheVariants as calls
use Rattle.sync_model.specs.declared.item.SharedReply.TheVariants as replies
use Rattle.sync_types.specs.declared.map_object.MapCall.{MapCall}
use Rattle.sync_types.specs.declared.map_object.MapReply.{MapReply}
use Rattle.sync_model.specs.Note.{SameHome}
use Rattle.sync_model.specs.Shared.{Called, cost_of, state_of}
use Rattle.shared_table.specs.declared.note.SharedNote.{SharedNote}
use Rattle.shared_table.specs.declared.table.SharedTable.{SharedTable}
use Rattle.shared_table.specs.Notes.{front_by, own_by, seen_by, IsLawfulFor, IsNoteOf}
use Rattle.shared_table.specs.Tables.{first_of}

-- a note's holder made this call on a map, and was answered so: the call is one more of the holder's own, at its place in the history, and the note is of each table of which it was one. What the holder has then seen is lawful with all callers' calls
abbrev pub MakesCall : SharedTable → ℕ → MapCall ℕ → MapReply → SharedNote → SharedNote → Type 0
MakesCall table map call reply old new =
    SameHome IsNoteOf old new × Called (first_of table) (calls.Map map call) (replies.Map reply) (cost_of call) (state_of own_by front_by seen_by old) (state_of own_by front_by seen_by new)
    × IsLawfulFor table new

-- a note's holder has a unit of room left, which a call that may change a map takes, whatever it answers
abbrev pub HasSpare : SharedNote → Type 0
HasSpare note = ForSome (own_by note) (λ holding. 1 ≤ holding.spare)
