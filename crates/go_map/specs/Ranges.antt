-- Walks over the maps of a shared table.
use Rattle.std.specs.Prelude.{◌≡◌, ℕ, Some, length, slice_get}
use Rattle.std.specs.Option.{ForSome}
use Rattle.sync_model.specs.declared.item.Item.{Item}
use Rattle.sync_model.specs.declared.item.SharedCall.{SharedCall}
use Rattle.sync_model.specs.declared.item.SharedCall.TheVariants as calls
use Rattle.sync_model.specs.declared.item.SharedReply.{SharedReply}
use Rattle.sync_model.specs.Note.{Holding, SameHome}
use Rattle.sync_model.specs.Shared.{Called, items_of, state_of}
use Rattle.sync_model.specs.SharedCalls.{KeepsRange}
use Rattle.shared_table.specs.declared.note.SharedNote.{SharedNote}
use Rattle.shared_table.specs.declared.table.SharedTable.{SharedTable}
use Rattle.shared_table.specs.Notes.{front_by, own_by, seen_by, IsNoteOf, IsLawfulFor}
use Rattle.shared_table.specs.Ranging.{IsCursor}
use Rattle.shared_table.specs.Tables.{first_of}
use Rattle.go_map.specs.declared.cursor.Cursor.{Cursor}

-- a note's holder made a call of a walk, and was answered so: the call is one more of the holder's own. What the holder has then seen is lawful with all callers' calls
abbrev pub MakesStep : SharedTable → SharedCall → SharedReply → SharedNote → SharedNote → Type 0
MakesStep table call reply old new = SameHome IsNoteOf old new × Called (first_of table) call reply 0 (state_of own_by front_by seen_by old) (state_of own_by front_by seen_by new) × IsLawfulFor table new

-- how many calls a note's holder has made
abbrev pub calls_by : SharedNote → ℕ
calls_by note = length (items_of (own_by note))

-- the walk goes over this map for the note's holder, whose call of this number began it
abbrev pub StandsFor : SharedTable → Cursor → ℕ → ℕ → SharedNote → Type 0
StandsFor table cursor map begin note = ForSome (own_by note) (λ holding. IsCursor table.words cursor.walk map begin holding.items)

-- The Range law of the walk over map m that call number b of the note's holder began: no two of its steps showed one key; what a step showed was so at some moment after all that the holder knew at the begin, and at the step or before; and where a step showed none, each key that wasn't shown was absent at such a moment. It is said of the history that the holder has seen, which is lawful with some lists of the callers' calls, the holder's own among them
pub record KeepsRangeLaw (table : SharedTable) (m b : ℕ) (note : SharedNote) : Type 0 where
  pub lawful : IsLawfulFor table note
  pub holding : Holding
  pub own : own_by note ≡ Some holding
  pub begin : Item
  pub at : slice_get holding.items b ≡ Some begin
  pub call : begin.call ≡ calls.Begin m
  pub range : KeepsRange (first_of table) (seen_by note) lawful.calls holding.number b m begin.front
