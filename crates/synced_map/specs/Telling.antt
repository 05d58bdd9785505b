-- What a thread tells others by an unlock or a done, what it knows by theirs, and what a get then finds.
use Rattle.std.specs.Prelude.{◌≡◌, ℕ, Bool, true, List, [], ◌∷◌, ◌++◌, Option, Some, slice_get}
use Rattle.sync_types.specs.declared.map_object.MapCall.TheVariants.{Store}
use Rattle.sync_types.specs.declared.map_object.MapReply.TheVariants.{Found}
use Rattle.sync_model.specs.declared.item.Item.{Item}
use Rattle.sync_model.specs.declared.item.SharedCall.TheVariants.{Map}
use Rattle.sync_model.specs.declared.item.SharedEntry.{SharedEntry}
use Rattle.sync_model.specs.declared.item.SharedReply.TheVariants as replies
use Rattle.sync_model.specs.declared.journal.Entry.{Entry}
use Rattle.sync_model.specs.Front.{AtLeast}
use Rattle.sync_model.specs.Journal.{is_such}
use Rattle.sync_model.specs.Shared.{CallerState, items_of, state_of}
use Rattle.sync_model.specs.SharedCalls.{Lawful}
use Rattle.sync_model.specs.Told.{AreIn, FindsItOrALater}
use Rattle.ruled_object.specs.declared.pass.Pass.{Pass}
use Rattle.ruled_object.specs.Passes as pass
use Rattle.shared_table.specs.declared.note.SharedNote.{SharedNote}
use Rattle.shared_table.specs.declared.table.SharedTable.{SharedTable}
use Rattle.shared_table.specs.Notes.{counts_by, front_by, own_by, seen_by, IsNoteOf}
use Rattle.shared_table.specs.Tables.{first_of}

-- a note's holder, as contracts see it
abbrev pub state_by : SharedNote → CallerState
state_by note = state_of own_by front_by seen_by note

module _ {S N E R : Type 0} where
  -- The caller made one entry, an unlock or a done, and by it tells of all calls that these counts have.
  pub record Tells (lets_go : E → R → Bool) (known : List ℕ) (old new : Pass S N E R) : Type 0 where
    pub entry : Entry E R
    pub mine : pass.own_by new ≡ pass.own_by old ++ entry ∷ []
    pub is_such : is_such lets_go entry.deed ≡ true
    pub tells : AtLeast entry.front known

  -- the caller has seen this entry, and knows all that it tells of
  abbrev pub KnowsBy : (E → R → Bool) → Pass S N E R → List ℕ → Type 0
  KnowsBy lets_go seen known = (i : ℕ) (x : Entry E R) → slice_get (pass.seen_by seen) i ≡ Some x → is_such lets_go x.deed ≡ true → AtLeast known x.front

-- A get of the key made one call, a load, which answered this. It finds each store of the key that its caller knew of, or a later entry on the key: in each history that is lawful with the calls of both.
pub record FindsWhatWasTold (table : SharedTable) (key : ℕ) (found : Option ℕ) (old new : SharedNote) : Type 0 where
  pub load : Item
  pub loaded : items_of (own_by new) ≡ items_of (own_by old) ++ load ∷ []
  pub answers : load.reply ≡ replies.Map (Found found)
  pub finds : (teller : SharedNote) (i value : ℕ) (store : Item) → IsNoteOf table teller → AtLeast (counts_by old) (counts_by teller)
      → slice_get (items_of (own_by teller)) i ≡ Some store → store.call ≡ Map 0 (Store key value)
      → (history : List SharedEntry) (calls : ℕ → List Item) → Lawful (first_of table) history calls → AreIn (state_by teller) calls → AreIn (state_by new) calls
      → FindsItOrALater history 0 key store load
