-- What it is to hand in a result, and to find those that were handed in.
use Rattle.std.specs.Prelude.{◌≡◌, ℕ, List, Option, Some, slice_get}
use Rattle.sync_types.specs.declared.map_object.MapCall.TheVariants.{Store}
use Rattle.sync_types.specs.declared.map_object.MapReply.TheVariants as reply
use Rattle.sync_model.specs.declared.item.Item.{Item}
use Rattle.sync_model.specs.declared.item.SharedEntry.{SharedEntry}
use Rattle.sync_model.specs.declared.item.SharedReply.TheVariants as replies
use Rattle.sync_model.specs.SharedCalls.{Lawful}
use Rattle.sync_model.specs.Told.{AreIn, FindsItOrALater}
use Rattle.sync_outside.specs.declared.clock.Clock.{Ghosts}
use Rattle.wait_cores.specs.GroupEdges.{group_releases}
use Rattle.ruled_object.specs.Passes.{seen_by}
use Rattle.shared_table.specs.declared.note.SharedNote.{SharedNote}
use Rattle.shared_table.specs.declared.table.SharedTable.{SharedTable}
use Rattle.shared_table.specs.Notes.{counts_by, own_by, IsNoteOf}
use Rattle.shared_table.specs.Tables.{first_of}
use Rattle.go_map.specs.Maps.{MakesCall}
use Rattle.synced_map.specs.declared.map.SyncedMapCaller.{SyncedMapCaller}
use Rattle.synced_map.specs.Telling.{state_by, Tells}

module _ {C : Type 0} {clock : Ghosts C} where
  -- A thread stored a result under its number. Then it made one entry at the group, its done, by which it told all that it knew, and no call on the map.
  pub record HandsIn (table : SharedTable) (number value : ℕ) (old new : SyncedMapCaller C clock) : Type 0 where
    pub stored : SharedNote
    pub is : IsNoteOf table stored
    pub stores : MakesCall table 0 (Store number value) reply.Done old.caller.note stored
    pub told : Tells group_releases (counts_by stored) old.group_pass new.group_pass
    pub own : own_by new.caller.note ≡ own_by stored

  -- A thread waited for the group, and then looked. Of each result under the number whose done the wait knows of it found that, or what was stored there later: in each history that is lawful with the calls of both.
  pub record FindsResults (table : SharedTable) (number : ℕ) (found : Option ℕ) (new : SyncedMapCaller C clock) : Type 0 where
    pub load : Item
    pub answers : load.reply ≡ replies.Map (reply.Found found)
    pub finds : (value i : ℕ) (before after : SyncedMapCaller C clock) (handed : HandsIn table number value before after) → slice_get (seen_by new.group_pass) i ≡ Some handed.told.entry
        → (history : List SharedEntry) (calls : ℕ → List Item) → Lawful (first_of table) history calls → AreIn (state_by after.caller.note) calls → AreIn (state_by new.caller.note) calls
        → FindsItOrALater history 0 number handed.stores.1.item load
