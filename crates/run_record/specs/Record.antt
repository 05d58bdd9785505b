-- The record of a run: the shared history of its maps and atomics, the journal of each other object, and the list of what each worker made, in its own order.
use Rattle.std.specs.Prelude.{ℕ, ◌+◌, ◌==◌, cond, List, [], ◌∷◌, get_or}
use Rattle.sync_model.specs.declared.item.Item.{Item}
use Rattle.sync_model.specs.declared.item.SharedEntry.{SharedEntry}
use Rattle.sync_model.specs.declared.journal.Entry.{Entry}
use Rattle.run_record.specs.declared.entered.ObjectEvent.{ObjectEvent}
use Rattle.run_record.specs.declared.entered.ObjectReply.{ObjectReply}
use Rattle.run_record.specs.declared.made.Made.{Made}
use Rattle.run_record.specs.declared.made.Made.TheVariants.{Shared, Entered}

-- an entry of the journal of an object of whatever kind
abbrev pub ObjectEntry : Type 0
ObjectEntry = Entry ObjectEvent ObjectReply

pub record Record : Type 0 where
  pub history : List SharedEntry
  pub journals : List (List ObjectEntry)  -- one for each object, by its number
  pub lists : List (List Made)  -- one for each worker

-- Stop, on which a misuse ends the run, has no events but halts, and is object 0. The workload's objects follow: this is the number of the one at a place
abbrev pub stop : ℕ
stop = 0

abbrev pub object_number : ℕ → ℕ
object_number place = place + 1

-- the journal of an object; none, where there is no object of this number
abbrev pub journal_of : Record → ℕ → List ObjectEntry
journal_of r object = get_or r.journals object []

-- what a worker made; nothing, where there is no worker of this number
abbrev pub list_of : Record → ℕ → List Made
list_of r worker = get_or r.lists worker []

-- the calls on maps and atomics in a list
abbrev pub shared_in : List Made → List Item
shared_in [] = []
shared_in (Shared x ∷ list) = x ∷ shared_in list
shared_in (Entered object entry ∷ list) = shared_in list

-- the entries in a list that stand in the journal of an object
abbrev pub entries_in : ℕ → List Made → List ObjectEntry
entries_in object [] = []
entries_in object (Shared x ∷ list) = entries_in object list
entries_in object (Entered other entry ∷ list) = cond (other == object) (entry ∷ entries_in object list) (entries_in object list)

-- each worker's calls on maps and atomics, by its number
abbrev pub calls_of : Record → ℕ → List Item
calls_of r worker = shared_in (list_of r worker)

-- what the worker of an item knew: before a call, and after an entry
abbrev pub front_of : Made → List ℕ
front_of (Shared x) = x.front
front_of (Entered object entry) = entry.front
