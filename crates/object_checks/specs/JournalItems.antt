-- The entries of journals in the workers' lists.
use Rattle.std.specs.Prelude.{◌≡◌, ℕ, ◌+◌, ◌≤◌, ◌==◌, cond, Bool, List, [], ◌∷◌, length, map, get_or, Some, slice_get}
use Rattle.std.specs.List.{filter}
use Rattle.run_record.specs.Record.{ObjectEntry}
use Rattle.object_checks.specs.JournalParts.{journal_at}
use Rattle.object_checks.specs.declared.journals.item.JournalItem.{JournalItem}
use Rattle.object_checks.specs.declared.journals.row.Row.{Row}

-- the item is an entry of the journal of this object
abbrev pub is_on : ℕ → JournalItem → Bool
is_on object item = item.object == object

-- The item as an entry of its journal. What its worker had seen of the journal, and its number in the order of all events, an item doesn't say
abbrev pub entry_of : ℕ → JournalItem → ObjectEntry
entry_of worker item = record { caller = worker; deed = item.deed; front = item.front; knew = 0; time = 0 }

-- what a worker made; nothing, where there is no worker of this number
abbrev pub items_of : List (List JournalItem) → ℕ → List JournalItem
items_of lists worker = get_or lists worker []

-- what a worker made on an object
abbrev pub items_on : List (List JournalItem) → ℕ → ℕ → List JournalItem
items_on lists object worker = filter (is_on object) (items_of lists worker)

-- an entry with its number
abbrev pub numbered : ℕ → JournalItem → ℕ × ObjectEntry
numbered worker item = (item.number, entry_of worker item)

-- one worker's entries of a journal, each with its number. The first of the journal has number n
abbrev pub numbered_by : ℕ → ℕ → List ObjectEntry → List (ℕ × ObjectEntry)
numbered_by worker n [] = []
numbered_by worker n (x ∷ journal) = cond (x.caller == worker) ((n, x) ∷ numbered_by worker (n + 1) journal) (numbered_by worker (n + 1) journal)

-- each worker's own items are its entries of this journal, with their numbers and in the journal's order
abbrev pub IsMerged : (ℕ → List JournalItem) → List ObjectEntry → Type 0
IsMerged items journal = (worker : ℕ) → map (numbered worker) (items worker) ≡ numbered_by worker 0 journal

-- the items on each object, by their numbers, are one journal, and there are so many objects
pub record AreJournals (lists : List (List JournalItem)) (objects : ℕ) (journals : List (List ObjectEntry)) : Type 0 where
  pub count : length journals ≡ objects
  pub merged : (object : ℕ) → IsMerged (items_on lists object) (journal_at journals object)

-- an entry in a row of its object's journal
abbrev pub entry_in : Row → ObjectEntry
entry_in row = entry_of row.caller row.item.now

abbrev pub entries_in_row : List Row → List ObjectEntry
entries_in_row rows = map entry_in rows

-- the journals that rows are, object by object
abbrev pub journals_in : List (List Row) → List (List ObjectEntry)
journals_in rows = map entries_in_row rows

-- each front counts the calls of 64 workers at most
abbrev pub HaveFronts : List Row → Type 0
HaveFronts rows = (i : ℕ) (row : Row) → slice_get rows i ≡ Some row → length row.item.now.front ≤ 64
