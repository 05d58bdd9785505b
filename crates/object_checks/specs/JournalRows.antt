-- The workers' items sorted by objects, and merged by their numbers.
use Rattle.std.specs.Prelude.{◌≡◌, ℕ, ◌<◌, ◌≤◌, List, [], length, map, get_or, Some, slice_get}
use Rattle.std.specs.Borrow.{Bor}
use Rattle.object_checks.specs.JournalItems.{items_of}
use Rattle.object_checks.specs.declared.journals.item.JournalItem.{JournalItem}

-- some item is on none of so many objects
abbrev pub IsOnNone : ℕ → List JournalItem → Type 0
IsOnNone objects items = (i : ℕ) × (item : JournalItem) × (slice_get items i ≡ Some item) × (objects ≤ item.object)

-- of each worker's items so many are taken: this is the next one of its worker, and has this number
pub record IsNext (items : ℕ → List JournalItem) (heads : List ℕ) (number : ℕ) (worker : ℕ) (item : JournalItem) : Type 0 where
  pub worker_is : worker < length heads
  pub stands : slice_get (items worker) (get_or heads worker 0) ≡ Some item
  pub number_is : item.number ≡ number

-- all are taken
abbrev pub AreTaken : (ℕ → List JournalItem) → List ℕ → Type 0
AreTaken items heads = (worker : ℕ) → length (items worker) ≤ get_or heads worker 0

-- each worker's items on an object, out of tables that have them object by object
abbrev pub items_in : List (List (List (Bor JournalItem))) → ℕ → ℕ → List JournalItem
items_in tables object worker = map (λ item. item.now) (get_or (get_or tables worker []) object [])

-- some worker has an item that is on none of so many objects
abbrev pub IsWithout : List (List JournalItem) → ℕ → Type 0
IsWithout lists objects = (worker : ℕ) × IsOnNone objects (items_of lists worker)
