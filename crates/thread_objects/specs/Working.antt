-- What a part of a call adds to what its worker has done.
use Rattle.std.specs.Prelude.{◌≡◌, ℕ, ◌+◌, ◌==◌, cond, List, [], ◌∷◌, ◌++◌, length, Option, Some, None, slice_index}
use Rattle.sync_model.specs.declared.item.Item.{Item}
use Rattle.sync_model.specs.Front.{Front, NoLess, Later}
use Rattle.sync_model.specs.Journal.{front_at}
use Rattle.sync_model.specs.Note.{Holding}
use Rattle.sync_model.specs.Shared.{items_of, times_by}
use Rattle.protocols.specs.Spelling.{CallAnswer}
use Rattle.run_record.specs.declared.made.Made.{Made}
use Rattle.run_record.specs.declared.made.Made.TheVariants.{Shared, Entered}
use Rattle.run_record.specs.Parts.{Part}
use Rattle.run_record.specs.Record.{ObjectEntry, shared_in, entries_in}

-- what a worker has done, and knows
pub record Desk : Type 0 where
  pub owns : ℕ → List ObjectEntry  -- its entries in each object's journal, by the object's number
  pub calls : List Item  -- its calls on maps and atomics
  pub times : List ℕ  -- their numbers in the one order of all events
  pub front : Front
  pub worker : Option ℕ  -- its number, by its note

-- Nothing that is known gets less along the items, from one front to another, and each item has a number past those before it: an entry its own, and the calls on maps and atomics these
abbrev pub Rises : Front → List Made → List ℕ → Front → Type 0
Rises from [] [] to = NoLess to from
Rises from [] (time ∷ times) to = ⊥
Rises from (Shared x ∷ xs) [] to = ⊥
Rises from (Shared x ∷ xs) (time ∷ times) to = Later (record { counts = x.front; time = time }) from × Rises (record { counts = x.front; time = time }) xs times to
Rises from (Entered object entry ∷ xs) times to = Later (front_at entry) from × Rises (front_at entry) xs times to

-- the front at each item counts all of its worker's own calls before it, where so many were made before these items
abbrev pub CountsOwn : (worker before : ℕ) → List Made → Type 0
CountsOwn worker before [] = Unit {0}
CountsOwn worker before (Shared x ∷ xs) = (slice_index x.front worker ≡ before) × CountsOwn worker (before + 1) xs
CountsOwn worker before (Entered object entry ∷ xs) = (slice_index entry.front worker ≡ before) × CountsOwn worker before xs

-- The worker made these items and no others, in order.
pub record Moves (old : Desk) (items : List Made) (new : Desk) : Type 0 where
  pub worker : new.worker ≡ old.worker
  pub owns : (object : ℕ) → new.owns object ≡ old.owns object ++ entries_in object items
  pub calls : new.calls ≡ old.calls ++ shared_in items
  pub numbers : List ℕ  -- of these calls on maps and atomics
  pub times : new.times ≡ old.times ++ numbers
  pub fronts : Rises old.front items numbers new.front
  pub counts : (worker : ℕ) → old.worker ≡ Some worker → CountsOwn worker (length old.calls) items

-- What the worker made spells the part and its answer.
pub record Works {O : Type 0} (part : Part O) (old : Desk) (answer : CallAnswer O) (new : Desk) : Type 0 where
  pub items : List Made
  pub moves : Moves old items new
  pub spelt : part items answer

-- entries in one object's journal, and none in any other's
abbrev pub alone : ℕ → List ObjectEntry → ℕ → List ObjectEntry
alone number own object = cond (number == object) own []

-- the number of a note's holder
abbrev pub number_in : Option Holding → Option ℕ
number_in None = None
number_in (Some holding) = Some holding.number

-- what a worker has done, as its note tells of the maps and atomics, and these lists of each object
abbrev pub desk_with : {N : Type 0} → (N → Option Holding) → (N → Front) → (ℕ → List ObjectEntry) → N → Desk
desk_with owner front owns note = record { owns = owns; calls = items_of (owner note); times = times_by (owner note); front = front note; worker = number_in (owner note) }

-- the same, on one object alone
abbrev pub desk_at : {N : Type 0} → (N → Option Holding) → (N → Front) → ℕ → List ObjectEntry → N → Desk
desk_at owner front number own note = desk_with owner front (alone number own) note
