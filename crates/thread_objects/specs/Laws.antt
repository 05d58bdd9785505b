-- What holds of what a worker makes.
use Rattle.std.specs.Prelude.{◌≡◌, ℕ, List, [], ◌++◌, length, Option, Some, slice_index}
use Rattle.sync_model.specs.Note.{Holding, IsCounted}
use Rattle.sync_model.specs.Shared.{items_of}
use Rattle.run_record.specs.declared.made.Made.{Made}
use Rattle.thread_objects.specs.Working.{Desk, Moves, number_in}

-- who makes nothing stays
abbrev pub Stays : Type 0
Stays = (desk : Desk) → Moves desk [] desk

-- what is made from one desk to another, and then to a third, is made from the first one to the third, in this order
abbrev pub Joins : Type 0
Joins = (old between new : Desk) (earlier later : List Made) → Moves old earlier between → Moves between later new → Moves old (earlier ++ later) new

-- a note that counts all its holder's calls on maps and atomics has their number as its holder's own
abbrev pub Counts : Type 0
Counts = (own : Option Holding) (front : List ℕ) (worker : ℕ) → IsCounted own front → number_in own ≡ Some worker → slice_index front worker ≡ length (items_of own)
