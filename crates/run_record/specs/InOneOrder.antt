-- One order of all events: those on maps and atomics, and those on all other objects.
use Rattle.std.specs.Prelude.{◌≡◌, ℕ, ◌+◌, ◌<◌, ◌≤◌, List, [], ◌∷◌, length, take, Some, slice_get, slice_index}
use Rattle.sync_model.specs.Journal.{TimesRise}
use Rattle.sync_model.specs.SharedOrder.{InOrder}
use Rattle.run_record.specs.declared.made.Made.{Made}
use Rattle.run_record.specs.declared.made.Made.TheVariants.{Shared, Entered}
use Rattle.run_record.specs.Record.{Record, journal_of, list_of, shared_in, calls_of}

-- the number of an item that stands behind these in its worker's list: an entry of a journal has its own. A call on a map or an atomic has the one among the numbers of its worker's calls
abbrev pub number_behind : List ℕ → List Made → Made → ℕ
number_behind times earlier (Shared x) = slice_index times (length (shared_in earlier))
number_behind times earlier (Entered object entry) = entry.time

-- along a list each item has a number past those before it, and the first one at least this: item by item
abbrev pub NumbersRise : ℕ → List Made → List ℕ → Type 0
NumbersRise least [] [] = Unit {0}
NumbersRise least [] (time ∷ times) = ⊥
NumbersRise least (Shared x ∷ list) [] = ⊥
NumbersRise least (Shared x ∷ list) (time ∷ times) = (least ≤ time) × NumbersRise (time + 1) list times
NumbersRise least (Entered object entry ∷ list) times = (least ≤ entry.time) × NumbersRise (entry.time + 1) list times

-- Each event has a number. The numbers rise along each journal, Stop's and each part's of a pool too, along the shared history, and along what each worker made. A call on a map or an atomic has a number that lies between those of the entries of the history around its place.
pub record InOneOrder (r : Record) : Type 0 where
  pub journals : (object : ℕ) → TimesRise (journal_of r object)
  pub entry_times : List ℕ  -- the numbers of the entries of the history
  pub times : ℕ → List ℕ  -- for each worker those of its calls on maps and atomics, in its order
  pub history : InOrder r.history (calls_of r) entry_times times
  pub lists : (worker i j : ℕ) (x y : Made) → i < j → slice_get (list_of r worker) i ≡ Some x → slice_get (list_of r worker) j ≡ Some y
      → number_behind (times worker) (take i (list_of r worker)) x < number_behind (times worker) (take j (list_of r worker)) y
