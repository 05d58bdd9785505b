-- What a note says of its holder.
use Rattle.std.specs.Prelude.{◌≡◌, ℕ, List, Option, Some, None, length, slice_index}
use Rattle.sync_model.specs.declared.item.Item.{Item}

-- a caller, with its shared calls in its own order, their numbers in the one order of all events, and the entries that it may still store
pub record Holding : Type 0 where
  pub number : ℕ
  pub items : List Item
  pub times : List ℕ
  pub spare : ℕ

-- the second is a note of each home of which the first is one
abbrev pub SameHome : {H N : Type 0} → (H → N → Type 0) → N → N → Type 0
SameHome at first second = (home : _) → at home first → at home second

-- of all of the holder's own shared calls its count in the front is the number
abbrev pub IsCounted : Option Holding → List ℕ → Type 0
IsCounted None counts = Unit {0}
IsCounted (Some holding) counts = slice_index counts holding.number ≡ length holding.items
