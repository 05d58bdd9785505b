-- Fronts: what a caller knows, as a vector clock over callers and a number.
use Rattle.std.specs.Prelude.{◌≡◌, ℕ, ◌<◌, ◌≤◌, List, slice_index}

-- for each caller the number of its shared calls that are known, and the number of the last event in the one order of all events
pub record Front : Type 0 where
  pub counts : List ℕ
  pub time : ℕ

-- the first is, caller by caller, at least the second
abbrev pub AtLeast : List ℕ → List ℕ → Type 0
AtLeast counts other = (caller : ℕ) → slice_index other caller ≤ slice_index counts caller

-- the first counts what the second does
abbrev pub SameCounts : Front → Front → Type 0
SameCounts front other = front.counts ≡ other.counts

-- nothing that the second knows is forgotten in the first, and its number is no lower
abbrev pub NoLess : Front → Front → Type 0
NoLess front other = AtLeast front.counts other.counts × (other.time ≤ front.time)

-- and its number is past that of the second
abbrev pub Later : Front → Front → Type 0
Later front other = AtLeast front.counts other.counts × (other.time < front.time)
