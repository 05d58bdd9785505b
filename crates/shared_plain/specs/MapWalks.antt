-- Walks over a map from its least key up.
use Rattle.std.specs.Prelude.{◌≡◌, ℕ, ◌+◌, ◌<◌, ◌≤◌, List, [], ◌∷◌, Option, Some, None}
use Rattle.sync_model.specs.SharedHistory.{Contents, value_at}

-- the least key of a map that is there and is at least this one, with its value
abbrev pub IsNextPair : Contents → ℕ → ℕ → Option (ℕ × ℕ) → Type 0
IsNextPair contents m from (Some (key, value)) = (from ≤ key) × (value_at contents m key ≡ Some value) × ((other : ℕ) → from ≤ other → other < key → value_at contents m other ≡ None)
IsNextPair contents m from None = (key : ℕ) → from ≤ key → value_at contents m key ≡ None

-- a walk over a map from a key on: each of these pairs is the least behind the one before, and there is no other behind the last
abbrev pub IsWalk : Contents → ℕ → ℕ → List (ℕ × ℕ) → Type 0
IsWalk contents m from [] = IsNextPair contents m from None
IsWalk contents m from (pair ∷ pairs) = IsNextPair contents m from (Some pair) × IsWalk contents m (pair.0 + 1) pairs
