-- Clocks as lists of numbers, worker by worker.
use Rattle.std.specs.Prelude.{◌≡◌, ◌⊎◌, ℕ, ◌≤◌, List, slice_index}

-- the first clock is, worker by worker, at least the second
abbrev pub IsAtLeast : List ℕ → List ℕ → Type 0
IsAtLeast a b = (w : ℕ) → slice_index b w ≤ slice_index a w

-- the third clock knows what the first two know, and no more
pub record Joins (a b c : List ℕ) : Type 0 where
  pub first : (w : ℕ) → slice_index a w ≤ slice_index c w
  pub second : (w : ℕ) → slice_index b w ≤ slice_index c w
  pub one : (w : ℕ) → (slice_index c w ≡ slice_index a w) ⊎ (slice_index c w ≡ slice_index b w)
