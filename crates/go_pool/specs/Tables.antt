-- All passes of a pool as a table, whose rows and columns change places.
use Rattle.std.specs.Prelude.{◌≡◌, ℕ, ◌==◌, ◌&&◌, ◌||◌, nat_lt, Bool, List, length, Some, slice_get}
use Rattle.go_pool.specs.declared.pass.PoolPass.{PoolPass}

-- the place is at this row and column, or at this column and row
abbrev pub is_corner : ℕ → ℕ → ℕ → ℕ → Bool
is_corner row column i j = (i == row && j == column) || (i == column && j == row)

-- the place is in this row or in the column with its number, before this number
abbrev pub crosses : ℕ → ℕ → ℕ → ℕ → Bool
crosses row below i j = (i == row && nat_lt j below) || (j == row && nat_lt i below)

module _ {N : Type 0} where
  -- each row has as many passes as there are rows
  abbrev pub IsSquare : List (PoolPass N) → Type 0
  IsSquare passes = (caller : ℕ) (pass : PoolPass N) → slice_get passes caller ≡ Some pass → length pass.parts.items ≡ length passes

  -- as many rows, each as long as before, with its caller's number and calls
  pub record KeepsRows (old new : List (PoolPass N)) : Type 0 where
    pub count : length new ≡ length old
    pub each : (caller : ℕ) (before after : PoolPass N) → slice_get old caller ≡ Some before → slice_get new caller ≡ Some after
        → (after.number ≡ before.number) × (after.left ≡ before.left) × (length after.parts.items ≡ length before.parts.items)
