-- Counts of calls that are known, caller by caller.
use Rattle.std.specs.Prelude.{◌≡◌, ◌⊎◌, ℕ, ◌≤◌, List, slice_index}

-- the third counts know what the first two know, and no more
pub record Joins (first second both : List ℕ) : Type 0 where
  pub knows_first : (caller : ℕ) → slice_index first caller ≤ slice_index both caller
  pub knows_second : (caller : ℕ) → slice_index second caller ≤ slice_index both caller
  pub no_more : (caller : ℕ) → (slice_index both caller ≡ slice_index first caller) ⊎ (slice_index both caller ≡ slice_index second caller)
