-- Calls of a fake, some of which fail.
use Rattle.std.specs.Prelude.{ℕ, Bool, List, ◌==◌}
use Rattle.std.specs.List.{list_any}
use Rattle.sync_outside.specs.Faults.{raised}

-- the numbers of the calls that fail, counted from 1, and how many calls were made
pub record Calls : Type 0 where
  pub failing : List ℕ
  pub made : ℕ

-- one call more was made
abbrev pub one_more : Calls → Calls
one_more calls = record calls { made = raised calls.made }

-- whether the next call fails
abbrev pub fails_next : Calls → Bool
fails_next calls = list_any (λ number. number == raised calls.made) calls.failing
