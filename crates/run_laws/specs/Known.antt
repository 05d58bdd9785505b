-- What a front knows, as a number: how much of the history lies before all that its caller does next.
use Rattle.std.specs.Prelude.{ℕ, ◌+◌, ◌≤◌, max, List, [], ◌∷◌, length, take, slice_index}
use Rattle.sync_model.specs.declared.item.Item.{Item}
use Rattle.sync_model.specs.SharedCalls.{bound}

-- the greatest bound of these calls; 0, where there is none
abbrev pub greatest_bound : List Item → ℕ
greatest_bound [] = 0
greatest_bound (x ∷ items) = max (bound x) (greatest_bound items)

module _ (calls : ℕ → List Item) where
  -- the same of the calls that a front counts, of each caller its first ones; the front's numbers are those of the callers from this one on
  abbrev pub known_from : ℕ → List ℕ → ℕ
  known_from caller [] = 0
  known_from caller (count ∷ counts) = max (greatest_bound (take count (calls caller))) (known_from (caller + 1) counts)

  -- how long the history has to be at least, for all calls that the front counts to lie in it
  abbrev pub known : List ℕ → ℕ
  known front = known_from 0 front

  -- the front counts calls that were made
  abbrev pub CountsMade : List ℕ → Type 0
  CountsMade front = (caller : ℕ) → slice_index front caller ≤ length (calls caller)
