-- The callers' own lists of shared calls.
use Rattle.std.specs.Prelude.{ℕ, List, [], get_or}
use Rattle.sync_model.specs.declared.item.Item.{Item}

-- the calls of each caller, by its number; none, where there is no caller of this number
abbrev pub calls_in : List (List Item) → ℕ → List Item
calls_in lists c = get_or lists c []
