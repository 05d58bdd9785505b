-- The words of a new table.
use Rattle.std.specs.Prelude.{◌≡◌, ◌≢◌, ℕ, ◌<◌, List, length, slice_index}
use Rattle.table_rule.specs.declared.begin.Begin.{Begin}
use Rattle.table_rule.specs.Layout.{root_word, first_root, size_of}

-- each root word names its map's first root, and every other word is 0: no number, no entry and no lock, and all gates are open
pub record IsBlank (k : Begin) (ws : List ℕ) : Type 0 where
  pub wide : length ws ≡ size_of k
  pub roots : (m : ℕ) → m < k.maps → slice_index ws (root_word k m) ≡ first_root k m
  pub others : (i : ℕ) → ((m : ℕ) → m < k.maps → i ≢ root_word k m) → slice_index ws i ≡ 0
