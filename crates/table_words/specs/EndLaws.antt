-- The laws that the end of a table stands on, together, as the lemmas of this crate take them.
use Rattle.std.specs.Prelude.{◌≡◌, ℕ, suc, ◌^◌, ◌<◌, Bool, IsTrue, List, [], length, Option, Some}
use Rattle.sync_model.specs.declared.item.SharedEntry.{SharedEntry}
use Rattle.sync_model.specs.SharedHistory.{Contents, contents_after}
use Rattle.trie_nodes.specs.Nodes.{slot_at, stands_for, Shows}
use Rattle.trie_nodes.specs.Paths.{nibble}
use Rattle.trie_nodes.specs.Walks.{pairs_within, ShowsMap, ArePairsOf}

pub record EndLaws : Type 0 where
  pub maps_long : (start : Contents) (history : List SharedEntry) → length (contents_after start history).maps ≡ length start.maps
  pub stands : (words : List ℕ) (seed key : ℕ) (held : Option ℕ) (is_node : ℕ → ℕ → Bool)
      → ((level node : ℕ) → level < 8 → IsTrue (is_node level node) → Shows words seed (λ below. IsTrue (is_node (suc level) below)) level key held (slot_at words node (nibble key seed level)))
      → (level node : ℕ) → level < 8 → IsTrue (is_node level node) → stands_for words seed level node key ≡ held
  pub walks : (words : List ℕ) (seed root : ℕ) (held : ℕ → Option ℕ) (node_at : List ℕ → Option ℕ) → seed < 2 ^ 32 → node_at [] ≡ Some root → ShowsMap words seed held node_at → ArePairsOf held (pairs_within words 8 root)
