-- What a walk through all slots of a node finds: from slot 0 up, and deep first.
use Rattle.std.specs.Prelude.{◌≡◌, ℕ, zero, suc, ◌^◌, ◌<◌, ◌≤◌, ◌==◌, List, [], ◌∷◌, ◌++◌, All, count_by, Option, Some, slice_index}
use Rattle.std.specs.Ordering.{nat_cmp}
use Rattle.std.specs.FinMap.{find}
use Rattle.trie_nodes.specs.declared.slot.Slot.{Slot}
use Rattle.trie_nodes.specs.declared.slot.Slot.TheVariants.{Empty, Node, Entry}
use Rattle.trie_nodes.specs.Layout.{key_word, value_word}
use Rattle.trie_nodes.specs.Nodes.{slot_at, Shows}
use Rattle.trie_nodes.specs.Paths.{nibble, route}

module _ (words : List ℕ) where
  -- the pairs of key and value that a slot leads to, by those that nodes lead to
  abbrev pub slot_pairs : (ℕ → List (ℕ × ℕ)) → Slot → List (ℕ × ℕ)
  slot_pairs node_pairs Empty = []
  slot_pairs node_pairs (Node node) = node_pairs node
  slot_pairs node_pairs (Entry entry) = (slice_index words (key_word entry), slice_index words (value_word entry)) ∷ []

  -- those that so many slots of a node lead to, from slot 0 up
  unfoldable pub pairs_in_slots : (ℕ → List (ℕ × ℕ)) → ℕ → ℕ → List (ℕ × ℕ)
  pairs_in_slots node_pairs node zero = []
  pairs_in_slots node_pairs node (suc slots) = pairs_in_slots node_pairs node slots ++ slot_pairs node_pairs (slot_at words node slots)

  -- those that a node leads to, where so many levels are left
  unfoldable pub pairs_within : ℕ → ℕ → List (ℕ × ℕ)
  pairs_within zero node = []
  pairs_within (suc levels) node = pairs_in_slots (pairs_within levels) node 16

-- Each node of a map, which stands in the slots of its path, shows in its slot for a key what the key has in the map; and entries have keys of 32 bits.
pub record ShowsMap (words : List ℕ) (seed : ℕ) (held : ℕ → Option ℕ) (node_at : List ℕ → Option ℕ) : Type 0 where
  pub shows : (level node key : ℕ) → level < 8 → key < 2 ^ 32 → node_at (route seed level key) ≡ Some node
      → Shows words seed (λ below. node_at (route seed (suc level) key) ≡ Some below) level key (held key) (slot_at words node (nibble key seed level))
  pub keys : (level node key entry : ℕ) → level < 8 → key < 2 ^ 32 → node_at (route seed level key) ≡ Some node → slot_at words node (nibble key seed level) ≡ Entry entry → slice_index words (key_word entry) < 2 ^ 32

-- These are the pairs of a map: each key of it stands there once, with its value, and nothing else does.
pub record ArePairsOf (held : ℕ → Option ℕ) (pairs : List (ℕ × ℕ)) : Type 0 where
  pub found : (key : ℕ) → key < 2 ^ 32 → find nat_cmp key pairs ≡ held key
  pub keys : All (λ pair. pair.0 < 2 ^ 32) pairs
  pub once : (key : ℕ) → count_by (λ pair. pair.0 == key) pairs ≤ 1
