-- What a row of words contains that is a table's of atomics of these types and of so many maps.
use Rattle.std.specs.Prelude.{◌≡◌, ℕ, ◌^◌, ◌<◌, true, List, length, map, Some, slice_get, slice_index}
use Rattle.std.specs.List.{enumerate_from, range_with_len}
use Rattle.std.specs.Ordering.{nat_cmp}
use Rattle.std.specs.FinMap.{FinMap, from_entries}
use Rattle.sync_types.specs.declared.atomic_object.AtomicKind.{AtomicKind}
use Rattle.sync_types.specs.declared.atomic_object.Number.{Number}
use Rattle.sync_model.specs.SharedHistory.{Contents}
use Rattle.sync_types.specs.WordLayout.{is_word, number_in}
use Rattle.trie_nodes.specs.Layout.{atomic_word, root_word}
use Rattle.trie_nodes.specs.Nodes.{stands_for}
use Rattle.trie_nodes.specs.Walks.{pairs_within, ArePairsOf}

module _ (kinds : List AtomicKind) (words : List ℕ) where
  -- the place of a map's root
  abbrev pub root_in : ℕ → ℕ
  root_in m = slice_index words (root_word (length kinds) m)

  -- the pairs of key and value that a walk through a map's nodes finds
  abbrev pub pairs_in : ℕ → List (ℕ × ℕ)
  pairs_in m = pairs_within words 8 (root_in m)

  abbrev pub map_in : ℕ → FinMap nat_cmp ℕ
  map_in m = from_entries (pairs_in m)

  -- the number of the atomic that has this place and this type
  abbrev pub number_of : ℕ × AtomicKind → Number
  number_of atomic = number_in atomic.1 (slice_index words (atomic_word atomic.0))

  -- so many maps, by number, and an atomic of each type
  abbrev pub contents_in : ℕ → Contents
  contents_in maps = record { maps = map map_in (range_with_len 0 maps); numbers = map number_of (enumerate_from 0 kinds) }

  -- A row of words can be read as a table's: atomics have words of their types, and a walk through a map's nodes finds each key once, with the value that a lookup by the seed finds.
  pub record IsTableRow (maps seed : ℕ) : Type 0 where
    pub numbers : (a : ℕ) (kind : AtomicKind) → slice_get kinds a ≡ Some kind → is_word kind (slice_index words (atomic_word a)) ≡ true
    pub roots : (m : ℕ) → m < maps → root_in m < 2 ^ 63
    pub pairs : (m : ℕ) → m < maps → ArePairsOf (stands_for words seed 0 (root_in m)) (pairs_in m)
