-- What a table that has ended contains, by its words.
use Rattle.std.proofs.Common.{◌≡◌, ℕ, ◌<◌, ◌^◌, List, length, sym, ap, ◌∙◌, arith}
use Rattle.std.specs.Prelude.{All}
use Rattle.std.specs.FinMap.{empty, get, entries, get-from_entries}
use Rattle.std.specs.Cmp.{nat_cmp_total}
use Rattle.std.specs.List.{range_with_len}
use Rattle.std.specs.List.Sorted.{IsPermutation, IsNonDecreasingBy}
use Rattle.std.proofs.lemmas.List.FromFn.{get_or-map-range_with_len, length-range_with_len}
use Rattle.std.proofs.lemmas.List.{length-map}
use Rattle.sync_types.specs.declared.atomic_object.AtomicKind.{AtomicKind}
use Rattle.sync_model.specs.SharedHistory.{map_at, value_at}
use Rattle.trie_nodes.specs.Nodes.{stands_for}
use Rattle.table_words.specs.EndWords.{root_in, pairs_in, map_in, contents_in, IsTableRow}
use Rattle.table_words.proofs.Sorting.{are_entries, as_many}

-- there are as many maps as the table has
pub maps_long : (kinds : List AtomicKind) (words : List ℕ) (maps : ℕ) → length (contents_in kinds words maps).maps ≡ maps
maps_long kinds words maps = length-map (range_with_len 0 maps) (map_in kinds words) ∙ length-range_with_len 0 maps

module _ (kinds : List AtomicKind) (words : List ℕ) (maps m : ℕ) (inside : m < length (contents_in kinds words maps).maps) where
  below : m < maps
  below = let long = maps_long kinds words maps in omega arith

  pub root_small : (seed : ℕ) → IsTableRow kinds words maps seed → root_in kinds words m < 2 ^ 63
  root_small seed row = row.roots m below

  pub keys_small : (seed : ℕ) → IsTableRow kinds words maps seed → All (λ pair. pair.0 < 2 ^ 32) (pairs_in kinds words m)
  keys_small seed row = (row.pairs m below).keys

  -- the map of a number
  pub map_is : map_at (contents_in kinds words maps) m ≡ map_in kinds words m
  map_is = get_or-map-range_with_len (map_in kinds words) 0 maps m m empty below (omega arith)

  -- a key has what a lookup finds
  pub value_is : (seed key : ℕ) → key < 2 ^ 32 → IsTableRow kinds words maps seed → value_at (contents_in kinds words maps) m key ≡ stands_for words seed 0 (root_in kinds words m) key
  value_is seed key fits row = ap (λ held. get held key) map_is ∙ get-from_entries nat_cmp_total (pairs_in kinds words m) key ∙ (row.pairs m below).found key fits

  -- it has as many keys as a walk finds, and a sorted list of what the walk finds has its entries
  pub count_is : (seed : ℕ) → IsTableRow kinds words maps seed → length (entries (map_at (contents_in kinds words maps) m)) ≡ length (pairs_in kinds words m)
  count_is seed row = ap (λ held. length (entries held)) map_is ∙ as_many (pairs_in kinds words m) (row.pairs m below).once

  pub sorted_is : (seed : ℕ) (pairs : List (ℕ × ℕ)) → IsTableRow kinds words maps seed → IsPermutation (pairs_in kinds words m) pairs → IsNonDecreasingBy (λ pair. pair.0) pairs → pairs ≡ entries (map_at (contents_in kinds words maps) m)
  sorted_is seed pairs row same rise = are_entries (pairs_in kinds words m) pairs (row.pairs m below).once same rise ∙ sym (ap entries map_is)
