-- The ends of maps by the names of their keys.
use Rattle.std.specs.Prelude.{◌≡◌, ℕ, List, map, Some, All, Contains, zip}
use Rattle.std.specs.Ordering.{nat_cmp}
use Rattle.std.specs.Cmp.Lexicographic.{slice_cmp}
use Rattle.std.specs.List.Sorted.{IsStrictlySortedBy}
use Rattle.std.specs.FinMap.{FinMap, entries, from_entries}
use Rattle.sync_types.specs.declared.end.End.{End}
use Rattle.sync_types.specs.Ends.{ends_of}
use Rattle.sync_model.specs.SharedHistory.{Contents, value_at}

-- each key that a map has is one of these
abbrev pub HasKeysAmong : List ℕ → Contents → Type 0
HasKeysAmong order contents = (m key value : ℕ) → value_at contents m key ≡ Some value → Contains order key

-- the keys stand in byte order of their names, each of which is the name of one key alone
pub record AreInNameOrder (name : ℕ → List ℕ) (number : List ℕ → ℕ) (order : List ℕ) : Type 0 where
  pub numbers : All (λ key. number (name key) ≡ key) order
  pub rise : IsStrictlySortedBy (slice_cmp nat_cmp) (map name order)

-- a map by the names of its keys
abbrev pub by_name : (ℕ → List ℕ) → FinMap nat_cmp ℕ → FinMap (slice_cmp nat_cmp) ℕ
by_name name m = from_entries (map (λ entry. (name entry.0, entry.1)) (entries m))

-- the ends of maps by name: each map's keys in byte order of their names, by their numbers
abbrev pub ends_by_name : (ℕ → List ℕ) → (List ℕ → ℕ) → List ℕ → List ℕ → Contents → List End
ends_by_name name number atomics maps contents = ends_of number (record { numbers = zip atomics contents.numbers; maps = zip maps (map (by_name name) contents.maps) })
