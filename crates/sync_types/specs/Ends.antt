-- What the objects of a run hold at the end, in the order of the report.
use Rattle.std.specs.Prelude.{ℕ, List, ◌++◌, map}
use Rattle.std.specs.List.{flat_map}
use Rattle.std.specs.declared.cmp.Ordering.{Ordering}
use Rattle.std.specs.FinMap.{FinMap, entries}
use Rattle.sync_types.specs.declared.atomic_object.Number.{Number}
use Rattle.sync_types.specs.declared.end.End.{End}
use Rattle.sync_types.specs.declared.end.End.TheVariants as ends

-- the numbers of the atomics and the maps, each with its object's place, in order of declaration; keys of any type, in an order
pub record FinalContents (K : Type 0) (R : K → K → Ordering) : Type 0 where
  pub numbers : List (ℕ × Number)
  pub maps : List (ℕ × FinMap R ℕ)

-- the number of an atomic
abbrev pub number_end : ℕ × Number → End
number_end atomic = ends.Number atomic.0 atomic.1

module _ {K : Type 0} {R : K → K → Ordering} (key_number : K → ℕ) where
  -- each key of a map by its number, with its value, in the order of the keys
  abbrev pub pair_ends : ℕ × FinMap R ℕ → List End
  pair_ends held = map (λ entry. ends.Pair held.0 (key_number entry.0) entry.1) (entries held.1)

  -- first the atomics, and then the maps
  abbrev pub ends_of : FinalContents K R → List End
  ends_of held = map number_end held.numbers ++ flat_map pair_ends held.maps
