-- Tables by name, as finite maps.
use Rattle.std.specs.Prelude.{ℕ, Bool, List, map}
use Rattle.std.specs.List.{list_all}
use Rattle.std.specs.Global.{Vec}
use Rattle.std.specs.Ordering.{nat_cmp}
use Rattle.std.specs.Cmp.Lexicographic.{slice_cmp}
use Rattle.std.specs.FinMap.{FinMap, from_entries}
use Rattle.sync_types.specs.Name.{is_name}

-- the finite map of entries whose keys are vectors of bytes
abbrev pub by_bytes : {X : Type 0} → List (Vec ℕ × X) → FinMap (slice_cmp nat_cmp) X
by_bytes entries = from_entries (map (λ e. (e.0.items, e.1)) entries)

-- whether each key is a name
abbrev pub all_names : {X : Type 0} → List (Vec ℕ × X) → Bool
all_names entries = list_all (λ e. is_name e.0.items) entries
