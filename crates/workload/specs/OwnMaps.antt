-- What a worker alone makes of a map, and the union of what the workers make.
use Rattle.std.specs.Prelude.{ℕ, ◌==◌, cond, List, [], ◌∷◌}
use Rattle.std.specs.List.{flat_map}
use Rattle.std.specs.Ordering.{nat_cmp}
use Rattle.std.specs.Cmp.Lexicographic.{slice_cmp}
use Rattle.std.specs.FinMap.{FinMap, empty, entries, from_entries}
use Rattle.script_calls.specs.declared.call.Call.{Call}
use Rattle.script_calls.specs.declared.call.Operation.{Operation}
use Rattle.script_calls.specs.declared.call.Operation.TheVariants as operations
use Rattle.sync_types.specs.SequentialMap.{map_after}

-- a map by the names of its keys
abbrev pub NamedMap : Type 0
NamedMap = FinMap (slice_cmp nat_cmp) ℕ

-- the map of one thread, after an operation on it
abbrev pub after_operation : Operation → NamedMap → NamedMap
after_operation (operations.Map call) m = map_after call m
after_operation operation m = m

-- the map at a place, after the calls of a script on it
abbrev pub after_script : ℕ → NamedMap → List Call → NamedMap
after_script place m [] = m
after_script place m (call ∷ calls) = after_script place (cond (call.object == place) (after_operation call.operation m) m) calls

-- the map that a worker alone makes of an empty one
abbrev pub map_of : ℕ → List Call → NamedMap
map_of place script = after_script place empty script

-- the maps that the workers make, each alone, put together
abbrev pub union_of : ℕ → List (List Call) → NamedMap
union_of place scripts = from_entries (flat_map (λ script. entries (map_of place script)) scripts)
