-- The numbers of a workload's maps and atomics, and of its pools' parts; what maps and atomics contain at the start, and the ends of a run.
use Rattle.std.specs.Prelude.{ℕ, ◌+◌, ◌*◌, Bool, true, false, cond, List, [], ◌∷◌, map, length, take, count_by, zip}
use Rattle.std.specs.List.{flat_map}
use Rattle.std.specs.Ordering.{nat_cmp}
use Rattle.std.specs.Cmp.Lexicographic.{slice_cmp}
use Rattle.std.specs.FinMap.{FinMap, entries, from_entries}
use Rattle.sync_types.specs.declared.atomic_object.AtomicKind.{AtomicKind}
use Rattle.sync_types.specs.declared.end.End.{End}
use Rattle.sync_types.specs.Ends.{ends_of}
use Rattle.sync_model.specs.SharedHistory.{Contents, first_contents}
use Rattle.workload.specs.declared.object.ObjectKind.{ObjectKind}
use Rattle.workload.specs.declared.object.ObjectKind.TheVariants as kinds
use Rattle.workload.specs.declared.object.ObjectLine.{ObjectLine}
use Rattle.workload.specs.Keys.{keys_in, key_number, key_name}
use Rattle.workload.specs.Plan.{Plan, has_dormant}
use Rattle.run_record.specs.Record.{object_number}

abbrev pub is_map : ObjectKind → Bool
is_map kinds.Map = true
is_map kind = false

abbrev pub is_atomic : ObjectKind → Bool
is_atomic (kinds.Atomic type) = true
is_atomic kind = false

abbrev pub is_pool : ObjectKind → Bool
is_pool kinds.Pool = true
is_pool kind = false

-- the type of an atomic; an object of another kind has none
abbrev pub types_of : ObjectKind → List AtomicKind
types_of (kinds.Atomic type) = type ∷ []
types_of kind = []

-- the number of the object at a place among the maps, among the atomics, and among the pools: how many of them are declared before it
abbrev pub map_number : List ObjectLine → ℕ → ℕ
map_number objects place = count_by (λ object. is_map object.kind) (take place objects)

abbrev pub atomic_number : List ObjectLine → ℕ → ℕ
atomic_number objects place = count_by (λ object. is_atomic object.kind) (take place objects)

abbrev pub pool_number : List ObjectLine → ℕ → ℕ
pool_number objects place = count_by (λ object. is_pool object.kind) (take place objects)

-- Each part of a pool is an object of its own. The parts stand behind all objects of the workload, pool by pool, and a pool has one for each worker: this is the number of part 0 of the pool at a place, and its other parts follow
abbrev pub first_part : Plan → ℕ → ℕ
first_part plan place = object_number (length plan.objects) + pool_number plan.objects place * plan.workers

-- Where some workers wait to be started, Starts is an object too: the last one, behind the parts of all pools
abbrev pub starts_number : Plan → ℕ
starts_number plan = object_number (length plan.objects) + count_by (λ object. is_pool object.kind) plan.objects * plan.workers

-- how many objects a record of a run has: Stop, those of the workload, the parts of its pools, and Starts where there is one
abbrev pub object_count : Plan → ℕ
object_count plan = starts_number plan + cond (has_dormant plan) 1 0

-- the places of the objects of which this is true, in order, from a place on
abbrev pub places_from : ℕ → (ObjectKind → Bool) → List ObjectLine → List ℕ
places_from place is [] = []
places_from place is (object ∷ objects) = cond (is object.kind) (place ∷ places_from (place + 1) is objects) (places_from (place + 1) is objects)

-- what a workload's maps and atomics contain at the start
abbrev pub contents_of : Plan → Contents
contents_of plan = first_contents (count_by (λ object. is_map object.kind) plan.objects) (flat_map (λ object. types_of object.kind) plan.objects)

-- a map by the names of its keys
abbrev pub named : List (List ℕ) → FinMap nat_cmp ℕ → FinMap (slice_cmp nat_cmp) ℕ
named keys m = from_entries (map (λ entry. (key_name keys entry.0, entry.1)) (entries m))

-- what a report shows of these contents: each atomic's number and each map's keys, in byte order, with the places of their objects
abbrev pub ends_in : Plan → Contents → List End
ends_in plan contents = ends_of (key_number (keys_in plan.scripts)) (record {
  numbers = zip (places_from 0 is_atomic plan.objects) contents.numbers;
  maps = zip (places_from 0 is_map plan.objects) (map (named (keys_in plan.scripts)) contents.maps);
})
