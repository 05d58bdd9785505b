-- What the workers of a run share, and what a call needs of it.
use Rattle.std.specs.Prelude.{◌≡◌, ℕ, ◌<◌, ◌≤◌, true, false, List, [], length, All, count_by, sum_by, Some, get_or, slice_get, slice_index}
use Rattle.std.specs.List.{flat_map, list_any}
use Rattle.std.specs.Str.{bytes_eq}
use Rattle.sync_types.specs.declared.atomic_object.AtomicKind.{AtomicKind}
use Rattle.script_calls.specs.declared.call.Call.{Call}
use Rattle.script_calls.specs.declared.call.Operation.{Operation}
use Rattle.script_calls.specs.declared.call.Operation.TheVariants as operations
use Rattle.sync_types.specs.BoundedSeq.{Bounded}
use Rattle.sync_model.specs.Shared.{cost_of}
use Rattle.workload.specs.declared.object.ObjectKind.{ObjectKind}
use Rattle.workload.specs.declared.object.ObjectKind.TheVariants as kinds
use Rattle.workload.specs.declared.object.ObjectLine.{ObjectLine}
use Rattle.workload.specs.Dialect.{has_variables}
use Rattle.workload.specs.Draft.{all_keys, is_operation, operation_keys}
use Rattle.workload.specs.Keys.{keys_in}
use Rattle.workload.specs.Plan.{Plan, has_among, refers, starts_dormant}
use Rattle.thread_objects.specs.declared.object.AnyObject.{AnyObject}
use Rattle.thread_objects.specs.AsDeclared.{AreDeclared}
use Rattle.thread_objects.specs.Catalog.{IsAt}
use Rattle.run_record.specs.Objects.{is_map, types_of, map_number, atomic_number, pool_number}

-- the number of a map among so many maps before it, of an atomic among so many atomics, and of a pool among so many pools; an object of another kind has none
abbrev pub kind_number : (maps atomics pools : ℕ) → ObjectKind → ℕ
kind_number maps atomics pools kinds.Map = maps
kind_number maps atomics pools (kinds.Atomic type) = atomics
kind_number maps atomics pools kinds.Pool = pools
kind_number maps atomics pools kind = 0

-- the number of the object at a place among those of its kind
abbrev pub number_at : List ObjectLine → ℕ → ObjectKind → ℕ
number_at objects place kind = kind_number (map_number objects place) (atomic_number objects place) (pool_number objects place) kind

-- the numbers of a workload's maps, atomics and pools, by place
pub record AreNumbers (objects : List ObjectLine) (numbers : List ℕ) : Type 0 where
  pub count : length numbers ≡ length objects
  pub each : (place : ℕ) (object : ObjectLine) → slice_get objects place ≡ Some object → slice_index numbers place ≡ number_at objects place object.kind

-- maps of this number, and atomics of these types, that take these keys, are those of the workload
pub record AreShared (plan : Plan) (maps : ℕ) (types : List AtomicKind) (takes : ℕ → Type 0) : Type 0 where
  pub all_maps : maps ≡ count_by (λ object. is_map object.kind) plan.objects
  pub all_types : types ≡ flat_map (λ object. types_of object.kind) plan.objects
  pub keys : (key : ℕ) → key < length (keys_in plan.scripts) → takes key

-- what all workers of a run share: its objects, with Stop, as the workload declares them, its maps and atomics, and the numbers of these and of its pools. There is no plain variable
pub record IsSite {N H : Type 0} (at : H → N → Type 0) (home : H) (plan : Plan) (maps : ℕ) (types : List AtomicKind) (takes : ℕ → Type 0) (objects : List (AnyObject N H)) (numbers : List ℕ) : Type 0 where
  pub declared : AreDeclared at home plan objects
  pub shared : AreShared plan maps types takes
  pub numbered : AreNumbers plan.objects numbers
  pub plain : has_variables plan ≡ false

-- a worker of a run with this site, that counts so many workers, and whose home is that of the maps and atomics
pub record IsWorkerAt {N H : Type 0} (at : H → N → Type 0) (home home_of_shared : H) (plan : Plan) (maps : ℕ) (types : List AtomicKind) (takes : ℕ → Type 0) (objects : List (AnyObject N H)) (numbers : List ℕ) (workers : ℕ) : Type 0 where
  pub site : IsSite at home plan maps types takes objects numbers
  pub homes : home_of_shared ≡ home
  pub counted : plan.workers ≡ workers

-- the call stands in the worker's script
abbrev pub IsScripted : Plan → (worker : ℕ) → Call → Type 0
IsScripted plan worker call = (i : ℕ) × (slice_get (get_or plan.scripts worker []) i ≡ Some call)

-- how many of its worker's spare entries a call takes at most
abbrev pub operation_cost : Operation → ℕ
operation_cost (operations.Map call) = cost_of call
operation_cost operation = 0

abbrev pub cost_of_call : Call → ℕ
cost_of_call call = operation_cost call.operation

-- and so many calls one after the other
abbrev pub cost_of_calls : List Call → ℕ
cost_of_calls calls = sum_by cost_of_call calls

-- how many lists for the pairs of a `range` a call takes
abbrev pub operation_ranges : Operation → ℕ
operation_ranges operations.Range = 1
operation_ranges operation = 0

abbrev pub ranges_in_call : Call → ℕ
ranges_in_call call = operation_ranges call.operation

abbrev pub ranges_in_calls : List Call → ℕ
ranges_in_calls calls = sum_by ranges_in_call calls

-- the lists that were made for the pairs of `range` calls are empty, and have room for so many keys
abbrev pub AreRooms : ℕ → List (Bounded (ℕ × ℕ)) → Type 0
AreRooms keys rooms = All (λ room. (room.items ≡ []) × (keys ≤ room.room)) rooms

-- The workload has an object of this kind at the place, the object has the call, and the workload has all that either of them names: other objects, a worker that waits to be started, values, keys.
pub record HasCallAt (plan : Plan) (place : ℕ) (kind : ObjectKind) (operation : Operation) : Type 0 where
  pub there : IsAt plan place kind
  pub has : has_among plan.objects kind operation ≡ true
  pub reference : refers plan.objects kind ≡ true
  pub dormant : starts_dormant plan.dormant operation ≡ true
  pub ranged : is_operation operation ≡ true
  pub keys : (name : List ℕ) → list_any (bytes_eq name) (operation_keys operation) ≡ true → list_any (bytes_eq name) (all_keys plan.scripts) ≡ true
