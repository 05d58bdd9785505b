-- Workloads whose workers keep to their locks: each locks a mutex only where it doesn't hold it, and unlocks it only where it does.
use Rattle.std.specs.Prelude.{◌≡◌, ℕ, Bool, true, false, ◌&&◌, ◌==◌, not, cond, List, [], ◌∷◌, Some, slice_get}
use Rattle.std.specs.List.{list_all}
use Rattle.script_calls.specs.declared.call.Call.{Call}
use Rattle.script_calls.specs.declared.call.Operation.{Operation}
use Rattle.script_calls.specs.declared.call.Operation.TheVariants as operations
use Rattle.sync_types.specs.declared.lock_call.MutexCall.TheVariants.{Lock, Unlock}
use Rattle.workload.specs.declared.object.ObjectKind.{ObjectKind}
use Rattle.workload.specs.declared.object.ObjectKind.TheVariants as kinds
use Rattle.workload.specs.declared.object.ObjectLine.{ObjectLine}
use Rattle.workload.specs.Plan.{Plan}

-- whether an object is a map, an atomic or a mutex
abbrev pub is_plain : ObjectKind → Bool
is_plain kinds.Map = true
is_plain (kinds.Atomic type) = true
is_plain kinds.Mutex = true
is_plain kind = false

-- whether all objects are
abbrev pub has_plain_objects : Plan → Bool
has_plain_objects plan = list_all (λ object. is_plain object.kind) plan.objects

-- whether a worker that holds a mutex, or doesn't, may make this call on it: `lock` where it doesn't, `unlock` where it does, and never `trylock`
abbrev pub is_in_turn : Bool → Operation → Bool
is_in_turn false (operations.Mutex Lock) = true
is_in_turn true (operations.Mutex Unlock) = true
is_in_turn held operation = false

-- whether a worker that holds the mutex at a place, or doesn't, keeps to it along these calls: of those on it each may be made, by turns
abbrev pub keeps_lock : ℕ → Bool → List Call → Bool
keeps_lock place held [] = true
keeps_lock place held (call ∷ calls) = cond (call.object == place) (is_in_turn held call.operation && keeps_lock place (not held) calls) (keeps_lock place held calls)

-- whether a call locks the mutex at a place, and whether it unlocks it
abbrev pub is_lock : Operation → Bool
is_lock (operations.Mutex Lock) = true
is_lock operation = false

abbrev pub is_unlock : Operation → Bool
is_unlock (operations.Mutex Unlock) = true
is_unlock operation = false

abbrev pub locks_at : ℕ → Call → Bool
locks_at place call = (call.object == place) && is_lock call.operation

abbrev pub unlocks_at : ℕ → Call → Bool
unlocks_at place call = (call.object == place) && is_unlock call.operation

-- all objects are maps, atomics and mutexes, and along each script the calls on each mutex are `lock` and `unlock` by turns, `lock` first
pub record KeepsItsLocks (plan : Plan) : Type 0 where
  pub plain : has_plain_objects plan ≡ true
  pub locks : (place : ℕ) (object : ObjectLine) → slice_get plan.objects place ≡ Some object → object.kind ≡ kinds.Mutex → list_all (keeps_lock place false) plan.scripts ≡ true
