-- At which mutex a worker stands while its call isn't completed.
use Rattle.std.specs.Prelude.{◌≡◌, ℕ, Bool, true, false, if◌then◌else◌, List, slice_get, unwrap_or, Option, Some, None}
use Rattle.std.specs.Option.{option_map_or}
use Rattle.script_calls.specs.declared.call.Call.{Call}
use Rattle.script_calls.specs.declared.call.Operation.{Operation}
use Rattle.script_calls.specs.declared.call.Operation.TheVariants as operations
use Rattle.sync_types.specs.declared.lock_call.MutexCall.TheVariants as mutex_calls
use Rattle.sync_types.specs.declared.lock_call.RwMutexCall.TheVariants as rw_calls
use Rattle.sync_types.specs.declared.wait_call.CondCall.TheVariants as cond_calls
use Rattle.mutex_core.specs.MutexMachine as mutex
use Rattle.mutex_core.specs.declared.place.Place.TheVariants as mutex_place
use Rattle.rw_core.specs.RwMachine as rw
use Rattle.rw_core.specs.declared.place.Place.TheVariants as rw_place
use Rattle.workload.specs.declared.object.ObjectKind.{ObjectKind}
use Rattle.workload.specs.Plan.{reference_of}
use Rattle.step_runner.specs.declared.turns.answer.Answer.{Answer}
use Rattle.step_runner.specs.declared.turns.answer.Answer.TheVariants as answers
use Rattle.step_runner.specs.declared.turns.object_state.ObjectState.{ObjectState}
use Rattle.step_runner.specs.declared.turns.object_state.ObjectState.TheVariants as states
use Rattle.step_runner.specs.Objects.{EachAt}

-- whether a worker may wait at a mutex, or at a reader/writer mutex, before the call is completed: to lock it, or to come back to it from a cond
abbrev pub may_wait : Operation → Bool
may_wait (operations.Mutex mutex_calls.Lock) = true
may_wait (operations.RwMutex rw_calls.Lock) = true
may_wait (operations.RwMutex rw_calls.RLock) = true
may_wait (operations.Cond cond_calls.Wait) = true
may_wait operation = false

-- the place of that mutex, if there is one, among objects of these kinds: the one to which the call's object refers, or else that object
abbrev pub waits_at : List ObjectKind → Call → Option ℕ
waits_at kinds call = if may_wait call.operation then Some (unwrap_or (option_map_or reference_of (slice_get kinds call.object) None) call.object) else None

-- the worker isn't at the object, where that is a mutex or a reader/writer mutex
abbrev pub IsOutAt : ℕ → ObjectState → Type 0
IsOutAt worker (states.Mutex m) = mutex.place_of m worker ≡ mutex_place.Out
IsOutAt worker (states.RwMutex m) = rw.place_of m worker ≡ rw_place.Out
IsOutAt worker object = Unit {0}

-- it is out at each but the one at this place, if any
abbrev pub IsOutBut : Option ℕ → ℕ → List ObjectState → Type 0
IsOutBut but worker objects = EachAt (λ place object. (but ≡ Some place → ⊥) → IsOutAt worker object) objects

-- a call that is completed waits nowhere
abbrev pub waits_behind : Answer → Option ℕ → Option ℕ
waits_behind answers.Still at = at
waits_behind answers.Unfinished at = at
waits_behind (answers.Completed reply) at = None
waits_behind (answers.Misused misuse) at = at
