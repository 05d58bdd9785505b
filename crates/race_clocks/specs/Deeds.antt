-- What one item does of that which Go's memory model, and the documentation of `sync` and `sync/atomic`, order: kind by kind, in the words of the machines' own edges.
use Rattle.std.specs.Prelude.{ℕ, ◌==◌, ◌&&◌, Bool, true, false, not, List, Option}
use Rattle.std.specs.List.{list_any}
use Rattle.std.specs.Option.{option_map_or}
use Rattle.std.specs.Str.{bytes_eq}
use Rattle.sync_types.specs.SequentialMap.{map_key}
use Rattle.sync_types.specs.declared.atomic_object.AtomicCall.{AtomicCall}
use Rattle.sync_types.specs.declared.atomic_object.AtomicCall.TheVariants as atomic_calls
use Rattle.sync_types.specs.declared.atomic_object.AtomicReply.{AtomicReply}
use Rattle.sync_types.specs.declared.atomic_object.AtomicReply.TheVariants as atomic_replies
use Rattle.sync_types.specs.declared.lock_call.RwMutexCall.TheVariants as rw_calls
use Rattle.sync_types.specs.declared.map_object.MapCall.{MapCall}
use Rattle.sync_types.specs.declared.map_object.MapCall.TheVariants as map_calls
use Rattle.script_calls.specs.declared.call.Call.{Call}
use Rattle.script_calls.specs.declared.call.Operation.{Operation}
use Rattle.script_calls.specs.declared.call.Operation.TheVariants as operations
use Rattle.script_calls.specs.declared.call.Reply.TheVariants as replies
use Rattle.mutex_core.specs.Edges as mutex
use Rattle.rw_core.specs.Edges as rw
use Rattle.wait_cores.specs.GroupEdges as group
use Rattle.wait_cores.specs.NotifyEdges as notify
use Rattle.wait_cores.specs.OnceEdges as once
use Rattle.sema_core.specs.SemaEdges as sema
use Rattle.flight_core.specs.FlightEdges as flight
use Rattle.starts_core.specs.StartsEdges as starts
use Rattle.starts_core.specs.declared.starts.StartEvent.TheVariants as start_events
use Rattle.run_record.specs.declared.entered.ObjectEvent.TheVariants as events
use Rattle.run_record.specs.declared.entered.ObjectReply.TheVariants as answered
use Rattle.step_runner.specs.declared.turns.item.Deed.{Deed}
use Rattle.step_runner.specs.declared.turns.item.Deed.TheVariants as deeds

-- ---- a mutex

-- an unlock that is no misuse, that of a cond's `wait` too
abbrev pub unlocks_mutex : Deed → Bool
unlocks_mutex (deeds.Entered (events.Mutex event) (answered.Mutex answer)) = mutex.releases answer
unlocks_mutex deed = false

-- its caller has the mutex from here on
abbrev pub locks_mutex : Deed → Bool
locks_mutex (deeds.Entered (events.Mutex event) (answered.Mutex answer)) = mutex.acquires answer
locks_mutex deed = false

-- ---- a reader/writer mutex

-- an unlock by a writer, and by a reader, that is no misuse
abbrev pub unlocks_as_writer : Deed → Bool
unlocks_as_writer (deeds.Entered (events.RwMutex event) (answered.RwMutex answer)) = not (rw.is_read event) && rw.is_released answer
unlocks_as_writer deed = false

abbrev pub unlocks_as_reader : Deed → Bool
unlocks_as_reader (deeds.Entered (events.RwMutex event) (answered.RwMutex answer)) = rw.is_read event && rw.is_released answer
unlocks_as_reader deed = false

-- it completes a `lock` or an `rlock`, or is a try that took the mutex
abbrev pub locks_rw_mutex : Deed → Bool
locks_rw_mutex (deeds.Entered (events.RwMutex event) (answered.RwMutex answer)) = rw.acquires answer
locks_rw_mutex deed = false

-- whether a call is a writer's. A leaving is one of the call in whose turn it is made
abbrev pub is_writers : Operation → Bool
is_writers (operations.RwMutex rw_calls.Lock) = true
is_writers (operations.RwMutex rw_calls.TryLock) = true
is_writers operation = false

abbrev pub is_writers_call : Option Call → Bool
is_writers_call call = option_map_or (λ c. is_writers c.operation) call false

-- ---- a cond

-- its caller leaves with its ticket
abbrev pub leaves_cond : Deed → Bool
leaves_cond (deeds.Entered (events.Cond event) (answered.Cond answer)) = notify.notify_acquires event answer
leaves_cond deed = false

-- ---- a wait group, and a weighted semaphore

-- a `done`, or an `add` below 0, that is no misuse; or a release that is none
abbrev pub lowers_count : Deed → Bool
lowers_count (deeds.Entered (events.WaitGroup event) (answered.WaitGroup answer)) = group.group_releases event answer
lowers_count (deeds.Entered (events.Sema event) (answered.Sema answer)) = sema.sema_releases event answer
lowers_count deed = false

-- a `wait` returns, or a caller has its weight
abbrev pub passes_count : Deed → Bool
passes_count (deeds.Entered (events.WaitGroup event) (answered.WaitGroup answer)) = group.group_acquires event answer
passes_count (deeds.Entered (events.Sema event) (answered.Sema answer)) = sema.sema_acquires event answer
passes_count deed = false

-- ---- a once, a `OnceFunc` and a `OnceValue`, and a group of flights

-- the function ends, or a flight lands
abbrev pub ends_function : Deed → Bool
ends_function (deeds.Entered (events.Once event) (answered.Once answer)) = once.once_releases event answer
ends_function (deeds.Entered (events.OnceFunc event) (answered.OnceFunc answer)) = once.once_releases event answer
ends_function (deeds.Entered (events.OnceValue event) (answered.OnceValue answer)) = once.once_releases event answer
ends_function (deeds.Entered (events.Flight event) (answered.Flight answer)) = flight.flight_releases event answer
ends_function deed = false

-- a call returns of which another one ran the function, or leads a flight
abbrev pub knows_function : Deed → Bool
knows_function (deeds.Entered (events.Once event) (answered.Once answer)) = once.once_acquires event answer
knows_function (deeds.Entered (events.OnceFunc event) (answered.OnceFunc answer)) = once.once_acquires event answer
knows_function (deeds.Entered (events.OnceValue event) (answered.OnceValue answer)) = once.once_acquires event answer
knows_function (deeds.Entered (events.Flight event) (answered.Flight answer)) = flight.flight_acquires event answer
knows_function deed = false

-- ---- a worker that waits to be started

-- a `go` starts this worker
abbrev pub starts_worker : ℕ → Deed → Bool
starts_worker worker (deeds.Entered (events.Starts (start_events.Start started)) (answered.Starts answer)) = (started == worker) && starts.is_made answer
starts_worker worker deed = false

-- ---- an atomic

-- whether a call is an entry, by what it answers: a load is none, nor a compare-and-swap that swapped nothing
abbrev pub has_swapped : AtomicReply → Bool
has_swapped (atomic_replies.Compared swapped) = swapped
has_swapped atomic_replies.Done = false
has_swapped (atomic_replies.Held number) = false

abbrev pub is_entry : AtomicCall → AtomicReply → Bool
is_entry atomic_calls.Load reply = false
is_entry (atomic_calls.CompareAndSwap old new) reply = has_swapped reply
is_entry call reply = true

abbrev pub enters_atomic : Deed → Bool
enters_atomic (deeds.Placed (operations.Atomic call) (replies.Atomic reply)) = is_entry call reply
enters_atomic deed = false

-- a call finds what the atomic holds: any but a store
abbrev pub finds : AtomicCall → Bool
finds (atomic_calls.Store value) = false
finds call = true

abbrev pub finds_atomic : Deed → Bool
finds_atomic (deeds.Placed (operations.Atomic call) reply) = finds call
finds_atomic deed = false

-- ---- a key of a map

-- whether a call is on this key. A `clear` is on each
abbrev pub is_on : List ℕ → MapCall (List ℕ) → Bool
is_on key call = option_map_or (bytes_eq key) (map_key call) true

-- a call finds what its key has: any but a store, a delete, and a clear, which has no key
abbrev pub finds_key : List ℕ → MapCall (List ℕ) → Bool
finds_key key (map_calls.Store other value) = false
finds_key key (map_calls.Delete other) = false
finds_key key map_calls.Clear = false
finds_key key call = is_on key call

-- so does a `range` that shows the key
abbrev pub finds_in_map : List ℕ → Deed → Bool
finds_in_map key (deeds.Placed (operations.Map call) reply) = finds_key key call
finds_in_map key (deeds.Placed operations.Range (replies.Pairs pairs)) = list_any (λ pair. bytes_eq key pair.0) pairs
finds_in_map key deed = false
