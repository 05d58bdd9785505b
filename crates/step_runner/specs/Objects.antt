-- What an object is between two turns, and what a turn needs of it.
use Rattle.std.specs.Prelude.{◌≡◌, ℕ, pos, List, length, slice_get, Some}
use Rattle.std.specs.FinMap.{empty}
use Rattle.mutex_core.specs.MutexMachine as mutex
use Rattle.rw_core.specs.RwMachine as rw
use Rattle.wait_cores.specs.NotifyMachine as notify
use Rattle.wait_cores.specs.GroupMachine as group
use Rattle.wait_cores.specs.OnceMachine as once
use Rattle.pool_core.specs.PoolMachine as pool
use Rattle.sema_core.specs.SemaMachine as sema
use Rattle.flight_core.specs.FlightMachine as flight
use Rattle.wait_cores.specs.declared.group.GroupEvent.TheVariants.{Add}
use Rattle.sync_types.specs.SequentialAtomic.{zero_of}
use Rattle.sync_types.specs.SequentialAtomic as atomics
use Rattle.workload.specs.declared.object.ObjectKind.{ObjectKind}
use Rattle.workload.specs.declared.object.ObjectKind.TheVariants as kinds
use Rattle.step_runner.specs.declared.turns.object_state.ObjectState.{ObjectState}
use Rattle.step_runner.specs.declared.turns.object_state.ObjectState.TheVariants as states

-- an object as a run of so many workers begins with it: a pool's parts have this much room, a group of flights numbers these keys, and a wait group's counter is added to. A start
-- above 2^31 - 1, which no text has, would be a misuse there and leave the counter at 0
abbrev pub new_object : ℕ → ℕ → List (List ℕ) → ObjectKind → ObjectState
new_object workers room keys kinds.Map = states.Map empty
new_object workers room keys (kinds.Atomic kind) = states.Atomic (zero_of kind)
new_object workers room keys kinds.Mutex = states.Mutex (mutex.start workers)
new_object workers room keys kinds.RwMutex = states.RwMutex (rw.start workers)
new_object workers room keys (kinds.Cond place) = states.Cond (notify.start workers) place
new_object workers room keys (kinds.WaitGroup first) = states.WaitGroup (group.next (group.start workers) 0 (Add (pos first))).0 first
new_object workers room keys (kinds.Once place delta) = states.Once (once.start workers) place delta
new_object workers room keys (kinds.OnceFunc code) = states.OnceFunc (once.start workers) code
new_object workers room keys (kinds.OnceValue value) = states.OnceValue (once.start workers) value
new_object workers room keys kinds.Pool = states.Pool (pool.start workers room)
new_object workers room keys (kinds.Sema size) = states.Sema (sema.start workers size) size
new_object workers room keys (kinds.Flight place delta) = states.Flight (flight.start workers) keys place delta
new_object workers room keys kinds.Var = states.Var 0

-- an atomic is of the type of the number that it holds
abbrev pub kind_of : ObjectState → ObjectKind
kind_of (states.Map entries) = kinds.Map
kind_of (states.Atomic number) = kinds.Atomic (atomics.kind_of number)
kind_of (states.Mutex m) = kinds.Mutex
kind_of (states.RwMutex m) = kinds.RwMutex
kind_of (states.Cond c place) = kinds.Cond place
kind_of (states.WaitGroup g first) = kinds.WaitGroup first
kind_of (states.Once o place delta) = kinds.Once place delta
kind_of (states.OnceFunc o code) = kinds.OnceFunc code
kind_of (states.OnceValue o value) = kinds.OnceValue value
kind_of (states.Pool p) = kinds.Pool
kind_of (states.Sema s size) = kinds.Sema size
kind_of (states.Flight f keys place delta) = kinds.Flight place delta
kind_of (states.Var held) = kinds.Var

-- what a turn needs of an object that is a machine: a mutex's state is valid, and the workers are the callers. LeadsTo.antt says by what the
-- machine comes to the state
abbrev pub IsMachineOf : ℕ → ObjectState → Type 0
IsMachineOf workers (states.Map m) = Unit {0}
IsMachineOf workers (states.Atomic number) = Unit {0}
IsMachineOf workers (states.Mutex m) = mutex.IsValid m × (m.callers ≡ workers)
IsMachineOf workers (states.RwMutex m) = rw.IsValid m × (m.callers ≡ workers)
IsMachineOf workers (states.Cond c place) = notify.callers_of c ≡ workers
IsMachineOf workers (states.WaitGroup g first) = group.callers_of g ≡ workers
IsMachineOf workers (states.Once o place delta) = once.callers_of o ≡ workers
IsMachineOf workers (states.OnceFunc o code) = once.callers_of o ≡ workers
IsMachineOf workers (states.OnceValue o value) = once.callers_of o ≡ workers
IsMachineOf workers (states.Pool p) = (length p.primary ≡ workers) × (length p.victims ≡ workers)
IsMachineOf workers (states.Sema s size) = sema.callers_of s ≡ workers
IsMachineOf workers (states.Flight f keys place delta) = flight.callers_of f ≡ workers
IsMachineOf workers (states.Var held) = Unit {0}

-- what is so of each object, by its place
abbrev pub EachAt : (ℕ → ObjectState → Type 0) → List ObjectState → Type 0
EachAt P objects = (place : ℕ) (object : ObjectState) → slice_get objects place ≡ Some object → P place object
