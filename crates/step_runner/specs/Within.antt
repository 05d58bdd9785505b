-- Where a worker stands at the objects while its call isn't completed, and that it stands nowhere between two calls.
use Rattle.std.specs.Prelude.{◌≡◌, ◌≢◌, ℕ, true, false, List, Option, Some, None, slice_get}
use Rattle.script_calls.specs.declared.call.Call.{Call}
use Rattle.script_calls.specs.declared.call.Operation.{Operation}
use Rattle.script_calls.specs.declared.call.Operation.TheVariants as operations
use Rattle.sync_types.specs.declared.lock_call.RwMutexCall.{RwMutexCall}
use Rattle.sync_types.specs.declared.lock_call.RwMutexCall.TheVariants as rw_calls
use Rattle.sync_types.specs.declared.wait_call.CondCall.TheVariants as cond_calls
use Rattle.mutex_core.specs.MutexMachine as mutex
use Rattle.mutex_core.specs.declared.place.Place.TheVariants as mutex_place
use Rattle.rw_core.specs.RwMachine as rw
use Rattle.wait_cores.specs.NotifyStanding.{has_ticket}
use Rattle.wait_cores.specs.OnceMachine.{OnceState}
use Rattle.wait_cores.specs.OnceStanding as once
use Rattle.flight_core.specs.FlightStanding as flight
use Rattle.flight_core.specs.declared.calls.FlightStand.TheVariants.{Out}
use Rattle.workload.specs.Plan.{reference_of}
use Rattle.step_runner.specs.declared.turns.answer.Answer.{Answer}
use Rattle.step_runner.specs.declared.turns.answer.Answer.TheVariants as answers
use Rattle.step_runner.specs.declared.turns.object_state.ObjectState.{ObjectState}
use Rattle.step_runner.specs.declared.turns.object_state.ObjectState.TheVariants as states
use Rattle.step_runner.specs.Due.{group_behind, GroupFits, sema_behind, SemaFits}
use Rattle.step_runner.specs.Objects.{kind_of, EachAt}

-- ---- between two calls

-- it neither waits at the once nor runs its function
abbrev pub IsOutOfOnce : {T : Type 0} → OnceState T → ℕ → Type 0
IsOutOfOnce o worker = (once.waits_at o worker ≡ false) × (once.runs_at o worker ≡ false)

-- it has no ticket of a cond, waits at no wait group, no once and no semaphore, runs no function, and is in no flight. Of locks `IsOutAt` speaks
abbrev pub IsIdle : ℕ → ObjectState → Type 0
IsIdle worker (states.Cond c place) = has_ticket c worker ≡ false
IsIdle worker (states.WaitGroup g first) = group_behind g worker ≡ None
IsIdle worker (states.Once o place delta) = IsOutOfOnce o worker
IsIdle worker (states.OnceFunc o code) = IsOutOfOnce o worker
IsIdle worker (states.OnceValue o value) = IsOutOfOnce o worker
IsIdle worker (states.Sema s size) = sema_behind s worker ≡ None
IsIdle worker (states.Flight f keys place delta) = flight.stands_at f worker ≡ Out
IsIdle worker object = Unit {0}

-- ---- within a call

-- it waits for no writer to unlock, and wasn't admitted
abbrev pub IsNoReader : ℕ → rw.State → Type 0
IsNoReader worker m = (rw.is_among worker m.queue ≡ false) × (rw.is_among worker m.admitted ≡ false)

-- it wasn't granted the lock, waits for no readers, and is out at the inner mutex
abbrev pub IsNoWriter : ℕ → rw.State → Type 0
IsNoWriter worker m = (rw.is_among worker m.granted ≡ false) × ((rw.waits_as worker m.writer ≡ false) × (mutex.place_of m.inner worker ≡ mutex_place.Out))

-- a writer's lock is no reader's, and the other way round
abbrev pub StandsAtRw : RwMutexCall → ℕ → rw.State → Type 0
StandsAtRw rw_calls.Lock worker m = IsNoReader worker m
StandsAtRw rw_calls.RLock worker m = IsNoWriter worker m
StandsAtRw call worker m = Unit {0}

-- whoever runs the function doesn't wait
abbrev pub StandsAtOnce : {T : Type 0} → ℕ → OnceState T → Type 0
StandsAtOnce worker o = once.runs_at o worker ≡ true → once.waits_at o worker ≡ false

-- at the call's object, where that refers to no other
abbrev pub StandsOn : Operation → ℕ → ObjectState → Type 0
StandsOn (operations.RwMutex call) worker (states.RwMutex m) = StandsAtRw call worker m
StandsOn (operations.WaitGroup call) worker (states.WaitGroup g first) = GroupFits call (group_behind g worker)
StandsOn (operations.Sema call) worker (states.Sema s size) = SemaFits call (sema_behind s worker)
StandsOn operations.OnceFunc worker (states.OnceFunc o code) = StandsAtOnce worker o
StandsOn operations.OnceValue worker (states.OnceValue o value) = StandsAtOnce worker o
StandsOn operation worker o = IsIdle worker o

-- at the call's object and at the one to which that refers. One that has a ticket of a cond is out at its mutex, and in a flight a caller may stand anywhere
abbrev pub StandsOnBoth : Operation → ℕ → ObjectState → ObjectState → Type 0
StandsOnBoth (operations.Cond cond_calls.Wait) worker (states.Cond c place) (states.Mutex m) = has_ticket c worker ≡ true → mutex.place_of m worker ≡ mutex_place.Out
StandsOnBoth operations.Once worker (states.Once o place delta) (states.Atomic number) = StandsAtOnce worker o
StandsOnBoth (operations.Fly key) worker (states.Flight f keys place delta) (states.Atomic number) = Unit {0}
StandsOnBoth operation worker o target = IsIdle worker o

module _ (worker : ℕ) (call : Call) where
  abbrev pub StandsBeside : ObjectState → Option ObjectState → Type 0
  StandsBeside o None = Unit {0}
  StandsBeside o (Some target) = StandsOnBoth call.operation worker o target

  abbrev pub StandsBy : Option ℕ → List ObjectState → ObjectState → Type 0
  StandsBy None objects o = StandsOn call.operation worker o
  StandsBy (Some other) objects o = StandsBeside o (slice_get objects other)

  abbrev pub StandsFound : Option ObjectState → List ObjectState → Type 0
  StandsFound None objects = Unit {0}
  StandsFound (Some o) objects = StandsBy (reference_of (kind_of o)) objects o

  -- within the call it stands at the call's objects alone
  pub record IsWithin (objects : List ObjectState) : Type 0 where
    pub here : StandsFound (slice_get objects call.object) objects
    pub elsewhere : EachAt (λ place o. place ≢ call.object → IsIdle worker o) objects

  -- behind a turn of its own: a misuse ends the run
  abbrev pub StandsBehind : Answer → List ObjectState → Type 0
  StandsBehind answers.Still objects = IsWithin objects
  StandsBehind answers.Unfinished objects = IsWithin objects
  StandsBehind (answers.Completed reply) objects = EachAt (λ place. IsIdle worker) objects
  StandsBehind (answers.Misused misuse) objects = Unit {0}
