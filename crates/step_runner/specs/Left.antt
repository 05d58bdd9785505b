-- What is left of a call to be spelt, by where its worker stands.
use Rattle.std.specs.Prelude.{ℕ, ℤ, Bool, true, false, List, Option, Some, None, slice_get}
use Rattle.script_calls.specs.declared.call.Call.{Call}
use Rattle.script_calls.specs.declared.call.Operation.{Operation}
use Rattle.script_calls.specs.declared.call.Operation.TheVariants as operations
use Rattle.script_calls.specs.declared.call.Reply.{Reply}
use Rattle.script_calls.specs.declared.call.Reply.TheVariants as replies
use Rattle.sync_types.specs.declared.lock_call.MutexCall.{MutexCall}
use Rattle.sync_types.specs.declared.lock_call.RwMutexCall.{RwMutexCall}
use Rattle.sync_types.specs.declared.lock_call.RwMutexCall.TheVariants as rw_calls
use Rattle.sync_types.specs.declared.once_call.DoReply.TheVariants as do_replies
use Rattle.sync_types.specs.declared.wait_call.CondCall.{CondCall}
use Rattle.sync_types.specs.declared.wait_call.CondCall.TheVariants as cond_calls
use Rattle.sync_types.specs.declared.wait_call.WaitGroupCall.{WaitGroupCall}
use Rattle.sync_types.specs.declared.sema_call.SemaCall.{SemaCall}
use Rattle.mutex_core.specs.MutexMachine as mutex
use Rattle.mutex_core.specs.declared.place.Place.{Place as MutexPlace}
use Rattle.mutex_core.specs.declared.place.Place.TheVariants as mutex_place
use Rattle.rw_core.specs.RwMachine as rw
use Rattle.rw_core.specs.declared.place.Place.{Place as RwPlace}
use Rattle.rw_core.specs.declared.place.Place.TheVariants as rw_place
use Rattle.wait_cores.specs.NotifyStanding.{has_ticket}
use Rattle.wait_cores.specs.OnceStanding as once
use Rattle.flight_core.specs.FlightStanding as flight
use Rattle.flight_core.specs.declared.calls.FlightOutcome.{FlightOutcome}
use Rattle.flight_core.specs.declared.calls.FlightOutcome.TheVariants.{Lead}
use Rattle.flight_core.specs.declared.calls.FlightStage.{FlightStage}
use Rattle.flight_core.specs.declared.calls.FlightStage.TheVariants as flight_stage
use Rattle.flight_core.specs.declared.calls.FlightStand.{FlightStand}
use Rattle.flight_core.specs.declared.calls.FlightStand.TheVariants.{Out, Leads, Waits}
use Rattle.sema_core.specs.declared.calls.SemaStage.{SemaStage}
use Rattle.protocols.specs.OnceStages.{once_event, once_meaning}
use Rattle.protocols.specs.RwMutexStages.{rw_event, rw_meaning}
use Rattle.protocols.specs.declared.cond.CondStage.TheVariants as cond_stage
use Rattle.protocols.specs.declared.mutex.MutexStage.TheVariants as mutex_stage
use Rattle.protocols.specs.declared.once.OnceOutcome.{OnceOutcome}
use Rattle.protocols.specs.declared.once.OnceOutcome.TheVariants.{Run}
use Rattle.protocols.specs.declared.once.OnceStage.{OnceStage}
use Rattle.protocols.specs.declared.once.OnceStage.TheVariants as once_stage
use Rattle.protocols.specs.declared.rw_mutex.RwMutexStage.{RwMutexStage}
use Rattle.protocols.specs.declared.rw_mutex.RwMutexStage.TheVariants as rw_stage
use Rattle.protocols.specs.declared.wait_group.GroupStage.{GroupStage}
use Rattle.run_record.specs.AtomicKind.{adds}
use Rattle.run_record.specs.Calls.{call_on}
use Rattle.run_record.specs.CondKind.{cond_part, wait_part, cond_call}
use Rattle.run_record.specs.FlightKind.{flight_part, goes_on_flight}
use Rattle.run_record.specs.MutexKind.{mutex_part, mutex_call}
use Rattle.run_record.specs.Objects.{atomic_number}
use Rattle.run_record.specs.OnceKind.{goes_on_once, once_part, failure}
use Rattle.run_record.specs.Parts.{Part, and_then, never, read_as, returns, stages}
use Rattle.run_record.specs.Record.{object_number}
use Rattle.run_record.specs.RwMutexKind.{rw_mutex_call}
use Rattle.run_record.specs.SemaKind.{sema_part}
use Rattle.run_record.specs.WaitGroupKind.{wait_group_part}
use Rattle.run_record.specs.declared.entered.ObjectEvent.TheVariants as events
use Rattle.run_record.specs.declared.entered.ObjectReply.TheVariants as answered
use Rattle.workload.specs.Keys.{keys_in, key_number}
use Rattle.workload.specs.Plan.{Plan, reference_of}
use Rattle.step_runner.specs.declared.turns.object_state.ObjectState.{ObjectState}
use Rattle.step_runner.specs.declared.turns.object_state.ObjectState.TheVariants as states
use Rattle.step_runner.specs.Due.{group_behind, group_from, sema_behind, sema_from}
use Rattle.step_runner.specs.Objects.{kind_of}

-- ---- whether a worker is within a lock

abbrev pub mutex_waits : MutexPlace → Bool
mutex_waits mutex_place.Out = false
mutex_waits mutex_place.Waiting = true
mutex_waits mutex_place.Woken = true
mutex_waits mutex_place.Handed = true

-- by which stage a writer goes on that waits where this place is. A reader that was admitted waits where one in the queue does
abbrev pub rw_waits : RwPlace → Option RwMutexStage
rw_waits rw_place.Out = None
rw_waits rw_place.Queued = Some rw_stage.Inner
rw_waits rw_place.Woken = Some rw_stage.Inner
rw_waits rw_place.Handed = Some rw_stage.Inner
rw_waits rw_place.Admitted = Some rw_stage.Inner
rw_waits rw_place.Waiting = Some rw_stage.Behind
rw_waits rw_place.Granted = Some rw_stage.Behind

-- ---- what is left, by kind: the whole call, where the worker is out

-- a lock that was queued goes on
abbrev pub mutex_left : ℕ → MutexCall → Bool → Part (Reply ℕ)
mutex_left object call false = mutex_call object call
mutex_left object call true = read_as replies.Lock (mutex_part object mutex_stage.Resume)

-- a reader that waits leaves
abbrev pub rw_later : RwMutexCall → RwMutexStage → RwMutexStage
rw_later rw_calls.RLock stage = rw_stage.LeaveReading
rw_later call stage = stage

abbrev pub rw_left : ℕ → RwMutexCall → Option RwMutexStage → Part (Reply ℕ)
rw_left object call None = rw_mutex_call object call
rw_left object call (Some stage) = read_as replies.Lock (stages events.RwMutex answered.RwMutex rw_event rw_meaning object (rw_later call stage))

-- the stage for which it waits, or the call
abbrev pub group_left : ℕ → WaitGroupCall → Option GroupStage → Part (Reply ℕ)
group_left object call behind = read_as (λ done. replies.Returned) (wait_group_part object (group_from call behind))

abbrev pub sema_left : ℕ → SemaCall → Option SemaStage → Part (Reply ℕ)
sema_left object call behind = read_as replies.Lock (sema_part object (sema_from call behind))

-- by whether the worker has a ticket, and whether it waits at the mutex: one with a ticket leaves and locks the mutex, and one that waits there goes on
abbrev pub cond_left : ℕ → ℕ → CondCall → Bool → Bool → Part (Reply ℕ)
cond_left object mutex cond_calls.Wait has true = read_as (λ locked. replies.Returned) (mutex_part mutex mutex_stage.Resume)
cond_left object mutex cond_calls.Wait true false = and_then (cond_part object cond_stage.Leave) (λ left. read_as (λ locked. replies.Returned) (mutex_part mutex mutex_stage.Lock))
cond_left object mutex cond_calls.Wait false false = wait_part object mutex
cond_left object mutex call has waits = cond_call object mutex call

module _ {T : Type 0} (part : OnceStage T → Part (OnceOutcome T)) (function : Part T) (ran returned : T → Reply ℕ) where
  -- by whether the worker runs the function, and whether it waits: the one that runs it does what it does and ends it, and one that waits leaves
  abbrev pub once_left : Bool → Bool → Part (Reply ℕ)
  once_left runs true = and_then (part once_stage.Leave) (goes_on_once part function ran returned)
  once_left true false = goes_on_once part function ran returned Run
  once_left false false = once_part part function ran returned

module _ (part : FlightStage → Part FlightOutcome) (function : Part ℤ) (key : ℕ) where
  -- by where the worker stands, who comes for the key of this number: one that leads a flight does what the function does and lands, and one that waits leaves
  abbrev pub flight_left : FlightStand → Part (Reply ℕ)
  flight_left Out = and_then (part (flight_stage.Join key)) (goes_on_flight part function)
  flight_left Leads = goes_on_flight part function Lead
  flight_left Waits = and_then (part flight_stage.Leave) (goes_on_flight part function)

-- ---- what is left of a worker's call, who has made so many calls on maps and atomics before

module _ (plan : Plan) (worker before place : ℕ) where
  -- at an object that refers to no other
  abbrev pub left_on : Operation → ObjectState → Part (Reply ℕ)
  left_on (operations.Mutex call) (states.Mutex m) = mutex_left (object_number place) call (mutex_waits (mutex.place_of m worker))
  left_on (operations.RwMutex call) (states.RwMutex m) = rw_left (object_number place) call (rw_waits (rw.place_of m worker))
  left_on (operations.WaitGroup call) (states.WaitGroup g first) = group_left (object_number place) call (group_behind g worker)
  left_on (operations.Sema call) (states.Sema s size) = sema_left (object_number place) call (sema_behind s worker)
  left_on operations.OnceFunc (states.OnceFunc o code) =
      once_left (stages events.OnceFunc answered.OnceFunc once_event once_meaning (object_number place)) (returns code) (λ kept. replies.OnceFunc (failure kept)) (λ kept. replies.OnceFunc (failure kept))
      (once.runs_at o worker) (once.waits_at o worker)
  left_on operations.OnceValue (states.OnceValue o value) =
      once_left (stages events.OnceValue answered.OnceValue once_event once_meaning (object_number place)) (returns value) replies.OnceValue replies.OnceValue (once.runs_at o worker) (once.waits_at o worker)
  left_on operation o = call_on plan worker before place (kind_of o) operation

  -- at an object that refers to the one at that place
  abbrev pub left_on_both : ℕ → Operation → ObjectState → ObjectState → Part (Reply ℕ)
  left_on_both other (operations.Cond call) (states.Cond c at) (states.Mutex m) =
      cond_left (object_number place) (object_number other) call (has_ticket c worker) (mutex_waits (mutex.place_of m worker))
  left_on_both other operations.Once (states.Once o at delta) (states.Atomic number) =
      once_left (stages events.Once answered.Once once_event once_meaning (object_number place)) (adds (atomic_number plan.objects other) delta) (λ sum. replies.Once (do_replies.Ran sum))
      (λ kept. replies.Once do_replies.Done) (once.runs_at o worker) (once.waits_at o worker)
  left_on_both other (operations.Fly key) (states.Flight f keys at delta) (states.Atomic number) =
      flight_left (flight_part (object_number place)) (adds (atomic_number plan.objects other) delta) (key_number (keys_in plan.scripts) key) (flight.stands_at f worker)
  left_on_both other operation o target = never

module _ (plan : Plan) (worker before : ℕ) (call : Call) where
  abbrev pub left_beside : ℕ → ObjectState → Option ObjectState → Part (Reply ℕ)
  left_beside other o None = never
  left_beside other o (Some target) = left_on_both plan worker before call.object other call.operation o target

  abbrev pub left_by : Option ℕ → List ObjectState → ObjectState → Part (Reply ℕ)
  left_by None objects o = left_on plan worker before call.object call.operation o
  left_by (Some other) objects o = left_beside other o (slice_get objects other)

  abbrev pub left_found : Option ObjectState → List ObjectState → Part (Reply ℕ)
  left_found None objects = never
  left_found (Some o) objects = left_by (reference_of (kind_of o)) objects o

  abbrev pub left_at : List ObjectState → Part (Reply ℕ)
  left_at objects = left_found (slice_get objects call.object) objects
