-- What holds of the parts of calls, however they are put together, holds of the calls of a workload.
use Rattle.std.proofs.Common.{◌≡◌, ℕ, zero, suc, ◌+◌, ℤ, Bool, true, false, cond, List, [], ◌∷◌, Option, Some, None, slice_get, refl}
use Rattle.std.specs.List.{range_with_len}
use Rattle.sync_types.specs.declared.atomic_object.AtomicCall.{AtomicCall}
use Rattle.sync_types.specs.declared.atomic_object.AtomicCall.TheVariants.{Load}
use Rattle.sync_types.specs.declared.atomic_object.Number.{Number}
use Rattle.script_calls.specs.declared.call.Call.{Call}
use Rattle.script_calls.specs.declared.call.ComposedCall.TheVariants.{IfEqual, WaitFor, Go}
use Rattle.script_calls.specs.declared.call.Operation.{Operation}
use Rattle.script_calls.specs.declared.call.Operation.TheVariants as operations
use Rattle.script_calls.specs.declared.call.Reply.{Reply}
use Rattle.script_calls.specs.declared.call.Reply.TheVariants as replies
use Rattle.script_calls.specs.Starts.{started_by, group_of}
use Rattle.sync_types.specs.declared.lock_call.LockReply.{LockReply}
use Rattle.sync_types.specs.declared.lock_call.RwMutexCall.{RwMutexCall}
use Rattle.sync_types.specs.declared.lock_call.RwMutexCall.TheVariants as rw_calls
use Rattle.sync_types.specs.declared.map_object.MapCall.{MapCall}
use Rattle.sync_types.specs.declared.once_call.DoReply.TheVariants as do_replies
use Rattle.sync_types.specs.declared.pool_call.PoolCall.{PoolCall}
use Rattle.sync_types.specs.declared.pool_call.PoolCall.TheVariants as pool_calls
use Rattle.sync_types.specs.declared.pool_call.PoolCallReply.TheVariants as pool_replies
use Rattle.sync_types.specs.declared.wait_call.CondCall.{CondCall}
use Rattle.sync_types.specs.declared.wait_call.CondCall.TheVariants as cond_calls
use Rattle.flight_core.specs.declared.calls.FlightOutcome.{FlightOutcome}
use Rattle.flight_core.specs.declared.calls.FlightOutcome.TheVariants as flown
use Rattle.flight_core.specs.declared.calls.FlightStage.{FlightStage}
use Rattle.flight_core.specs.declared.calls.FlightStage.TheVariants as flight_stage
use Rattle.pool_core.specs.declared.pool_event.PoolEvent.{PoolEvent}
use Rattle.protocols.specs.GroupStages.{group_event, group_meaning}
use Rattle.protocols.specs.OnceStages.{once_event, once_meaning}
use Rattle.protocols.specs.RwMutexStages.{rw_event, rw_meaning}
use Rattle.protocols.specs.declared.cond.CondStage.{CondStage}
use Rattle.protocols.specs.declared.cond.CondStage.TheVariants as cond_stage
use Rattle.protocols.specs.declared.mutex.MutexStage.{MutexStage}
use Rattle.protocols.specs.declared.mutex.MutexStage.TheVariants as mutex_stages
use Rattle.protocols.specs.declared.once.OnceOutcome.{OnceOutcome}
use Rattle.protocols.specs.declared.once.OnceOutcome.TheVariants.{Run, Already, Ended}
use Rattle.protocols.specs.declared.once.OnceStage.{OnceStage}
use Rattle.protocols.specs.declared.once.OnceStage.TheVariants as once_stage
use Rattle.protocols.specs.declared.pool.PoolOutcome.{PoolOutcome}
use Rattle.protocols.specs.declared.pool.PoolOutcome.TheVariants.{Kept, Dropped, Item, Nothing, Swept}
use Rattle.protocols.specs.declared.pool.PoolStage.{PoolStage}
use Rattle.protocols.specs.declared.pool.PoolStage.TheVariants as pool_stage
use Rattle.protocols.specs.declared.rw_mutex.RwMutexStage.{RwMutexStage}
use Rattle.protocols.specs.declared.rw_mutex.RwMutexStage.TheVariants as rw_stage
use Rattle.protocols.specs.declared.wait_group.GroupStage.{GroupStage}
use Rattle.protocols.specs.declared.wait_group.GroupStage.TheVariants as group_stage
use Rattle.sema_core.specs.declared.calls.SemaStage.{SemaStage}
use Rattle.starts_core.specs.declared.protocol.StartsOutcome.{StartsOutcome}
use Rattle.starts_core.specs.declared.protocol.StartsStage.TheVariants as starts_stage
use Rattle.workload.specs.declared.object.ObjectKind.{ObjectKind}
use Rattle.workload.specs.declared.object.ObjectKind.TheVariants as kinds
use Rattle.workload.specs.declared.object.ObjectLine.{ObjectLine}
use Rattle.workload.specs.Keys.{keys_in, key_number}
use Rattle.workload.specs.Plan.{Plan, is_dormant, has_dormant}
use Rattle.run_record.specs.declared.entered.ObjectEvent.TheVariants as event
use Rattle.run_record.specs.declared.entered.ObjectReply.TheVariants as reply
use Rattle.run_record.specs.AtomicKind.{adds, atomic_call}
use Rattle.run_record.specs.Calls.{call_on, call_at, SpellsCall}
use Rattle.run_record.specs.CondKind.{cond_part, cond_call, wait_part}
use Rattle.run_record.specs.FlightKind.{was_shared, goes_on_flight, flight_part, fly_call}
use Rattle.run_record.specs.MapKind.{map_call, range_call}
use Rattle.run_record.specs.MutexKind.{mutex_part}
use Rattle.run_record.specs.Objects.{atomic_number, starts_number}
use Rattle.run_record.specs.OnceKind.{goes_on_once, once_part, do_call, func_call, value_call, failure}
use Rattle.run_record.specs.Parts.{Part, returns, never, and_then, read_as, stages}
use Rattle.run_record.specs.RwMutexKind.{rw_part, write_part}
use Rattle.run_record.specs.PoolKind.{pool_part, pool_call, part_of, found_by, found_or, looks_of, stage_of, swept_by}
use Rattle.run_record.specs.Record.{object_number}
use Rattle.run_record.specs.SemaKind.{sema_part}
use Rattle.run_record.specs.StartsKind.{starts_part, was_started, wait_start_part, end_part, opening, done_under, done_part, closing}
use Rattle.run_record.specs.Tests as test

-- it goes on from parts to what they are put together to
pub record GoesThrough (Q : (O : Type 0) → Part O → Type 0) : Type 1 where
  pub returned : (O : Type 0) (outcome : O) → Q O (returns outcome)
  pub none : (O : Type 0) → Q O never
  pub behind : (O P : Type 0) (first : Part O) (next : O → Part P) → Q O first → ((outcome : O) → Q P (next outcome)) → Q P (and_then first next)
  pub read : (O P : Type 0) (f : O → P) (part : Part O) → Q O part → Q P (read_as f part)

-- and holds of each part; of calls on maps, of starts, and of calls on flights, nothing is said
pub record HoldsOfParts (Q : (O : Type 0) → Part O → Type 0) : Type 1 where
  pub through : GoesThrough Q
  pub mutex : (object : ℕ) (stage : MutexStage) → Q LockReply (mutex_part object stage)
  pub rw_mutex : (object : ℕ) (stage : RwMutexStage) → Q LockReply (stages event.RwMutex reply.RwMutex rw_event rw_meaning object stage)
  pub writes : (object : ℕ) → Q LockReply (write_part object)
  pub cond : (object : ℕ) (stage : CondStage) → Q (Unit {0}) (cond_part object stage)
  pub wait_group : (object : ℕ) (stage : GroupStage) → Q (Unit {0}) (stages event.WaitGroup reply.WaitGroup group_event group_meaning object stage)
  pub once : (object : ℕ) (stage : OnceStage ℤ) → Q (OnceOutcome ℤ) (stages event.Once reply.Once once_event once_meaning object stage)
  pub func : (object : ℕ) (stage : OnceStage ℕ) → Q (OnceOutcome ℕ) (stages event.OnceFunc reply.OnceFunc once_event once_meaning object stage)
  pub value : (object : ℕ) (stage : OnceStage ℕ) → Q (OnceOutcome ℕ) (stages event.OnceValue reply.OnceValue once_event once_meaning object stage)
  pub pool : (object : ℕ) (stage : PoolStage) → Q PoolOutcome (pool_part object stage)
  pub sema : (object : ℕ) (stage : SemaStage) → Q LockReply (sema_part object stage)
  pub added : (a : ℕ) (amount : ℤ) → Q ℤ (adds a amount)
  pub atomic : (a : ℕ) (call : AtomicCall) → Q (Reply ℕ) (atomic_call a call)
  pub range : (keys : List (List ℕ)) (m begin : ℕ) → Q (Reply ℕ) (range_call keys m begin)

-- it holds of a call on flights, where it holds of its stages, and of the function
module _ (Q : (O : Type 0) → Part O → Type 0) (through : GoesThrough Q) (object a : ℕ) (amount : ℤ) (key : ℕ) (of_stage : (stage : FlightStage) → Q FlightOutcome (flight_part object stage)) (of_function : Q ℤ (adds a amount)) where
  of_lead : (outcome : FlightOutcome) → Q (Reply ℕ) (goes_on_flight (flight_part object) (adds a amount) outcome)
  of_lead flown.Lead = through.behind _ _ (adds a amount) _ of_function (λ value. through.read _ _ (λ outcome. replies.Flown value (was_shared outcome)) _ (of_stage (flight_stage.Land value)))
  of_lead (flown.Got value) = through.returned _ (replies.Flown value true)
  of_lead (flown.Landed shared) = through.none _

  pub of_fly : Q (Reply ℕ) (fly_call object a amount key)
  of_fly = through.behind _ _ (flight_part object (flight_stage.Join key)) _ (of_stage (flight_stage.Join key)) of_lead

module _ (Q : (O : Type 0) → Part O → Type 0) (holds : HoldsOfParts Q) where
  of_wait : (object mutex : ℕ) → Q (Reply ℕ) (wait_part object mutex)
  of_wait object mutex = holds.through.behind _ _ _ _ (holds.cond object cond_stage.Ticket) (λ ticket.
      holds.through.behind _ _ _ _ (holds.mutex mutex mutex_stages.Unlock) (λ unlocked.
      holds.through.behind _ _ _ _ (holds.cond object cond_stage.Leave) (λ left.
      holds.through.read _ _ (λ locked. replies.Returned) _ (holds.mutex mutex mutex_stages.Lock))))

  of_rw_part : (object : ℕ) (call : RwMutexCall) → Q LockReply (rw_part object call)
  of_rw_part object rw_calls.Lock = holds.writes object
  of_rw_part object rw_calls.Unlock = holds.rw_mutex object rw_stage.Unlock
  of_rw_part object rw_calls.TryLock = holds.rw_mutex object rw_stage.TryLock
  of_rw_part object rw_calls.RLock = holds.rw_mutex object rw_stage.RLock
  of_rw_part object rw_calls.RUnlock = holds.rw_mutex object rw_stage.RUnlock
  of_rw_part object rw_calls.TryRLock = holds.rw_mutex object rw_stage.TryRLock

  of_cond_call : (object mutex : ℕ) (call : CondCall) → Q (Reply ℕ) (cond_call object mutex call)
  of_cond_call object mutex cond_calls.Wait = of_wait object mutex
  of_cond_call object mutex cond_calls.Signal = holds.through.read _ _ (λ done. replies.Returned) _ (holds.cond object cond_stage.Signal)
  of_cond_call object mutex cond_calls.Broadcast = holds.through.read _ _ (λ done. replies.Returned) _ (holds.cond object cond_stage.Broadcast)

  of_test : (a : ℕ) (value : Number) → Q Bool (test.tests a value)
  of_test a value = holds.through.read _ _ (test.holds value) _ (holds.atomic a Load)

  of_unless_met : (next : Part Bool) → Q Bool next → (met : Bool) → Q Bool (test.unless_met next met)
  of_unless_met next later true = holds.through.returned Bool true
  of_unless_met next later false = later

  of_waits_for : (object mutex a : ℕ) (value : Number) (tries : ℕ) → Q Bool (test.waits_for object mutex a value tries)
  of_waits_for object mutex a value zero = of_test a value
  of_waits_for object mutex a value (suc tries) =
      holds.through.behind _ _ _ _ (of_test a value) (of_unless_met _ (holds.through.behind _ _ _ _ (of_wait object mutex) (λ waited. of_waits_for object mutex a value tries)))

  module _ {T : Type 0} (part : OnceStage T → Part (OnceOutcome T)) (function : Part T) (ran returned : T → Reply ℕ) (of_part : (stage : OnceStage T) → Q (OnceOutcome T) (part stage)) (of_function : Q T function) where
    of_goes_on : (outcome : OnceOutcome T) → Q (Reply ℕ) (goes_on_once part function ran returned outcome)
    of_goes_on Run = holds.through.behind _ _ function _ of_function (λ value. holds.through.read _ _ (λ ended. ran value) _ (of_part (once_stage.End value)))
    of_goes_on (Already kept) = holds.through.returned _ (returned kept)
    of_goes_on Ended = holds.through.none _

    of_once : Q (Reply ℕ) (once_part part function ran returned)
    of_once = holds.through.behind _ _ _ _ (of_part once_stage.Begin) of_goes_on

  of_do : (object a : ℕ) (amount : ℤ) → Q (Reply ℕ) (do_call object a amount)
  of_do object a amount = of_once (stages event.Once reply.Once once_event once_meaning object) (adds a amount) (λ sum. replies.Once (do_replies.Ran sum)) (λ kept. replies.Once do_replies.Done) (holds.once object) (holds.added a amount)

  of_func : (object code : ℕ) → Q (Reply ℕ) (func_call object code)
  of_func object code =
      of_once (stages event.OnceFunc reply.OnceFunc once_event once_meaning object) (returns code) (λ kept. replies.OnceFunc (failure kept)) (λ kept. replies.OnceFunc (failure kept)) (holds.func object) (holds.through.returned ℕ code)

  of_value : (object value : ℕ) → Q (Reply ℕ) (value_call object value)
  of_value object value = of_once (stages event.OnceValue reply.OnceValue once_event once_meaning object) (returns value) replies.OnceValue replies.OnceValue (holds.value object) (holds.through.returned ℕ value)

  of_found : (rest : Part (Reply ℕ)) → Q (Reply ℕ) rest → (outcome : PoolOutcome) → Q (Reply ℕ) (found_or rest outcome)
  of_found rest later (Item item) = holds.through.returned _ (replies.Pool (pool_replies.Put item))
  of_found rest later Nothing = later
  of_found rest later Kept = holds.through.none _
  of_found rest later (Dropped item) = holds.through.none _
  of_found rest later Swept = holds.through.none _

  of_looks : (worker first : ℕ) (looks : List (PoolEvent ℕ)) → Q (Reply ℕ) (found_by worker first looks)
  of_looks worker first [] = holds.through.returned _ (replies.Pool pool_replies.New)
  of_looks worker first (look ∷ looks) = holds.through.behind _ _ _ _ (holds.pool (first + part_of worker look) (stage_of look)) (of_found (found_by worker first looks) (of_looks worker first looks))

  of_sweeps : (first : ℕ) (parts : List ℕ) → Q (Reply ℕ) (swept_by first parts)
  of_sweeps first [] = holds.through.returned _ (replies.Pool pool_replies.Done)
  of_sweeps first (part ∷ parts) = holds.through.behind _ _ _ _ (holds.pool (first + part) pool_stage.Sweep) (λ swept. of_sweeps first parts)

  of_pool_call : (workers worker first : ℕ) (call : PoolCall) → Q (Reply ℕ) (pool_call workers worker first call)
  of_pool_call workers worker first (pool_calls.Put item) = holds.through.read _ _ (λ put. replies.Pool pool_replies.Done) _ (holds.pool (first + worker) (pool_stage.Put item))
  of_pool_call workers worker first pool_calls.Get = of_looks worker first (looks_of workers worker)
  of_pool_call workers worker first pool_calls.Sweep = of_sweeps first (range_with_len 0 workers)

  -- where it holds of the call, if that is one on a map or on flights, and of the start of whom it starts
  module _ (plan : Plan) (worker before : ℕ) where
    abbrev OfMap : Operation → Type 0
    OfMap operation = (m : ℕ) (call : MapCall (List ℕ)) → operation ≡ operations.Map call → Q (Reply ℕ) (map_call (keys_in plan.scripts) m call)

    abbrev OfStart : Operation → Type 0
    OfStart operation = (object started : ℕ) → started_by operation ≡ Some started → Q StartsOutcome (starts_part object (starts_stage.Start started))

    abbrev FliesOn : ℕ → ObjectKind → Operation → Type 0
    FliesOn place kind operation = (atomic : ℕ) (amount : ℤ) (key : List ℕ) → kind ≡ kinds.Flight atomic amount → operation ≡ operations.Fly key
        → Q (Reply ℕ) (fly_call (object_number place) (atomic_number plan.objects atomic) amount (key_number (keys_in plan.scripts) key))

    abbrev OfFly : ℕ → Operation → Type 0
    OfFly place operation = (object : ObjectLine) (atomic : ℕ) (amount : ℤ) (key : List ℕ) → slice_get plan.objects place ≡ Some object → object.kind ≡ kinds.Flight atomic amount → operation ≡ operations.Fly key
        → Q (Reply ℕ) (fly_call (object_number place) (atomic_number plan.objects atomic) amount (key_number (keys_in plan.scripts) key))

    of_call_on : (place : ℕ) (kind : ObjectKind) (operation : Operation) → OfMap operation → OfStart operation → FliesOn place kind operation → Q (Reply ℕ) (call_on plan worker before place kind operation)
    of_call_on place kinds.Map (operations.Map call) on_map on_start on_fly = on_map _ call refl
    of_call_on place kinds.Map operations.Range on_map on_start on_fly = holds.range _ _ before
    of_call_on place (kinds.Atomic type) (operations.Atomic call) on_map on_start on_fly = holds.atomic _ call
    of_call_on place (kinds.Atomic type) (operations.Composed (IfEqual value passes)) on_map on_start on_fly = holds.through.read _ _ test.compared _ (of_test _ value)
    of_call_on place kinds.Mutex (operations.Mutex call) on_map on_start on_fly = holds.through.read _ _ replies.Lock _ (holds.mutex _ _)
    of_call_on place kinds.RwMutex (operations.RwMutex call) on_map on_start on_fly = holds.through.read _ _ replies.Lock _ (of_rw_part _ call)
    of_call_on place (kinds.Cond mutex) (operations.Cond call) on_map on_start on_fly = of_cond_call _ _ call
    of_call_on place (kinds.Cond mutex) (operations.Composed (WaitFor atomic value tries)) on_map on_start on_fly = holds.through.read _ _ test.compared _ (of_waits_for _ _ _ value tries)
    of_call_on place (kinds.WaitGroup start) (operations.WaitGroup call) on_map on_start on_fly = holds.through.read _ _ (λ done. replies.Returned) _ (holds.wait_group _ _)
    of_call_on place (kinds.WaitGroup start) (operations.Composed (Go started)) on_map on_start on_fly =
        holds.through.behind _ _ _ _ (holds.through.read _ _ (λ done. replies.Returned) _ (holds.wait_group _ _)) (λ added. holds.through.read _ _ (λ started. replies.Returned) _ (on_start _ started refl))
    of_call_on place (kinds.Once atomic delta) operations.Once on_map on_start on_fly = of_do _ _ delta
    of_call_on place (kinds.OnceFunc code) operations.OnceFunc on_map on_start on_fly = of_func _ code
    of_call_on place (kinds.OnceValue value) operations.OnceValue on_map on_start on_fly = of_value _ value
    of_call_on place kinds.Pool (operations.Pool call) on_map on_start on_fly = of_pool_call _ _ _ call
    of_call_on place (kinds.Sema size) (operations.Sema call) on_map on_start on_fly = holds.through.read _ _ replies.Lock _ (holds.sema _ _)
    of_call_on place (kinds.Flight atomic delta) (operations.Fly key) on_map on_start on_fly = on_fly atomic delta key refl refl
    of_call_on place kind operation on_map on_start on_fly = holds.through.none _

    of_call_at : (place : ℕ) (object : Option ObjectLine) (operation : Operation) → slice_get plan.objects place ≡ object → OfMap operation → OfStart operation → OfFly place operation
        → Q (Reply ℕ) (call_at plan worker before place object operation)
    of_call_at place None operation there on_map on_start on_fly = holds.through.none _
    of_call_at place (Some object) operation there on_map on_start on_fly = of_call_on place object.kind operation on_map on_start (λ atomic amount key is called. on_fly object atomic amount key there is called)

    pub holds_of_call : (call : Call) → OfMap call.operation → OfStart call.operation → OfFly call.object call.operation → Q (Reply ℕ) (SpellsCall plan worker before call)
    holds_of_call call on_map on_start on_fly = of_call_at call.object (slice_get plan.objects call.object) call.operation refl on_map on_start on_fly

-- and of what stands before a script, and behind it
module _ (Q : (O : Type 0) → Part O → Type 0) (through : GoesThrough Q) where
  of_chosen : (O : Type 0) (b : Bool) (first second : Part O) → Q O first → Q O second → Q O (cond b first second)
  of_chosen O true first second one other = one
  of_chosen O false first second one other = other

  pub of_opening : (plan : Plan) (worker : ℕ) → ((object : ℕ) → Q StartsOutcome (starts_part object starts_stage.WaitStart)) → Q Bool (opening plan worker)
  of_opening plan worker waits =
      of_chosen Bool (is_dormant plan worker) (wait_start_part (starts_number plan)) (returns true) (through.read _ _ was_started _ (waits (starts_number plan))) (through.returned Bool true)

  of_done : (group : Option ℕ) → ((object : ℕ) → Q (Unit {0}) (stages event.WaitGroup reply.WaitGroup group_event group_meaning object group_stage.Done)) → Q (Unit {0}) (done_under group)
  of_done None done = through.returned _ tt
  of_done (Some group) done = through.read _ _ (λ done. tt) _ (through.read _ _ (λ done. replies.Returned) _ (done (object_number group)))

  pub of_closing : (plan : Plan) (worker : ℕ) → ((object : ℕ) → Q (Unit {0}) (stages event.WaitGroup reply.WaitGroup group_event group_meaning object group_stage.Done))
      → ((object : ℕ) → Q StartsOutcome (starts_part object starts_stage.End)) → Q (Unit {0}) (closing plan worker)
  of_closing plan worker done ends =
      of_chosen (Unit {0}) (has_dormant plan) (and_then (done_part plan worker) (λ done. end_part (starts_number plan))) (returns tt)
      (through.behind _ _ (done_part plan worker) (λ done. end_part (starts_number plan))
      (of_chosen (Unit {0}) (is_dormant plan worker) (done_under (group_of worker plan.scripts)) (returns tt) (of_done (group_of worker plan.scripts) done) (through.returned _ tt))
      (λ done. through.read _ _ (λ ended. tt) _ (ends (starts_number plan))))
      (through.returned _ tt)
