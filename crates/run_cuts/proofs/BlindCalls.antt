-- That each call, and what stands before and behind a script, is blind to what a spelling doesn't look at.
use Rattle.std.proofs.Common.{◌≡◌, ◌∙◌, ℕ, zero, suc, ◌+◌, Bool, true, false, cond, List, [], ◌∷◌, map, Option, Some, None, sym, ap, subst, slice_get}
use Rattle.std.specs.Prelude.{ℤ, pos}
use Rattle.std.specs.List.{range_with_len}
use Rattle.script_calls.specs.declared.call.Call.{Call}
use Rattle.script_calls.specs.declared.call.ComposedCall.TheVariants.{IfEqual, WaitFor, Go}
use Rattle.script_calls.specs.declared.call.Operation.{Operation}
use Rattle.script_calls.specs.declared.call.Operation.TheVariants as operations
use Rattle.script_calls.specs.declared.call.Reply.{Reply}
use Rattle.script_calls.specs.Starts.{group_of}
use Rattle.sync_types.specs.declared.atomic_object.AtomicCall.{AtomicCall}
use Rattle.sync_types.specs.declared.atomic_object.AtomicCall.TheVariants as atomic_calls
use Rattle.sync_types.specs.declared.atomic_object.Number.{Number}
use Rattle.sync_types.specs.declared.lock_call.RwMutexCall.{RwMutexCall}
use Rattle.sync_types.specs.declared.lock_call.RwMutexCall.TheVariants as rw_calls
use Rattle.sync_types.specs.declared.map_object.MapCall.{MapCall}
use Rattle.sync_types.specs.declared.pool_call.PoolCall.{PoolCall}
use Rattle.sync_types.specs.declared.pool_call.PoolCall.TheVariants as pool_calls
use Rattle.sync_types.specs.declared.sema_call.SemaCall.{SemaCall}
use Rattle.sync_types.specs.declared.wait_call.CondCall.{CondCall}
use Rattle.sync_types.specs.declared.wait_call.CondCall.TheVariants as cond_calls
use Rattle.sync_types.specs.declared.wait_call.WaitGroupCall.{WaitGroupCall}
use Rattle.sync_types.specs.declared.wait_call.WaitGroupCall.TheVariants as group_calls
use Rattle.sync_model.specs.declared.journal.Deed.{Deed}
use Rattle.sync_model.specs.declared.journal.Entry.{Entry}
use Rattle.pool_core.specs.declared.pool_event.PoolEvent.{PoolEvent}
use Rattle.flight_core.specs.declared.calls.FlightOutcome.{FlightOutcome}
use Rattle.flight_core.specs.declared.calls.FlightOutcome.TheVariants as flight_outcome
use Rattle.flight_core.specs.declared.calls.FlightStage.{FlightStage}
use Rattle.flight_core.specs.declared.calls.FlightStage.TheVariants as flight_stage
use Rattle.flight_core.specs.FlightStages.{flight_event, flight_meaning}
use Rattle.sema_core.specs.SemaStages.{sema_event, sema_meaning}
use Rattle.protocols.specs.declared.cond.CondStage.{CondStage}
use Rattle.protocols.specs.declared.cond.CondStage.TheVariants as cond_stage
use Rattle.protocols.specs.declared.mutex.MutexStage.{MutexStage}
use Rattle.protocols.specs.declared.mutex.MutexStage.TheVariants as mutex_stage
use Rattle.protocols.specs.declared.once.OnceOutcome.{OnceOutcome}
use Rattle.protocols.specs.declared.once.OnceOutcome.TheVariants as once_outcome
use Rattle.protocols.specs.declared.once.OnceStage.{OnceStage}
use Rattle.protocols.specs.declared.once.OnceStage.TheVariants as once_stage
use Rattle.protocols.specs.declared.pool.PoolOutcome.{PoolOutcome}
use Rattle.protocols.specs.declared.pool.PoolOutcome.TheVariants as pool_outcome
use Rattle.protocols.specs.declared.pool.PoolStage.{PoolStage}
use Rattle.protocols.specs.declared.pool.PoolStage.TheVariants as pool_stage
use Rattle.protocols.specs.declared.wait_group.GroupStage.{GroupStage}
use Rattle.protocols.specs.CondStages.{cond_event, cond_meaning}
use Rattle.protocols.specs.GroupStages.{group_event, group_meaning}
use Rattle.protocols.specs.MutexStages.{mutex_event, mutex_meaning}
use Rattle.protocols.specs.OnceStages.{once_event, once_meaning}
use Rattle.protocols.specs.PoolStages.{pool_event, pool_meaning}
use Rattle.protocols.specs.RwMutexStages.{rw_event, rw_meaning}
use Rattle.rw_core.specs.declared.event.RwEvent.{RwEvent}
use Rattle.rw_core.specs.declared.reply.RwReply.{RwReply}
use Rattle.starts_core.specs.declared.protocol.StartsStage.{StartsStage}
use Rattle.starts_core.specs.declared.protocol.StartsStage.TheVariants as starts_stage
use Rattle.starts_core.specs.StartsStages.{starts_event, starts_meaning}
use Rattle.workload.specs.declared.object.ObjectKind.{ObjectKind}
use Rattle.workload.specs.declared.object.ObjectKind.TheVariants as kinds
use Rattle.workload.specs.declared.object.ObjectLine.{ObjectLine}
use Rattle.workload.specs.Keys.{keys_in, key_number}
use Rattle.workload.specs.Plan.{Plan, has_dormant, is_dormant}
use Rattle.run_record.specs.declared.entered.ObjectEvent.TheVariants as event
use Rattle.run_record.specs.declared.entered.ObjectReply.TheVariants as reply
use Rattle.run_record.specs.AtomicKind.{adds, atomic_call}
use Rattle.run_record.specs.Calls.{SpellsCall, call_at, call_on}
use Rattle.run_record.specs.CondKind.{cond_call, cond_part, wait_part}
use Rattle.run_record.specs.FlightKind.{flight_part, fly_call, goes_on_flight}
use Rattle.run_record.specs.MapKind.{map_call, range_call}
use Rattle.run_record.specs.MutexKind.{mutex_part, mutex_stage as mutex_stage_of}
use Rattle.run_record.specs.Objects.{atomic_number, first_part, map_number, starts_number}
use Rattle.run_record.specs.OnceKind.{goes_on_once, once_part}
use Rattle.run_record.specs.Parts.{Part, and_then, returns}
use Rattle.run_record.specs.PoolKind.{found_by, found_or, looks_of, part_of, pool_call, pool_part, stage_of, swept_by}
use Rattle.run_record.specs.Record.{object_number}
use Rattle.run_record.specs.RwMutexKind.{WriteLocks, rw_mutex_stage, rw_part, write_part}
use Rattle.run_record.specs.SemaKind.{sema_call, sema_stage}
use Rattle.run_record.specs.StartsKind.{closing, done_part, done_under, end_part, go_call, opening, starts_part, wait_start_part}
use Rattle.run_record.specs.Tests.{tests, unless_met, waits_for}
use Rattle.run_record.specs.WaitGroupKind.{wait_group_call, wait_group_part, wait_group_stage}
use Rattle.run_cuts.specs.Blind.{Blind, bare}
use Rattle.run_cuts.proofs.BlindParts.{blind_never, blind_places, blind_read, blind_returns, blind_stages, blind_then, deeds, entries_like, of_entry}

atomic_blind : (a : ℕ) (call : AtomicCall) → Blind (atomic_call a call)
atomic_blind a call items others answer alike (given, places, is) = (given, blind_places _ items others alike places, is)

adds_blind : (a : ℕ) (amount : ℤ) → Blind (adds a amount)
adds_blind a amount items others answer alike (sum, places, is) = (sum, blind_places _ items others alike places, is)

map_blind : (keys : List (List ℕ)) (m : ℕ) (call : MapCall (List ℕ)) → Blind (map_call keys m call)
map_blind keys m call items others answer alike (given, places, is) = (given, blind_places _ items others alike places, is)

range_blind : (keys : List (List ℕ)) (m begin : ℕ) → Blind (range_call keys m begin)
range_blind keys m begin items others answer alike (shown, pairs, places, sorted, is) = (shown, pairs, blind_places _ items others alike places, sorted, is)

tests_blind : (a : ℕ) (value : Number) → Blind (tests a value)
tests_blind a value = blind_read _ (atomic_call a atomic_calls.Load) (atomic_blind a atomic_calls.Load)

mutex_blind : (object : ℕ) (from : MutexStage) → Blind (mutex_part object from)
mutex_blind object from = blind_stages event.Mutex reply.Mutex object mutex_event mutex_meaning from

cond_blind : (object : ℕ) (from : CondStage) → Blind (cond_part object from)
cond_blind object from = blind_stages event.Cond reply.Cond object cond_event cond_meaning from

group_blind : (object : ℕ) (from : GroupStage) → Blind (wait_group_part object from)
group_blind object from = blind_stages event.WaitGroup reply.WaitGroup object group_event group_meaning from

pool_blind : (object : ℕ) (from : PoolStage) → Blind (pool_part object from)
pool_blind object from = blind_stages event.Pool reply.Pool object pool_event pool_meaning from

starts_blind : (object : ℕ) (from : StartsStage) → Blind (starts_part object from)
starts_blind object from = blind_stages event.Starts reply.Starts object starts_event starts_meaning from

wait_blind : (object mutex : ℕ) → Blind (wait_part object mutex)
wait_blind object mutex =
    blind_then (cond_part object cond_stage.Ticket) _ (cond_blind object cond_stage.Ticket) (λ ticket.
    blind_then (mutex_part mutex mutex_stage.Unlock) _ (mutex_blind mutex mutex_stage.Unlock) (λ unlocked.
    blind_then (cond_part object cond_stage.Leave) _ (cond_blind object cond_stage.Leave) (λ left.
    blind_read _ (mutex_part mutex mutex_stage.Lock) (mutex_blind mutex mutex_stage.Lock))))

unless_blind : (next : Part Bool) → Blind next → (met : Bool) → Blind (unless_met next met)
unless_blind next blind true = blind_returns true
unless_blind next blind false = blind

waits_blind : (object mutex a : ℕ) (value : Number) (tries : ℕ) → Blind (waits_for object mutex a value tries)
waits_blind object mutex a value zero = tests_blind a value
waits_blind object mutex a value (suc tries) =
    blind_then (tests a value) _ (tests_blind a value) (unless_blind _ (blind_then (wait_part object mutex) _ (wait_blind object mutex) (λ waited. waits_blind object mutex a value tries)))

write_blind : (object : ℕ) → Blind (write_part object)
write_blind object items others answer alike (entries, is, locks) = by (entries_like event.RwMutex reply.RwMutex object entries others (sym (ap (map bare) is) ∙ alike)) where
  by : (new : List (Entry RwEvent RwReply)) × (others ≡ map (of_entry event.RwMutex reply.RwMutex object) new) × (deeds event.RwMutex reply.RwMutex object new ≡ deeds event.RwMutex reply.RwMutex object entries) → write_part object others answer
  by (new, are, same) = (new, are, subst (λ (ds : List (Deed RwEvent RwReply)). WriteLocks ds answer) (sym same) locks)

rw_blind : (object : ℕ) (call : RwMutexCall) → Blind (rw_part object call)
rw_blind object rw_calls.Lock = write_blind object
rw_blind object call = blind_stages event.RwMutex reply.RwMutex object rw_event rw_meaning (rw_mutex_stage call)

cond_call_blind : (object mutex : ℕ) (call : CondCall) → Blind (cond_call object mutex call)
cond_call_blind object mutex cond_calls.Wait = wait_blind object mutex
cond_call_blind object mutex cond_calls.Signal = blind_read _ (cond_part object cond_stage.Signal) (cond_blind object cond_stage.Signal)
cond_call_blind object mutex cond_calls.Broadcast = blind_read _ (cond_part object cond_stage.Broadcast) (cond_blind object cond_stage.Broadcast)

group_call_blind : (object : ℕ) (call : WaitGroupCall) → Blind (wait_group_call object call)
group_call_blind object call = blind_read _ (wait_group_part object (wait_group_stage call)) (group_blind object (wait_group_stage call))

go_blind : (object starts worker : ℕ) → Blind (go_call object starts worker)
go_blind object starts worker =
    blind_then (wait_group_call object (group_calls.Add (pos 1))) _ (group_call_blind object (group_calls.Add (pos 1)))
    (λ added. blind_read _ (starts_part starts (starts_stage.Start worker)) (starts_blind starts (starts_stage.Start worker)))

module _ {T : Type 0} (part : OnceStage T → Part (OnceOutcome T)) (function : Part T) (ran returned : T → Reply ℕ) (parts_blind : (stage : OnceStage T) → Blind (part stage)) (function_blind : Blind function) where
  once_goes_on : (outcome : OnceOutcome T) → Blind (goes_on_once part function ran returned outcome)
  once_goes_on once_outcome.Run = blind_then function _ function_blind (λ value. blind_read _ (part (once_stage.End value)) (parts_blind (once_stage.End value)))
  once_goes_on (once_outcome.Already kept) = blind_returns (returned kept)
  once_goes_on once_outcome.Ended = blind_never

  once_blind : Blind (once_part part function ran returned)
  once_blind = blind_then (part once_stage.Begin) _ (parts_blind once_stage.Begin) once_goes_on

sema_call_blind : (object : ℕ) (call : SemaCall) → Blind (sema_call object call)
sema_call_blind object call = blind_read _ _ (blind_stages event.Sema reply.Sema object sema_event sema_meaning (sema_stage call))

flight_blind : (object : ℕ) (from : FlightStage) → Blind (flight_part object from)
flight_blind object from = blind_stages event.Flight reply.Flight object flight_event flight_meaning from

module _ (object a : ℕ) (amount : ℤ) where
  flight_goes_on : (outcome : FlightOutcome) → Blind (goes_on_flight (flight_part object) (adds a amount) outcome)
  flight_goes_on flight_outcome.Lead = blind_then (adds a amount) _ (adds_blind a amount) (λ value. blind_read _ (flight_part object (flight_stage.Land value)) (flight_blind object (flight_stage.Land value)))
  flight_goes_on (flight_outcome.Got value) = blind_returns _
  flight_goes_on (flight_outcome.Landed shared) = blind_never

  fly_blind : (key : ℕ) → Blind (fly_call object a amount key)
  fly_blind key = blind_then (flight_part object (flight_stage.Join key)) _ (flight_blind object (flight_stage.Join key)) flight_goes_on

found_blind : (rest : Part (Reply ℕ)) → Blind rest → (outcome : PoolOutcome) → Blind (found_or rest outcome)
found_blind rest blind (pool_outcome.Item item) = blind_returns _
found_blind rest blind pool_outcome.Nothing = blind
found_blind rest blind pool_outcome.Kept = blind_never
found_blind rest blind (pool_outcome.Dropped item) = blind_never
found_blind rest blind pool_outcome.Swept = blind_never

looks_blind : (worker first : ℕ) (looks : List (PoolEvent ℕ)) → Blind (found_by worker first looks)
looks_blind worker first [] = blind_returns _
looks_blind worker first (look ∷ looks) =
    blind_then (pool_part (first + part_of worker look) (stage_of look)) _ (pool_blind (first + part_of worker look) (stage_of look)) (found_blind (found_by worker first looks) (looks_blind worker first looks))

sweeps_blind : (first : ℕ) (parts : List ℕ) → Blind (swept_by first parts)
sweeps_blind first [] = blind_returns _
sweeps_blind first (part ∷ parts) = blind_then (pool_part (first + part) pool_stage.Sweep) _ (pool_blind (first + part) pool_stage.Sweep) (λ swept. sweeps_blind first parts)

pool_call_blind : (workers worker first : ℕ) (call : PoolCall) → Blind (pool_call workers worker first call)
pool_call_blind workers worker first (pool_calls.Put item) = blind_read _ (pool_part (first + worker) (pool_stage.Put item)) (pool_blind (first + worker) (pool_stage.Put item))
pool_call_blind workers worker first pool_calls.Get = looks_blind worker first (looks_of workers worker)
pool_call_blind workers worker first pool_calls.Sweep = sweeps_blind first (range_with_len 0 workers)

module _ (plan : Plan) where
  on_blind : (worker before place : ℕ) (kind : ObjectKind) (operation : Operation) → Blind (call_on plan worker before place kind operation)
  on_blind worker before place kinds.Map (operations.Map call) = map_blind (keys_in plan.scripts) (map_number plan.objects place) call
  on_blind worker before place kinds.Map operations.Range = range_blind (keys_in plan.scripts) (map_number plan.objects place) before
  on_blind worker before place (kinds.Atomic type) (operations.Atomic call) = atomic_blind (atomic_number plan.objects place) call
  on_blind worker before place (kinds.Atomic type) (operations.Composed (IfEqual value passes)) = blind_read _ (tests (atomic_number plan.objects place) value) (tests_blind (atomic_number plan.objects place) value)
  on_blind worker before place kinds.Mutex (operations.Mutex call) = blind_read _ (mutex_part (object_number place) (mutex_stage_of call)) (mutex_blind (object_number place) (mutex_stage_of call))
  on_blind worker before place kinds.RwMutex (operations.RwMutex call) = blind_read _ (rw_part (object_number place) call) (rw_blind (object_number place) call)
  on_blind worker before place (kinds.Cond mutex) (operations.Cond call) = cond_call_blind (object_number place) (object_number mutex) call
  on_blind worker before place (kinds.Cond mutex) (operations.Composed (WaitFor atomic value tries)) =
      blind_read _ (waits_for (object_number place) (object_number mutex) (atomic_number plan.objects atomic) value tries) (waits_blind (object_number place) (object_number mutex) (atomic_number plan.objects atomic) value tries)
  on_blind worker before place (kinds.WaitGroup counter) (operations.WaitGroup call) = group_call_blind (object_number place) call
  on_blind worker before place (kinds.WaitGroup counter) (operations.Composed (Go started)) = go_blind (object_number place) (starts_number plan) started
  on_blind worker before place (kinds.Once atomic delta) operations.Once =
      once_blind _ (adds (atomic_number plan.objects atomic) delta) _ _ (λ stage. blind_stages event.Once reply.Once (object_number place) once_event once_meaning stage) (adds_blind (atomic_number plan.objects atomic) delta)
  on_blind worker before place (kinds.OnceFunc code) operations.OnceFunc =
      once_blind _ (returns code) _ _ (λ stage. blind_stages event.OnceFunc reply.OnceFunc (object_number place) once_event once_meaning stage) (blind_returns code)
  on_blind worker before place (kinds.OnceValue value) operations.OnceValue =
      once_blind _ (returns value) _ _ (λ stage. blind_stages event.OnceValue reply.OnceValue (object_number place) once_event once_meaning stage) (blind_returns value)
  on_blind worker before place kinds.Pool (operations.Pool call) = pool_call_blind plan.workers worker (first_part plan place) call
  on_blind worker before place (kinds.Sema size) (operations.Sema call) = sema_call_blind (object_number place) call
  on_blind worker before place (kinds.Flight atomic delta) (operations.Fly key) = fly_blind (object_number place) (atomic_number plan.objects atomic) delta (key_number (keys_in plan.scripts) key)
  on_blind worker before place kind operation = blind_never

  at_blind : (worker before place : ℕ) (object : Option ObjectLine) (operation : Operation) → Blind (call_at plan worker before place object operation)
  at_blind worker before place None operation = blind_never
  at_blind worker before place (Some object) operation = on_blind worker before place object.kind operation

  pub spells_blind : (worker before : ℕ) (call : Call) → Blind (SpellsCall plan worker before call)
  spells_blind worker before call = at_blind worker before call.object (slice_get plan.objects call.object) call.operation

  done_under_blind : (group : Option ℕ) → Blind (done_under group)
  done_under_blind None = blind_returns tt
  done_under_blind (Some group) = blind_read _ (wait_group_call (object_number group) group_calls.Done) (group_call_blind (object_number group) group_calls.Done)

  pub opening_blind : (worker : ℕ) → Blind (opening plan worker)
  opening_blind worker = by (is_dormant plan worker) where
    by : (b : Bool) → Blind (cond b (wait_start_part (starts_number plan)) (returns true))
    by true = blind_read _ (starts_part (starts_number plan) starts_stage.WaitStart) (starts_blind (starts_number plan) starts_stage.WaitStart)
    by false = blind_returns true

  pub closing_blind : (worker : ℕ) → Blind (closing plan worker)
  closing_blind worker = by (has_dormant plan) where
    done : (b : Bool) → Blind (cond b (done_under (group_of worker plan.scripts)) (returns tt))
    done true = done_under_blind (group_of worker plan.scripts)
    done false = blind_returns tt

    by : (b : Bool) → Blind (cond b (and_then (done_part plan worker) (λ done. end_part (starts_number plan))) (returns tt))
    by true = blind_then (done_part plan worker) _ (done (is_dormant plan worker)) (λ done. blind_read _ (starts_part (starts_number plan) starts_stage.End) (starts_blind (starts_number plan) starts_stage.End))
    by false = blind_returns tt
