-- Each call of a workload is spelt by items that are alike, and so is what stands before and behind a script.
use Rattle.std.proofs.Common.{ℕ, ℤ, pos, zero, suc, ◌+◌, Bool, true, false, cond, List, [], ◌∷◌, Option, Some, None, slice_get, sym, subst}
use Rattle.script_calls.specs.Starts.{group_of}
use Rattle.script_calls.specs.declared.call.Call.{Call}
use Rattle.script_calls.specs.declared.call.ComposedCall.TheVariants.{IfEqual, WaitFor, Go}
use Rattle.script_calls.specs.declared.call.Operation.{Operation}
use Rattle.script_calls.specs.declared.call.Operation.TheVariants as operations
use Rattle.script_calls.specs.declared.call.Reply.{Reply}
use Rattle.script_calls.specs.declared.call.Reply.TheVariants as replies
use Rattle.sync_model.specs.declared.journal.Deed.{Deed}
use Rattle.sync_types.specs.declared.atomic_object.AtomicCall.{AtomicCall}
use Rattle.sync_types.specs.declared.atomic_object.AtomicCall.TheVariants.{Load}
use Rattle.sync_types.specs.declared.atomic_object.Number.{Number}
use Rattle.sync_types.specs.declared.lock_call.RwMutexCall.{RwMutexCall}
use Rattle.sync_types.specs.declared.lock_call.RwMutexCall.TheVariants as rw_calls
use Rattle.sync_types.specs.declared.map_object.MapCall.{MapCall}
use Rattle.sync_types.specs.declared.once_call.DoReply.TheVariants as do_replies
use Rattle.sync_types.specs.declared.pool_call.PoolCall.{PoolCall}
use Rattle.sync_types.specs.declared.pool_call.PoolCall.TheVariants as pool_calls
use Rattle.sync_types.specs.declared.pool_call.PoolCallReply.TheVariants as pool_replies
use Rattle.sync_types.specs.declared.sema_call.SemaCall.{SemaCall}
use Rattle.sync_types.specs.declared.wait_call.CondCall.{CondCall}
use Rattle.sync_types.specs.declared.wait_call.CondCall.TheVariants as cond_calls
use Rattle.sync_types.specs.declared.wait_call.WaitGroupCall.{WaitGroupCall}
use Rattle.sync_types.specs.declared.wait_call.WaitGroupCall.TheVariants as group_calls
use Rattle.pool_core.specs.declared.pool_event.PoolEvent.{PoolEvent}
use Rattle.rw_core.specs.declared.event.RwEvent.{RwEvent}
use Rattle.rw_core.specs.declared.reply.RwReply.{RwReply}
use Rattle.flight_core.specs.FlightStages.{flight_event, flight_meaning}
use Rattle.flight_core.specs.declared.calls.FlightOutcome.{FlightOutcome}
use Rattle.flight_core.specs.declared.calls.FlightOutcome.TheVariants.{Lead, Got, Landed}
use Rattle.flight_core.specs.declared.calls.FlightStage.{FlightStage}
use Rattle.flight_core.specs.declared.calls.FlightStage.TheVariants as flight_stage
use Rattle.sema_core.specs.SemaStages.{sema_event, sema_meaning}
use Rattle.protocols.specs.declared.cond.CondStage.TheVariants as cond_stage
use Rattle.protocols.specs.declared.mutex.MutexStage.{MutexStage}
use Rattle.protocols.specs.declared.mutex.MutexStage.TheVariants as mutex_stage
use Rattle.protocols.specs.declared.once.OnceOutcome.{OnceOutcome}
use Rattle.protocols.specs.declared.once.OnceOutcome.TheVariants.{Run, Already, Ended}
use Rattle.protocols.specs.declared.once.OnceStage.{OnceStage}
use Rattle.protocols.specs.declared.once.OnceStage.TheVariants as once_stage
use Rattle.protocols.specs.declared.pool.PoolOutcome.{PoolOutcome}
use Rattle.protocols.specs.declared.pool.PoolOutcome.TheVariants.{Kept, Dropped, Item, Nothing, Swept}
use Rattle.protocols.specs.declared.pool.PoolStage.{PoolStage}
use Rattle.protocols.specs.declared.pool.PoolStage.TheVariants as pool_stage
use Rattle.protocols.specs.CondStages.{cond_event, cond_meaning}
use Rattle.protocols.specs.GroupStages.{group_event, group_meaning}
use Rattle.protocols.specs.MutexStages.{mutex_event, mutex_meaning}
use Rattle.protocols.specs.OnceStages.{once_event, once_meaning}
use Rattle.protocols.specs.PoolStages.{pool_event, pool_meaning}
use Rattle.protocols.specs.RwMutexStages.{rw_event, rw_meaning}
use Rattle.starts_core.specs.declared.protocol.StartsStage.{StartsStage}
use Rattle.starts_core.specs.declared.protocol.StartsStage.TheVariants as starts_stage
use Rattle.starts_core.specs.StartsStages.{starts_event, starts_meaning}
use Rattle.workload.specs.declared.object.ObjectKind.{ObjectKind}
use Rattle.workload.specs.declared.object.ObjectKind.TheVariants as kinds
use Rattle.workload.specs.declared.object.ObjectLine.{ObjectLine}
use Rattle.workload.specs.Keys.{keys_in, key_number}
use Rattle.workload.specs.Plan.{Plan, is_dormant, has_dormant}
use Rattle.run_record.specs.declared.entered.ObjectEvent.TheVariants as event
use Rattle.run_record.specs.declared.entered.ObjectReply.TheVariants as reply
use Rattle.run_record.specs.declared.made.Made.{Made}
use Rattle.run_record.specs.AtomicKind.{atomic_call, adds}
use Rattle.run_record.specs.Calls.{call_on, call_at, SpellsCall}
use Rattle.run_record.specs.CondKind.{wait_part, cond_call}
use Rattle.run_record.specs.FlightKind.{flight_part, fly_call, goes_on_flight}
use Rattle.run_record.specs.MapKind.{map_call, range_call}
use Rattle.run_record.specs.MutexKind.{mutex_part, mutex_call}
use Rattle.run_record.specs.MutexKind as mutexes
use Rattle.run_record.specs.Objects.{map_number, atomic_number, first_part, starts_number}
use Rattle.run_record.specs.OnceKind.{goes_on_once, once_part, failure}
use Rattle.run_record.specs.Parts.{Part, returns, and_then, stages}
use Rattle.run_record.specs.PoolKind.{pool_part, found_or, found_by, part_of, stage_of, looks_of, swept_by, pool_call}
use Rattle.run_record.specs.Record.{object_number}
use Rattle.run_record.specs.RwMutexKind.{rw_mutex_stage, WriteLocks, write_part, rw_part}
use Rattle.run_record.specs.SemaKind.{sema_call, sema_part, sema_stage}
use Rattle.run_record.specs.StartsKind.{starts_part, was_started, go_call, wait_start_part, end_part, opening, done_under, done_part, closing}
use Rattle.run_record.specs.Tests.{holds, tests, compared, unless_met, waits_for}
use Rattle.run_record.specs.WaitGroupKind.{wait_group_part, wait_group_call, wait_group_stage}
use Rattle.kept_record.specs.Alike.{AreAlike}
use Rattle.kept_record.proofs.AlikeParts.{IsBlind, returns_blind, never_blind, read_blind, then_blind, places_blind, entries_like, stages_blind}

-- ---- maps and atomics

map_blind : (keys : List (List ℕ)) (m : ℕ) (call : MapCall (List ℕ)) → IsBlind (map_call keys m call)
map_blind keys m call items others answer alike (given, places, is) = (given, places_blind _ items others alike places, is)

range_blind : (keys : List (List ℕ)) (m begin : ℕ) → IsBlind (range_call keys m begin)
range_blind keys m begin items others answer alike (shown, pairs, places, sorted, is) = (shown, pairs, places_blind _ items others alike places, sorted, is)

atomic_blind : (a : ℕ) (call : AtomicCall) → IsBlind (atomic_call a call)
atomic_blind a call items others answer alike (given, places, is) = (given, places_blind _ items others alike places, is)

adds_blind : (a : ℕ) (amount : ℤ) → IsBlind (adds a amount)
adds_blind a amount items others answer alike (sum, places, is) = (sum, places_blind _ items others alike places, is)

tests_blind : (a : ℕ) (value : Number) → IsBlind (tests a value)
tests_blind a value = read_blind (holds value) (atomic_call a Load) (atomic_blind a Load)

-- ---- locks and waits

mutex_blind : (object : ℕ) (from : MutexStage) → IsBlind (mutex_part object from)
mutex_blind object from = stages_blind event.Mutex reply.Mutex object mutex_event mutex_meaning from

write_blind : (object : ℕ) → IsBlind (write_part object)
write_blind object items others answer alike (entries, are, locks) =
    let like = entries_like event.RwMutex reply.RwMutex object entries others (subst (λ (l : List Made). AreAlike l others) are alike) in
    (like.0, like.1, subst (λ (deeds : List (Deed RwEvent RwReply)). WriteLocks deeds answer) (sym like.2) locks)

rw_blind : (object : ℕ) (call : RwMutexCall) → IsBlind (rw_part object call)
rw_blind object rw_calls.Lock = write_blind object
rw_blind object rw_calls.Unlock = stages_blind event.RwMutex reply.RwMutex object rw_event rw_meaning (rw_mutex_stage rw_calls.Unlock)
rw_blind object rw_calls.TryLock = stages_blind event.RwMutex reply.RwMutex object rw_event rw_meaning (rw_mutex_stage rw_calls.TryLock)
rw_blind object rw_calls.RLock = stages_blind event.RwMutex reply.RwMutex object rw_event rw_meaning (rw_mutex_stage rw_calls.RLock)
rw_blind object rw_calls.RUnlock = stages_blind event.RwMutex reply.RwMutex object rw_event rw_meaning (rw_mutex_stage rw_calls.RUnlock)
rw_blind object rw_calls.TryRLock = stages_blind event.RwMutex reply.RwMutex object rw_event rw_meaning (rw_mutex_stage rw_calls.TryRLock)

wait_blind : (object mutex : ℕ) → IsBlind (wait_part object mutex)
wait_blind object mutex =
    then_blind _ _ (stages_blind event.Cond reply.Cond object cond_event cond_meaning cond_stage.Ticket) (λ ticket.
    then_blind _ _ (mutex_blind mutex mutex_stage.Unlock) (λ unlocked.
    then_blind _ _ (stages_blind event.Cond reply.Cond object cond_event cond_meaning cond_stage.Leave) (λ left.
    read_blind _ _ (mutex_blind mutex mutex_stage.Lock))))

cond_blind : (object mutex : ℕ) (call : CondCall) → IsBlind (cond_call object mutex call)
cond_blind object mutex cond_calls.Wait = wait_blind object mutex
cond_blind object mutex cond_calls.Signal = read_blind _ _ (stages_blind event.Cond reply.Cond object cond_event cond_meaning cond_stage.Signal)
cond_blind object mutex cond_calls.Broadcast = read_blind _ _ (stages_blind event.Cond reply.Cond object cond_event cond_meaning cond_stage.Broadcast)

group_blind : (object : ℕ) (call : WaitGroupCall) → IsBlind (wait_group_call object call)
group_blind object call = read_blind _ (wait_group_part object (wait_group_stage call)) (stages_blind event.WaitGroup reply.WaitGroup object group_event group_meaning (wait_group_stage call))

sema_blind : (object : ℕ) (call : SemaCall) → IsBlind (sema_call object call)
sema_blind object call = read_blind _ (sema_part object (sema_stage call)) (stages_blind event.Sema reply.Sema object sema_event sema_meaning (sema_stage call))

unless_blind : (next : Part Bool) → IsBlind next → (met : Bool) → IsBlind (unless_met next met)
unless_blind next blind true = returns_blind true
unless_blind next blind false = blind

waits_blind : (object mutex a : ℕ) (value : Number) (tries : ℕ) → IsBlind (waits_for object mutex a value tries)
waits_blind object mutex a value zero = tests_blind a value
waits_blind object mutex a value (suc tries) = then_blind _ _ (tests_blind a value) (unless_blind _ (then_blind _ _ (wait_blind object mutex) (λ waited. waits_blind object mutex a value tries)))

-- ---- onces

module _ {T : Type 0} (part : OnceStage T → Part (OnceOutcome T)) (each : (stage : OnceStage T) → IsBlind (part stage)) (function : Part T) (runs : IsBlind function) (ran returned : T → Reply ℕ) where
  goes_on_blind : (outcome : OnceOutcome T) → IsBlind (goes_on_once part function ran returned outcome)
  goes_on_blind Run = then_blind _ _ runs (λ value. read_blind _ _ (each (once_stage.End value)))
  goes_on_blind (Already kept) = returns_blind (returned kept)
  goes_on_blind Ended = never_blind

  once_blind : IsBlind (once_part part function ran returned)
  once_blind = then_blind _ _ (each once_stage.Begin) goes_on_blind

-- ---- flights

flight_blind : (object : ℕ) (from : FlightStage) → IsBlind (flight_part object from)
flight_blind object from = stages_blind event.Flight reply.Flight object flight_event flight_meaning from

module _ (object a : ℕ) (amount : ℤ) where
  flies_on_blind : (outcome : FlightOutcome) → IsBlind (goes_on_flight (flight_part object) (adds a amount) outcome)
  flies_on_blind Lead = then_blind _ _ (adds_blind a amount) (λ value. read_blind _ _ (flight_blind object (flight_stage.Land value)))
  flies_on_blind (Got value) = returns_blind (replies.Flown value true)
  flies_on_blind (Landed shared) = never_blind

  fly_blind : (key : ℕ) → IsBlind (fly_call object a amount key)
  fly_blind key = then_blind _ _ (flight_blind object (flight_stage.Join key)) flies_on_blind

-- ---- pools

pool_blind : (object : ℕ) (from : PoolStage) → IsBlind (pool_part object from)
pool_blind object from = stages_blind event.Pool reply.Pool object pool_event pool_meaning from

found_or_blind : (rest : Part (Reply ℕ)) → IsBlind rest → (outcome : PoolOutcome) → IsBlind (found_or rest outcome)
found_or_blind rest blind (Item item) = returns_blind (replies.Pool (pool_replies.Put item))
found_or_blind rest blind Nothing = blind
found_or_blind rest blind Kept = never_blind
found_or_blind rest blind (Dropped item) = never_blind
found_or_blind rest blind Swept = never_blind

found_blind : (worker first : ℕ) (looks : List (PoolEvent ℕ)) → IsBlind (found_by worker first looks)
found_blind worker first [] = returns_blind (replies.Pool pool_replies.New)
found_blind worker first (look ∷ looks) = then_blind _ _ (pool_blind (first + part_of worker look) (stage_of look)) (found_or_blind (found_by worker first looks) (found_blind worker first looks))

swept_blind : (first : ℕ) (parts : List ℕ) → IsBlind (swept_by first parts)
swept_blind first [] = returns_blind (replies.Pool pool_replies.Done)
swept_blind first (part ∷ parts) = then_blind _ _ (pool_blind (first + part) pool_stage.Sweep) (λ swept. swept_blind first parts)

pool_call_blind : (workers worker first : ℕ) (call : PoolCall) → IsBlind (pool_call workers worker first call)
pool_call_blind workers worker first (pool_calls.Put item) = read_blind _ _ (pool_blind (first + worker) (pool_stage.Put item))
pool_call_blind workers worker first pool_calls.Get = found_blind worker first (looks_of workers worker)
pool_call_blind workers worker first pool_calls.Sweep = swept_blind first _

-- ---- Starts

starts_blind : (object : ℕ) (from : StartsStage) → IsBlind (starts_part object from)
starts_blind object from = stages_blind event.Starts reply.Starts object starts_event starts_meaning from

go_blind : (group starts worker : ℕ) → IsBlind (go_call group starts worker)
go_blind group starts worker = then_blind _ _ (group_blind group (group_calls.Add (pos 1))) (λ added. read_blind _ _ (starts_blind starts (starts_stage.Start worker)))

module _ (plan : Plan) (worker : ℕ) where
  pub opening_blind : IsBlind (opening plan worker)
  opening_blind = chosen (is_dormant plan worker) where
    chosen : (b : Bool) → IsBlind (cond b (wait_start_part (starts_number plan)) (returns true))
    chosen true = read_blind was_started _ (starts_blind (starts_number plan) starts_stage.WaitStart)
    chosen false = returns_blind true

  under_blind : (group : Option ℕ) → IsBlind (done_under group)
  under_blind None = returns_blind tt
  under_blind (Some group) = read_blind _ _ (group_blind (object_number group) group_calls.Done)

  done_blind : IsBlind (done_part plan worker)
  done_blind = chosen (is_dormant plan worker) where
    chosen : (b : Bool) → IsBlind (cond b (done_under (group_of worker plan.scripts)) (returns tt))
    chosen true = under_blind (group_of worker plan.scripts)
    chosen false = returns_blind tt

  pub closing_blind : IsBlind (closing plan worker)
  closing_blind = chosen (has_dormant plan) where
    chosen : (b : Bool) → IsBlind (cond b (and_then (done_part plan worker) (λ done. end_part (starts_number plan))) (returns tt))
    chosen true = then_blind _ _ done_blind (λ done. read_blind _ _ (starts_blind (starts_number plan) starts_stage.End))
    chosen false = returns_blind tt

  -- ---- calls

  module _ (before place : ℕ) where
    on_blind : (kind : ObjectKind) (operation : Operation) → IsBlind (call_on plan worker before place kind operation)
    on_blind kinds.Map (operations.Map call) = map_blind (keys_in plan.scripts) (map_number plan.objects place) call
    on_blind kinds.Map operations.Range = range_blind (keys_in plan.scripts) (map_number plan.objects place) before
    on_blind (kinds.Atomic type) (operations.Atomic call) = atomic_blind (atomic_number plan.objects place) call
    on_blind (kinds.Atomic type) (operations.Composed (IfEqual value passes)) = read_blind compared _ (tests_blind (atomic_number plan.objects place) value)
    on_blind kinds.Mutex (operations.Mutex call) = read_blind replies.Lock _ (mutex_blind (object_number place) (mutexes.mutex_stage call))
    on_blind kinds.RwMutex (operations.RwMutex call) = read_blind replies.Lock _ (rw_blind (object_number place) call)
    on_blind (kinds.Cond mutex) (operations.Cond call) = cond_blind (object_number place) (object_number mutex) call
    on_blind (kinds.Cond mutex) (operations.Composed (WaitFor atomic value tries)) = read_blind compared _ (waits_blind (object_number place) (object_number mutex) (atomic_number plan.objects atomic) value tries)
    on_blind (kinds.WaitGroup start) (operations.WaitGroup call) = group_blind (object_number place) call
    on_blind (kinds.WaitGroup start) (operations.Composed (Go started)) = go_blind (object_number place) (starts_number plan) started
    on_blind (kinds.Once atomic delta) operations.Once =
        once_blind (stages event.Once reply.Once once_event once_meaning (object_number place)) (λ stage. stages_blind event.Once reply.Once (object_number place) once_event once_meaning stage)
        (adds (atomic_number plan.objects atomic) delta) (adds_blind (atomic_number plan.objects atomic) delta) (λ sum. replies.Once (do_replies.Ran sum)) (λ kept. replies.Once do_replies.Done)
    on_blind (kinds.OnceFunc code) operations.OnceFunc =
        once_blind (stages event.OnceFunc reply.OnceFunc once_event once_meaning (object_number place)) (λ stage. stages_blind event.OnceFunc reply.OnceFunc (object_number place) once_event once_meaning stage)
        (returns code) (returns_blind code) (λ kept. replies.OnceFunc (failure kept)) (λ kept. replies.OnceFunc (failure kept))
    on_blind (kinds.OnceValue value) operations.OnceValue =
        once_blind (stages event.OnceValue reply.OnceValue once_event once_meaning (object_number place)) (λ stage. stages_blind event.OnceValue reply.OnceValue (object_number place) once_event once_meaning stage)
        (returns value) (returns_blind value) replies.OnceValue replies.OnceValue
    on_blind kinds.Pool (operations.Pool call) = pool_call_blind plan.workers worker (first_part plan place) call
    on_blind (kinds.Sema size) (operations.Sema call) = sema_blind (object_number place) call
    on_blind (kinds.Flight atomic delta) (operations.Fly key) = fly_blind (object_number place) (atomic_number plan.objects atomic) delta (key_number (keys_in plan.scripts) key)
    on_blind kind operation = λ items others answer alike spelt. absurd spelt

    at_blind : (object : Option ObjectLine) (operation : Operation) → IsBlind (call_at plan worker before place object operation)
    at_blind None operation = never_blind
    at_blind (Some object) operation = on_blind object.kind operation

  pub call_blind : (before : ℕ) (call : Call) → IsBlind (SpellsCall plan worker before call)
  call_blind before call = at_blind before call.object (slice_get plan.objects call.object) call.operation
