-- That the beginning of a list which spells a call is found in one way, kind by kind. A range's reply isn't determined by its items, where keys have one name, so it isn't among them.
use Rattle.std.proofs.Common.{ℕ, zero, suc, ◌+◌, ℤ, pos, Bool, true, false, List, [], ◌∷◌, sym, ap, ◌∙◌}
use Rattle.std.specs.Prelude.{Ok}
use Rattle.std.specs.List.{range_with_len}
use Rattle.flight_core.specs.declared.calls.FlightOutcome.{FlightOutcome}
use Rattle.flight_core.specs.declared.calls.FlightOutcome.TheVariants as flight_outcome
use Rattle.flight_core.specs.declared.calls.FlightStage.{FlightStage}
use Rattle.flight_core.specs.declared.calls.FlightStage.TheVariants as flight_stage
use Rattle.flight_core.specs.FlightStages.{flight_event, flight_meaning}
use Rattle.pool_core.specs.declared.pool_event.PoolEvent.{PoolEvent}
use Rattle.protocols.specs.CondStages.{cond_event, cond_meaning}
use Rattle.protocols.specs.GroupStages.{group_event, group_meaning}
use Rattle.protocols.specs.MutexStages.{mutex_event, mutex_meaning}
use Rattle.protocols.specs.OnceStages.{once_event, once_meaning}
use Rattle.protocols.specs.PoolStages as protocol
use Rattle.protocols.specs.RwMutexStages.{rw_event, rw_meaning}
use Rattle.protocols.specs.declared.cond.CondStage.{CondStage}
use Rattle.protocols.specs.declared.cond.CondStage.TheVariants as cond_stage
use Rattle.protocols.specs.declared.mutex.MutexStage.{MutexStage}
use Rattle.protocols.specs.declared.mutex.MutexStage.TheVariants as on_mutex
use Rattle.protocols.specs.declared.once.OnceOutcome.{OnceOutcome}
use Rattle.protocols.specs.declared.once.OnceOutcome.TheVariants as once_outcome
use Rattle.protocols.specs.declared.once.OnceStage.{OnceStage}
use Rattle.protocols.specs.declared.once.OnceStage.TheVariants as once_stage
use Rattle.protocols.specs.declared.pool.PoolOutcome.{PoolOutcome}
use Rattle.protocols.specs.declared.pool.PoolOutcome.TheVariants as pool_outcome
use Rattle.protocols.specs.declared.rw_mutex.RwMutexStage.TheVariants as on_rw
use Rattle.protocols.specs.declared.pool.PoolStage.{PoolStage}
use Rattle.protocols.specs.declared.pool.PoolStage.TheVariants as pool_stage
use Rattle.script_calls.specs.declared.call.Reply.{Reply}
use Rattle.script_calls.specs.declared.call.Reply.TheVariants as replies
use Rattle.sema_core.specs.SemaStages.{sema_event, sema_meaning}
use Rattle.starts_core.specs.declared.protocol.StartsStage.{StartsStage}
use Rattle.starts_core.specs.declared.protocol.StartsStage.TheVariants as starts_stage
use Rattle.starts_core.specs.StartsStages.{starts_event, starts_meaning}
use Rattle.sync_model.specs.declared.answer.Answer.TheVariants.{Done}
use Rattle.sync_model.specs.declared.item.SharedCall.TheVariants as shared
use Rattle.sync_model.specs.declared.item.SharedReply.{SharedReply}
use Rattle.sync_model.specs.declared.item.SharedReply.TheVariants as answers
use Rattle.sync_types.specs.declared.atomic_object.AtomicCall.{AtomicCall}
use Rattle.sync_types.specs.declared.atomic_object.AtomicCall.TheVariants.{Load, Add}
use Rattle.sync_types.specs.declared.atomic_object.AtomicReply.{AtomicReply}
use Rattle.sync_types.specs.declared.atomic_object.AtomicReply.TheVariants as atomic_replies
use Rattle.sync_types.specs.declared.atomic_object.Number.{Number}
use Rattle.sync_types.specs.declared.atomic_object.Number.TheVariants.{Int64}
use Rattle.sync_types.specs.declared.lock_call.MutexCall.{MutexCall}
use Rattle.sync_types.specs.declared.lock_call.RwMutexCall.{RwMutexCall}
use Rattle.sync_types.specs.declared.lock_call.RwMutexCall.TheVariants as rw_calls
use Rattle.sync_types.specs.declared.map_object.MapCall.{MapCall}
use Rattle.sync_types.specs.declared.map_object.MapReply.{MapReply}
use Rattle.sync_types.specs.declared.map_object.MapReply.TheVariants as map_replies
use Rattle.sync_types.specs.declared.once_call.DoReply.TheVariants as do_replies
use Rattle.sync_types.specs.declared.pool_call.PoolCall.{PoolCall}
use Rattle.sync_types.specs.declared.pool_call.PoolCall.TheVariants as pool_calls
use Rattle.sync_types.specs.declared.pool_call.PoolCallReply.TheVariants as pool_replies
use Rattle.sync_types.specs.declared.sema_call.SemaCall.{SemaCall}
use Rattle.sync_types.specs.declared.wait_call.CondCall.{CondCall}
use Rattle.sync_types.specs.declared.wait_call.CondCall.TheVariants as cond_calls
use Rattle.sync_types.specs.declared.wait_call.WaitGroupCall.{WaitGroupCall}
use Rattle.sync_types.specs.declared.wait_call.WaitGroupCall.TheVariants as group_calls
use Rattle.sync_types.specs.Renaming.{renamed_call}
use Rattle.workload.specs.Keys.{key_number}
use Rattle.run_record.specs.declared.entered.ObjectEvent.TheVariants as event
use Rattle.run_record.specs.declared.entered.ObjectReply.TheVariants as reply
use Rattle.run_record.specs.AtomicKind.{atomic_call, adds}
use Rattle.run_record.specs.CondKind.{cond_part, wait_part, cond_call}
use Rattle.run_record.specs.FlightKind.{flight_part, fly_call, goes_on_flight, was_shared}
use Rattle.run_record.specs.MapKind.{map_call}
use Rattle.run_record.specs.MutexKind.{mutex_part, mutex_stage, mutex_call}
use Rattle.run_record.specs.OnceKind.{goes_on_once, once_part, do_call, failure, func_call, value_call}
use Rattle.run_record.specs.Parts.{Part, and_then, read_as, returns, stages}
use Rattle.run_record.specs.PoolKind.{pool_part, stage_of, found_or, part_of, found_by, looks_of, swept_by, pool_call}
use Rattle.run_record.specs.RwMutexKind.{rw_part, rw_mutex_call}
use Rattle.run_record.specs.SemaKind.{sema_part, sema_stage, sema_call}
use Rattle.run_record.specs.StartsKind.{starts_part, go_call}
use Rattle.run_record.specs.Tests.{holds, tests, compared, if_equal_call, unless_met, waits_for, wait_for_call}
use Rattle.run_record.specs.WaitGroupKind.{wait_group_stage, wait_group_call}
use Rattle.run_laws.specs.OneSpelling.{IsCertain}
use Rattle.run_laws.proofs.Backs.{mutex_back, is_mutex_back, rw_mutex_back, is_rw_mutex_back, cond_back, is_cond_back, wait_group_back, is_wait_group_back, once_back, is_once_back, once_func_back, is_once_func_back, once_value_back, is_once_value_back, pool_back, is_pool_back, sema_back, is_sema_back, flight_back, is_flight_back, starts_back, is_starts_back}
use Rattle.run_laws.proofs.WritesOneWay.{LocksEnd, write_certain}
use Rattle.run_laws.proofs.OneWay.{returns_certain, never_certain, read_as_certain, and_then_certain, place_certain, stages_certain}

-- what a placed call answered
abbrev atomic_in : SharedReply → AtomicReply
atomic_in (answers.Atomic reply) = reply
atomic_in reply = atomic_replies.Done

abbrev map_in : SharedReply → MapReply
map_in (answers.Map reply) = reply
map_in reply = map_replies.Done

abbrev sum_in : SharedReply → ℤ
sum_in (answers.Atomic (atomic_replies.Held (Int64 sum))) = sum
sum_in reply = pos 0

pub atomic_certain : (a : ℕ) (call : AtomicCall) → IsCertain (atomic_call a call)
atomic_certain a call items other rest more answer given (r, placed, is) (s, also, are) same =
    let one = place_certain (shared.Atomic a call) (answers.Atomic r) (answers.Atomic s) items other rest more placed also same in
    (one.0, one.1, is ∙ (ap (λ (t : SharedReply). Done (Ok (replies.Atomic (atomic_in t)))) one.2 ∙ sym are))

tests_certain : (a : ℕ) (value : Number) → IsCertain (tests a value)
tests_certain a value = read_as_certain (holds value) (atomic_call a Load) (atomic_certain a Load)

pub if_equal_certain : (a : ℕ) (value : Number) → IsCertain (if_equal_call a value)
if_equal_certain a value = read_as_certain compared (tests a value) (tests_certain a value)

pub map_certain : (keys : List (List ℕ)) (m : ℕ) (call : MapCall (List ℕ)) → IsCertain (map_call keys m call)
map_certain keys m call items other rest more answer given (r, placed, is) (s, also, are) same =
    let one = place_certain (shared.Map m (renamed_call (key_number keys) call)) (answers.Map r) (answers.Map s) items other rest more placed also same in
    (one.0, one.1, is ∙ (ap (λ (t : SharedReply). Done (Ok (replies.Map (map_in t)))) one.2 ∙ sym are))

adds_certain : (a : ℕ) (amount : ℤ) → IsCertain (adds a amount)
adds_certain a amount items other rest more answer given (r, placed, is) (s, also, are) same =
    let one = place_certain (shared.Atomic a (Add (Int64 amount))) (answers.Atomic (atomic_replies.Held (Int64 r))) (answers.Atomic (atomic_replies.Held (Int64 s))) items other rest more placed also same in
    (one.0, one.1, is ∙ (ap (λ (t : SharedReply). Done (Ok (sum_in t))) one.2 ∙ sym are))

mutex_part_certain : (object : ℕ) (stage : MutexStage) → IsCertain (mutex_part object stage)
mutex_part_certain object stage = stages_certain event.Mutex reply.Mutex mutex_back is_mutex_back object mutex_event mutex_meaning stage

pub mutex_certain : (object : ℕ) (call : MutexCall) → IsCertain (mutex_call object call)
mutex_certain object call = read_as_certain replies.Lock (mutex_part object (mutex_stage call)) (mutex_part_certain object (mutex_stage call))

rw_part_certain : LocksEnd → (object : ℕ) (call : RwMutexCall) → IsCertain (rw_part object call)
rw_part_certain law object rw_calls.Lock = write_certain object law
rw_part_certain law object rw_calls.Unlock = stages_certain event.RwMutex reply.RwMutex rw_mutex_back is_rw_mutex_back object rw_event rw_meaning on_rw.Unlock
rw_part_certain law object rw_calls.TryLock = stages_certain event.RwMutex reply.RwMutex rw_mutex_back is_rw_mutex_back object rw_event rw_meaning on_rw.TryLock
rw_part_certain law object rw_calls.RLock = stages_certain event.RwMutex reply.RwMutex rw_mutex_back is_rw_mutex_back object rw_event rw_meaning on_rw.RLock
rw_part_certain law object rw_calls.RUnlock = stages_certain event.RwMutex reply.RwMutex rw_mutex_back is_rw_mutex_back object rw_event rw_meaning on_rw.RUnlock
rw_part_certain law object rw_calls.TryRLock = stages_certain event.RwMutex reply.RwMutex rw_mutex_back is_rw_mutex_back object rw_event rw_meaning on_rw.TryRLock

pub rw_mutex_certain : LocksEnd → (object : ℕ) (call : RwMutexCall) → IsCertain (rw_mutex_call object call)
rw_mutex_certain law object call = read_as_certain replies.Lock (rw_part object call) (rw_part_certain law object call)

pub wait_group_certain : (object : ℕ) (call : WaitGroupCall) → IsCertain (wait_group_call object call)
wait_group_certain object call =
    read_as_certain (λ done. replies.Returned) (stages event.WaitGroup reply.WaitGroup group_event group_meaning object (wait_group_stage call))
    (stages_certain event.WaitGroup reply.WaitGroup wait_group_back is_wait_group_back object group_event group_meaning (wait_group_stage call))

pub starts_part_certain : (object : ℕ) (stage : StartsStage) → IsCertain (starts_part object stage)
starts_part_certain object stage = stages_certain event.Starts reply.Starts starts_back is_starts_back object starts_event starts_meaning stage

pub go_certain : (group starts worker : ℕ) → IsCertain (go_call group starts worker)
go_certain group starts worker =
    and_then_certain (wait_group_call group (group_calls.Add (pos 1))) (λ added. read_as (λ started. replies.Returned) (starts_part starts (starts_stage.Start worker))) (wait_group_certain group (group_calls.Add (pos 1)))
    (λ added. read_as_certain (λ started. replies.Returned) (starts_part starts (starts_stage.Start worker)) (starts_part_certain starts (starts_stage.Start worker)))

cond_part_certain : (object : ℕ) (stage : CondStage) → IsCertain (cond_part object stage)
cond_part_certain object stage = stages_certain event.Cond reply.Cond cond_back is_cond_back object cond_event cond_meaning stage

-- the parts of a wait behind its ticket, behind its unlock, and behind its leaving
abbrev locks_again : ℕ → Part (Reply ℕ)
locks_again mutex = read_as (λ locked. replies.Returned) (mutex_part mutex on_mutex.Lock)

abbrev leaves_and_locks : ℕ → ℕ → Part (Reply ℕ)
leaves_and_locks object mutex = and_then (cond_part object cond_stage.Leave) (λ left. locks_again mutex)

abbrev unlocks_and_waits : ℕ → ℕ → Part (Reply ℕ)
unlocks_and_waits object mutex = and_then (mutex_part mutex on_mutex.Unlock) (λ unlocked. leaves_and_locks object mutex)

again_certain : (mutex : ℕ) → IsCertain {O = Reply ℕ} (locks_again mutex)
again_certain mutex = read_as_certain (λ locked. replies.Returned) (mutex_part mutex on_mutex.Lock) (mutex_part_certain mutex on_mutex.Lock)

leaves_certain : (object mutex : ℕ) → IsCertain {O = Reply ℕ} (leaves_and_locks object mutex)
leaves_certain object mutex = and_then_certain (cond_part object cond_stage.Leave) (λ left. locks_again mutex) (cond_part_certain object cond_stage.Leave) (λ left. again_certain mutex)

unlocks_certain : (object mutex : ℕ) → IsCertain {O = Reply ℕ} (unlocks_and_waits object mutex)
unlocks_certain object mutex = and_then_certain (mutex_part mutex on_mutex.Unlock) (λ unlocked. leaves_and_locks object mutex) (mutex_part_certain mutex on_mutex.Unlock) (λ unlocked. leaves_certain object mutex)

wait_certain : (object mutex : ℕ) → IsCertain {O = Reply ℕ} (wait_part object mutex)
wait_certain object mutex = and_then_certain (cond_part object cond_stage.Ticket) (λ ticket. unlocks_and_waits object mutex) (cond_part_certain object cond_stage.Ticket) (λ ticket. unlocks_certain object mutex)

pub cond_certain : (object mutex : ℕ) (call : CondCall) → IsCertain {O = Reply ℕ} (cond_call object mutex call)
cond_certain object mutex cond_calls.Wait = wait_certain object mutex
cond_certain object mutex cond_calls.Signal = read_as_certain (λ done. replies.Returned) (cond_part object cond_stage.Signal) (cond_part_certain object cond_stage.Signal)
cond_certain object mutex cond_calls.Broadcast = read_as_certain (λ done. replies.Returned) (cond_part object cond_stage.Broadcast) (cond_part_certain object cond_stage.Broadcast)

unless_met_certain : (next : Part Bool) → IsCertain next → (met : Bool) → IsCertain (unless_met next met)
unless_met_certain next certain true = returns_certain true
unless_met_certain next certain false = certain

module _ (cond mutex a : ℕ) (value : Number) where
  waits_certain : (tries : ℕ) → IsCertain (waits_for cond mutex a value tries)
  waits_certain zero = tests_certain a value
  waits_certain (suc tries) =
      let again : IsCertain (and_then (wait_part cond mutex) (λ waited. waits_for cond mutex a value tries)) =
      and_then_certain (wait_part cond mutex) (λ waited. waits_for cond mutex a value tries) (wait_certain cond mutex) (λ waited. waits_certain tries) in
      and_then_certain (tests a value) (unless_met (and_then (wait_part cond mutex) (λ waited. waits_for cond mutex a value tries))) (tests_certain a value)
      (unless_met_certain (and_then (wait_part cond mutex) (λ waited. waits_for cond mutex a value tries)) again)

  pub wait_for_certain : (tries : ℕ) → IsCertain (wait_for_call cond mutex a value tries)
  wait_for_certain tries = read_as_certain compared (waits_for cond mutex a value tries) (waits_certain tries)

module _ {T : Type 0} (part : OnceStage T → Part (OnceOutcome T)) (function : Part T) (ran returned : T → Reply ℕ) (parts : (stage : OnceStage T) → IsCertain (part stage)) (runs : IsCertain function) where
  goes_on_certain : (outcome : OnceOutcome T) → IsCertain (goes_on_once part function ran returned outcome)
  goes_on_certain once_outcome.Run =
      and_then_certain function (λ value. read_as (λ ended. ran value) (part (once_stage.End value))) runs (λ value. read_as_certain (λ ended. ran value) (part (once_stage.End value)) (parts (once_stage.End value)))
  goes_on_certain (once_outcome.Already kept) = returns_certain (returned kept)
  goes_on_certain once_outcome.Ended = never_certain

  once_part_certain : IsCertain (once_part part function ran returned)
  once_part_certain = and_then_certain (part once_stage.Begin) (goes_on_once part function ran returned) (parts once_stage.Begin) goes_on_certain

pub do_certain : (object a : ℕ) (amount : ℤ) → IsCertain (do_call object a amount)
do_certain object a amount =
    once_part_certain (stages event.Once reply.Once once_event once_meaning object) (adds a amount) (λ sum. replies.Once (do_replies.Ran sum)) (λ kept. replies.Once do_replies.Done)
    (stages_certain event.Once reply.Once once_back is_once_back object once_event once_meaning) (adds_certain a amount)

pub func_certain : (object code : ℕ) → IsCertain (func_call object code)
func_certain object code =
    once_part_certain (stages event.OnceFunc reply.OnceFunc once_event once_meaning object) (returns code) (λ kept. replies.OnceFunc (failure kept)) (λ kept. replies.OnceFunc (failure kept))
    (stages_certain event.OnceFunc reply.OnceFunc once_func_back is_once_func_back object once_event once_meaning) (returns_certain code)

pub value_certain : (object value : ℕ) → IsCertain (value_call object value)
value_certain object value =
    once_part_certain (stages event.OnceValue reply.OnceValue once_event once_meaning object) (returns value) replies.OnceValue replies.OnceValue
    (stages_certain event.OnceValue reply.OnceValue once_value_back is_once_value_back object once_event once_meaning) (returns_certain value)

pool_part_certain : (object : ℕ) (stage : PoolStage) → IsCertain (pool_part object stage)
pool_part_certain object stage = stages_certain event.Pool reply.Pool pool_back is_pool_back object protocol.pool_event protocol.pool_meaning stage

found_or_certain : (rest : Part (Reply ℕ)) → IsCertain rest → (outcome : PoolOutcome) → IsCertain (found_or rest outcome)
found_or_certain rest certain (pool_outcome.Item item) = returns_certain (replies.Pool (pool_replies.Put item))
found_or_certain rest certain pool_outcome.Nothing = certain
found_or_certain rest certain pool_outcome.Kept = never_certain
found_or_certain rest certain (pool_outcome.Dropped item) = never_certain
found_or_certain rest certain pool_outcome.Swept = never_certain

found_certain : (worker first : ℕ) (looks : List (PoolEvent ℕ)) → IsCertain (found_by worker first looks)
found_certain worker first [] = returns_certain (replies.Pool pool_replies.New)
found_certain worker first (look ∷ looks) =
    and_then_certain (pool_part (first + part_of worker look) (stage_of look)) (found_or (found_by worker first looks)) (pool_part_certain (first + part_of worker look) (stage_of look)) (found_or_certain (found_by worker first looks) (found_certain worker first looks))

swept_certain : (first : ℕ) (parts : List ℕ) → IsCertain (swept_by first parts)
swept_certain first [] = returns_certain (replies.Pool pool_replies.Done)
swept_certain first (part ∷ parts) = and_then_certain (pool_part (first + part) pool_stage.Sweep) (λ swept. swept_by first parts) (pool_part_certain (first + part) pool_stage.Sweep) (λ swept. swept_certain first parts)

pub pool_certain : (workers worker first : ℕ) (call : PoolCall) → IsCertain (pool_call workers worker first call)
pool_certain workers worker first (pool_calls.Put item) = read_as_certain (λ put. replies.Pool pool_replies.Done) (pool_part (first + worker) (pool_stage.Put item)) (pool_part_certain (first + worker) (pool_stage.Put item))
pool_certain workers worker first pool_calls.Get = found_certain worker first (looks_of workers worker)
pool_certain workers worker first pool_calls.Sweep = swept_certain first (range_with_len 0 workers)

pub sema_certain : (object : ℕ) (call : SemaCall) → IsCertain (sema_call object call)
sema_certain object call = read_as_certain replies.Lock (sema_part object (sema_stage call)) (stages_certain event.Sema reply.Sema sema_back is_sema_back object sema_event sema_meaning (sema_stage call))

flight_part_certain : (object : ℕ) (stage : FlightStage) → IsCertain (flight_part object stage)
flight_part_certain object stage = stages_certain event.Flight reply.Flight flight_back is_flight_back object flight_event flight_meaning stage

-- the parts of a call behind its coming
flies_certain : (object a : ℕ) (amount : ℤ) (outcome : FlightOutcome) → IsCertain (goes_on_flight (flight_part object) (adds a amount) outcome)
flies_certain object a amount flight_outcome.Lead =
    and_then_certain (adds a amount) (λ sum. read_as (λ outcome. replies.Flown sum (was_shared outcome)) (flight_part object (flight_stage.Land sum))) (adds_certain a amount)
    (λ sum. read_as_certain (λ outcome. replies.Flown sum (was_shared outcome)) (flight_part object (flight_stage.Land sum)) (flight_part_certain object (flight_stage.Land sum)))
flies_certain object a amount (flight_outcome.Got value) = returns_certain (replies.Flown value true)
flies_certain object a amount (flight_outcome.Landed shared) = never_certain

pub fly_certain : (object a : ℕ) (amount : ℤ) (key : ℕ) → IsCertain (fly_call object a amount key)
fly_certain object a amount key =
    and_then_certain (flight_part object (flight_stage.Join key)) (goes_on_flight (flight_part object) (adds a amount)) (flight_part_certain object (flight_stage.Join key)) (flies_certain object a amount)
