-- Whatever is left of a call can be spelt.
use Rattle.std.proofs.Common.{◌≡◌, ℕ, ◌+◌, Bool, true, false, List, [], ◌∷◌, ◌++◌, map, Option, Some, None, refl, sym, subst, append-nil, arith}
use Rattle.std.specs.Prelude.{ℤ, pos, Ok}
use Rattle.std.specs.List.{range_with_len}
use Rattle.std.proofs.lemmas.List.Sorted.{IsPermutation-refl}
use Rattle.sync_types.specs.Renaming.{renamed_call}
use Rattle.sync_model.specs.declared.answer.Answer.TheVariants.{Done, Halted}
use Rattle.sync_types.specs.declared.atomic_object.AtomicCall.TheVariants.{Load, Add}
use Rattle.sync_types.specs.declared.atomic_object.AtomicReply.TheVariants as atomic_replies
use Rattle.sync_types.specs.declared.atomic_object.Number.TheVariants.{Int64}
use Rattle.script_calls.specs.declared.call.Call.{Call}
use Rattle.script_calls.specs.declared.call.ComposedCall.TheVariants.{IfEqual, WaitFor, Go}
use Rattle.script_calls.specs.declared.call.Operation.{Operation}
use Rattle.script_calls.specs.declared.call.Operation.TheVariants as operations
use Rattle.script_calls.specs.declared.call.Reply.{Reply}
use Rattle.script_calls.specs.declared.call.Reply.TheVariants as replies
use Rattle.sync_model.specs.declared.journal.Entry.{Entry}
use Rattle.sync_model.specs.declared.item.SharedCall.TheVariants as calls
use Rattle.sync_model.specs.declared.item.SharedReply.TheVariants as shared
use Rattle.sync_types.specs.declared.lock_call.MutexCall.{MutexCall}
use Rattle.sync_types.specs.declared.lock_call.RwMutexCall.{RwMutexCall}
use Rattle.sync_types.specs.declared.lock_call.RwMutexCall.TheVariants as rw_calls
use Rattle.sync_types.specs.declared.map_object.MapReply.TheVariants as map_replies
use Rattle.sync_types.specs.declared.misuse.Misuse.TheVariants.{UnlockOfUnlockedMutex}
use Rattle.sync_types.specs.declared.once_call.DoReply.TheVariants as do_replies
use Rattle.sync_types.specs.declared.pool_call.PoolCall.TheVariants as pool_calls
use Rattle.sync_types.specs.declared.wait_call.CondCall.{CondCall}
use Rattle.sync_types.specs.declared.wait_call.CondCall.TheVariants as cond_calls
use Rattle.sync_types.specs.declared.wait_call.WaitGroupCall.{WaitGroupCall}
use Rattle.sync_types.specs.declared.wait_call.WaitGroupCall.TheVariants as group_calls
use Rattle.mutex_core.specs.MutexMachine as mutex
use Rattle.rw_core.specs.RwMachine as rw
use Rattle.rw_core.specs.declared.event.RwEvent.{RwEvent}
use Rattle.rw_core.specs.declared.reply.RwReply.{RwReply}
use Rattle.wait_cores.specs.NotifyStanding.{has_ticket}
use Rattle.wait_cores.specs.OnceStanding as once_standing
use Rattle.wait_cores.specs.declared.once.OnceEvent.{OnceEvent}
use Rattle.wait_cores.specs.declared.once.OnceReply.{OnceReply}
use Rattle.pool_core.specs.declared.pool_event.PoolEvent.{PoolEvent}
use Rattle.sync_types.specs.declared.sema_call.SemaCall.{SemaCall}
use Rattle.sema_core.specs.SemaStages.{sema_event, sema_meaning}
use Rattle.sema_core.specs.declared.calls.SemaStage.{SemaStage}
use Rattle.flight_core.specs.FlightStages.{flight_event, flight_meaning}
use Rattle.flight_core.specs.FlightStanding as flight_standing
use Rattle.flight_core.specs.declared.calls.FlightStage.TheVariants as flight_stage
use Rattle.flight_core.specs.declared.calls.FlightStand.{FlightStand}
use Rattle.flight_core.specs.declared.calls.FlightStand.TheVariants.{Out, Leads, Waits}
use Rattle.protocols.specs.CondStages.{cond_event, cond_meaning}
use Rattle.protocols.specs.GroupStages as group_stages
use Rattle.protocols.specs.MutexStages.{mutex_event, mutex_meaning}
use Rattle.protocols.specs.OnceStages.{once_event, once_meaning}
use Rattle.protocols.specs.PoolStages.{pool_event, pool_meaning}
use Rattle.protocols.specs.RwMutexStages.{rw_event, rw_meaning}
use Rattle.protocols.specs.Spelling.{CallAnswer}
use Rattle.protocols.specs.declared.cond.CondStage.TheVariants as cond_stage
use Rattle.protocols.specs.declared.mutex.MutexStage.TheVariants as mutex_stage
use Rattle.protocols.specs.declared.once.OnceStage.TheVariants as once_stage
use Rattle.protocols.specs.declared.pool.PoolStage.TheVariants as pool_stage
use Rattle.protocols.specs.declared.rw_mutex.RwMutexStage.{RwMutexStage}
use Rattle.protocols.specs.declared.rw_mutex.RwMutexStage.TheVariants as rw_stage
use Rattle.protocols.specs.declared.step.Step.{Step}
use Rattle.protocols.specs.declared.wait_group.GroupStage.{GroupStage}
use Rattle.run_record.specs.AtomicKind.{adds}
use Rattle.run_record.specs.FlightKind.{flight_part, was_shared}
use Rattle.run_record.specs.MapKind.{cursor_showing}
use Rattle.run_record.specs.MutexKind.{mutex_stage as mutex_first}
use Rattle.run_record.specs.Objects.{map_number, atomic_number, first_part}
use Rattle.run_record.specs.OnceKind.{failure}
use Rattle.run_record.specs.Parts.{Part, and_then, read_as, returns, stages}
use Rattle.run_record.specs.PoolKind as record_pool
use Rattle.run_record.specs.Record.{object_number}
use Rattle.run_record.specs.RwMutexKind.{rw_part, write_part}
use Rattle.run_record.specs.SemaKind.{sema_part}
use Rattle.run_record.specs.StartsKind.{go_call}
use Rattle.run_record.specs.WaitGroupKind.{wait_group_part, wait_group_call}
use Rattle.run_record.specs.declared.entered.ObjectEvent.{ObjectEvent}
use Rattle.run_record.specs.declared.entered.ObjectEvent.TheVariants as events
use Rattle.run_record.specs.declared.entered.ObjectReply.{ObjectReply}
use Rattle.run_record.specs.declared.entered.ObjectReply.TheVariants as answered
use Rattle.run_record.specs.declared.made.Made.{Made}
use Rattle.workload.specs.Draft.{is_access_operation}
use Rattle.workload.specs.Keys.{keys_in, key_number}
use Rattle.workload.specs.Plan.{Plan, has_call, reference_of}
use Rattle.step_runner.specs.declared.turns.object_state.ObjectState.{ObjectState}
use Rattle.step_runner.specs.declared.turns.object_state.ObjectState.TheVariants as states
use Rattle.step_runner.specs.Due.{group_behind, group_from, sema_behind, sema_from}
use Rattle.step_runner.specs.Objects.{kind_of}
use Rattle.step_runner.specs.Ready.{IsReady}
use Rattle.step_runner.specs.Left.{mutex_waits, rw_waits, rw_later, mutex_left, rw_left, group_left, sema_left, cond_left, once_left, flight_left, left_on, left_on_both, left_at}
use Rattle.step_runner.proofs.SpeltAtObjects.{left_alone, left_referring}
use Rattle.step_runner.proofs.PlacedSpelled.{places}
use Rattle.step_runner.proofs.Spelled.{refused}
use Rattle.step_runner.proofs.TurnOwn.{Pair, only_pairs, cond_refers, once_refers, fly_refers, wait_for_alone, go_alone}
use Rattle.step_runner.proofs.Refuted.{no}

-- some items spell it
abbrev pub CanBe : {O : Type 0} → Part O → Type 0
CanBe part = (items : List Made) × (answer : CallAnswer _) × part items answer

-- and it may meet a halt
abbrev pub CanHalt : {O : Type 0} → Part O → Type 0
CanHalt part = (items : List Made) × part items (Halted UnlockOfUnlockedMutex)

halted : {O : Type 0} (part : Part O) → CanHalt part → CanBe part
halted part (items, spells) = (items, Halted UnlockOfUnlockedMutex, spells)

read_halts : {O P : Type 0} (f : O → P) (part : Part O) → CanHalt part → CanHalt (read_as f part)
read_halts f part (items, spells) = (items, (Halted UnlockOfUnlockedMutex, spells, refl))

pub then_halts : {O P : Type 0} (first : Part O) (next : O → Part P) → CanHalt first → CanHalt (and_then first next)
then_halts first next (items, spells) = (items, (items, [], Halted UnlockOfUnlockedMutex, sym (append-nil items), spells, (refl, refl)))

stage_halts : {G O E R : Type 0} (event : E → ObjectEvent) (answer : R → ObjectReply) (event_of : G → ℕ → E) (meaning : G → R → Step G O) (object : ℕ) (stage : G) → CanHalt (stages event answer event_of meaning object stage)
stage_halts event answer event_of meaning object stage = refused event answer event_of meaning object 0 stage

mutex_can : (object : ℕ) (call : MutexCall) (waits : Bool) → CanHalt (mutex_left object call waits)
mutex_can object call true = read_halts replies.Lock (stages events.Mutex answered.Mutex mutex_event mutex_meaning object mutex_stage.Resume) (stage_halts events.Mutex answered.Mutex mutex_event mutex_meaning object mutex_stage.Resume)
mutex_can object call false = read_halts replies.Lock (stages events.Mutex answered.Mutex mutex_event mutex_meaning object (mutex_first call)) (stage_halts events.Mutex answered.Mutex mutex_event mutex_meaning object (mutex_first call))

-- a writer's arrival may be refused
write_halts : (object : ℕ) → CanHalt (write_part object)
write_halts object =
    let one = stage_halts events.RwMutex answered.RwMutex rw_event rw_meaning object rw_stage.Lock in
    (one.0, (one.1.0, one.1.1, (map (λ (entry : Entry RwEvent RwReply). entry.deed) one.1.0, refl, one.1.2)))

rw_whole : (object : ℕ) (call : RwMutexCall) → CanHalt (rw_part object call)
rw_whole object rw_calls.Lock = write_halts object
rw_whole object rw_calls.Unlock = stage_halts events.RwMutex answered.RwMutex rw_event rw_meaning object rw_stage.Unlock
rw_whole object rw_calls.TryLock = stage_halts events.RwMutex answered.RwMutex rw_event rw_meaning object rw_stage.TryLock
rw_whole object rw_calls.RLock = stage_halts events.RwMutex answered.RwMutex rw_event rw_meaning object rw_stage.RLock
rw_whole object rw_calls.RUnlock = stage_halts events.RwMutex answered.RwMutex rw_event rw_meaning object rw_stage.RUnlock
rw_whole object rw_calls.TryRLock = stage_halts events.RwMutex answered.RwMutex rw_event rw_meaning object rw_stage.TryRLock

rw_can : (object : ℕ) (call : RwMutexCall) (waits : Option RwMutexStage) → CanHalt (rw_left object call waits)
rw_can object call (Some stage) = read_halts replies.Lock (stages events.RwMutex answered.RwMutex rw_event rw_meaning object (rw_later call stage)) (stage_halts events.RwMutex answered.RwMutex rw_event rw_meaning object (rw_later call stage))
rw_can object call None = read_halts replies.Lock (rw_part object call) (rw_whole object call)

group_can : (object : ℕ) (call : WaitGroupCall) (behind : Option GroupStage) → CanHalt (group_left object call behind)
group_can object call behind =
    read_halts (λ done. replies.Returned) (wait_group_part object (group_from call behind)) (stage_halts events.WaitGroup answered.WaitGroup group_stages.group_event group_stages.group_meaning object (group_from call behind))

sema_can : (object : ℕ) (call : SemaCall) (behind : Option SemaStage) → CanHalt (sema_left object call behind)
sema_can object call behind = read_halts replies.Lock (sema_part object (sema_from call behind)) (stage_halts events.Sema answered.Sema sema_event sema_meaning object (sema_from call behind))

-- a `go`, whose `add` is refused
pub go_can : (group starts worker : ℕ) → CanBe (go_call group starts worker)
go_can group starts worker = halted (go_call group starts worker) (then_halts (wait_group_call group (group_calls.Add (pos 1))) _ (group_can group (group_calls.Add (pos 1)) None))

pub cond_can : (object other : ℕ) (call : CondCall) (has waits : Bool) → CanHalt (cond_left object other call has waits)
cond_can object other cond_calls.Wait has true = read_halts (λ locked. replies.Returned) (stages events.Mutex answered.Mutex mutex_event mutex_meaning other mutex_stage.Resume) (stage_halts events.Mutex answered.Mutex mutex_event mutex_meaning other mutex_stage.Resume)
cond_can object other cond_calls.Wait true false = then_halts (stages events.Cond answered.Cond cond_event cond_meaning object cond_stage.Leave) _ (stage_halts events.Cond answered.Cond cond_event cond_meaning object cond_stage.Leave)
cond_can object other cond_calls.Wait false false = then_halts (stages events.Cond answered.Cond cond_event cond_meaning object cond_stage.Ticket) _ (stage_halts events.Cond answered.Cond cond_event cond_meaning object cond_stage.Ticket)
cond_can object other cond_calls.Signal has waits = read_halts (λ done. replies.Returned) (stages events.Cond answered.Cond cond_event cond_meaning object cond_stage.Signal) (stage_halts events.Cond answered.Cond cond_event cond_meaning object cond_stage.Signal)
cond_can object other cond_calls.Broadcast has waits = read_halts (λ done. replies.Returned) (stages events.Cond answered.Cond cond_event cond_meaning object cond_stage.Broadcast) (stage_halts events.Cond answered.Cond cond_event cond_meaning object cond_stage.Broadcast)

-- of a once whose function can be run
once_can : {T : Type 0} (event : OnceEvent T → ObjectEvent) (answer : OnceReply T → ObjectReply) (object : ℕ) (function : Part T) (ran returned : T → Reply ℕ) (value : T) (made : List Made) → function made (Done (Ok value))
    → (runs waits : Bool) → CanHalt (once_left (stages event answer once_event once_meaning object) function ran returned runs waits)
once_can event answer object function ran returned value made is runs true = then_halts (stages event answer once_event once_meaning object once_stage.Leave) _ (stage_halts event answer once_event once_meaning object once_stage.Leave)
once_can event answer object function ran returned value made is true false =
    let ends = read_halts (λ ended. ran value) (stages event answer once_event once_meaning object (once_stage.End value)) (stage_halts event answer once_event once_meaning object (once_stage.End value)) in
    (made ++ ends.0, (made, ends.0, Done (Ok value), refl, is, ends.1))
once_can event answer object function ran returned value made is false false = then_halts (stages event answer once_event once_meaning object once_stage.Begin) _ (stage_halts event answer once_event once_meaning object once_stage.Begin)

-- of flights whose function can be run
flight_can : (object : ℕ) (function : Part ℤ) (key : ℕ) (value : ℤ) (made : List Made) → function made (Done (Ok value)) → (at : FlightStand) → CanHalt (flight_left (flight_part object) function key at)
flight_can object function key value made is Out = then_halts (flight_part object (flight_stage.Join key)) _ (stage_halts events.Flight answered.Flight flight_event flight_meaning object (flight_stage.Join key))
flight_can object function key value made is Leads =
    let lands = read_halts (λ outcome. replies.Flown value (was_shared outcome)) (flight_part object (flight_stage.Land value)) (stage_halts events.Flight answered.Flight flight_event flight_meaning object (flight_stage.Land value)) in
    (made ++ lands.0, (made, lands.0, Done (Ok value), refl, is, lands.1))
flight_can object function key value made is Waits = then_halts (flight_part object flight_stage.Leave) _ (stage_halts events.Flight answered.Flight flight_event flight_meaning object flight_stage.Leave)

found_can : (worker first : ℕ) (looks : List (PoolEvent ℕ)) → CanBe (record_pool.found_by worker first looks)
found_can worker first [] = ([], _, (refl, refl))
found_can worker first (e ∷ looks) =
    let object = first + record_pool.part_of worker e in
    halted (record_pool.found_by worker first (e ∷ looks)) (then_halts (record_pool.pool_part object (record_pool.stage_of e)) _ (stage_halts events.Pool answered.Pool pool_event pool_meaning object (record_pool.stage_of e)))

swept_can : (first : ℕ) (parts : List ℕ) → CanBe (record_pool.swept_by first parts)
swept_can first [] = ([], _, (refl, refl))
swept_can first (part ∷ parts) =
    halted (record_pool.swept_by first (part ∷ parts)) (then_halts (record_pool.pool_part (first + part) pool_stage.Sweep) _ (stage_halts events.Pool answered.Pool pool_event pool_meaning (first + part) pool_stage.Sweep))

module _ (plan : Plan) (x before place : ℕ) where
  on_can : (operation : Operation) (o : ObjectState) → has_call (kind_of o) operation ≡ true → reference_of (kind_of o) ≡ None → is_access_operation operation ≡ false → CanBe (left_on plan x before place operation o)
  on_can (operations.Map call) (states.Map m) has alone plain =
      (_, _, (map_replies.Done, places plan ((calls.Map (map_number plan.objects place) (renamed_call (key_number (keys_in plan.scripts)) call), shared.Map map_replies.Done) ∷ []), refl))
  on_can operations.Range (states.Map m) has alone plain =
      (_, _, ([], [], places plan (cursor_showing (keys_in plan.scripts) (map_number plan.objects place) before []), (IsPermutation-refl [], λ k d low below. absurd (omega (arith, below))), refl))
  on_can (operations.Atomic call) (states.Atomic number) has alone plain = (_, _, (atomic_replies.Done, places plan ((calls.Atomic (atomic_number plan.objects place) call, shared.Atomic atomic_replies.Done) ∷ []), refl))
  on_can (operations.Composed (IfEqual value passes)) (states.Atomic number) has alone plain =
      (_, _, (_, (_, (atomic_replies.Done, places plan ((calls.Atomic (atomic_number plan.objects place) Load, shared.Atomic atomic_replies.Done) ∷ []), refl), refl), refl))
  on_can (operations.Mutex call) (states.Mutex m) has alone plain = halted (mutex_left (object_number place) call (mutex_waits (mutex.place_of m x))) (mutex_can (object_number place) call (mutex_waits (mutex.place_of m x)))
  on_can (operations.RwMutex call) (states.RwMutex m) has alone plain = halted (rw_left (object_number place) call (rw_waits (rw.place_of m x))) (rw_can (object_number place) call (rw_waits (rw.place_of m x)))
  on_can (operations.WaitGroup call) (states.WaitGroup g first) has alone plain = halted (group_left (object_number place) call (group_behind g x)) (group_can (object_number place) call (group_behind g x))
  on_can (operations.Sema call) (states.Sema s size) has alone plain = halted (sema_left (object_number place) call (sema_behind s x)) (sema_can (object_number place) call (sema_behind s x))
  on_can operations.OnceFunc (states.OnceFunc o code) has alone plain =
      halted (left_on plan x before place operations.OnceFunc (states.OnceFunc o code))
      (once_can events.OnceFunc answered.OnceFunc (object_number place) (returns code) (λ kept. replies.OnceFunc (failure kept)) (λ kept. replies.OnceFunc (failure kept)) code [] (refl, refl) (once_standing.runs_at o x) (once_standing.waits_at o x))
  on_can operations.OnceValue (states.OnceValue o value) has alone plain =
      halted (left_on plan x before place operations.OnceValue (states.OnceValue o value))
      (once_can events.OnceValue answered.OnceValue (object_number place) (returns value) replies.OnceValue replies.OnceValue value [] (refl, refl) (once_standing.runs_at o x) (once_standing.waits_at o x))
  on_can (operations.Pool (pool_calls.Put item)) (states.Pool p) has alone plain =
      halted (left_on plan x before place (operations.Pool (pool_calls.Put item)) (states.Pool p))
      (read_halts _ (record_pool.pool_part (first_part plan place + x) (pool_stage.Put item)) (stage_halts events.Pool answered.Pool pool_event pool_meaning (first_part plan place + x) (pool_stage.Put item)))
  on_can (operations.Pool pool_calls.Sweep) (states.Pool p) has alone plain = swept_can (first_part plan place) (range_with_len 0 plan.workers)
  on_can (operations.Pool pool_calls.Get) (states.Pool p) has alone plain = found_can x (first_part plan place) (record_pool.looks_of plan.workers x)
  on_can (operations.Cond call) o has alone plain = absurd (cond_refers o call has alone)
  on_can operations.Once o has alone plain = absurd (once_refers o has alone)
  on_can (operations.Fly key) o has alone plain = absurd (fly_refers o key has alone)
  on_can (operations.Composed (WaitFor atomic value tries)) o has alone plain = absurd (wait_for_alone o atomic tries value has)
  on_can (operations.Composed (Go started)) o has alone plain = absurd (go_alone o started has)
  on_can (operations.Var call) o has alone plain = no (sym plain)
  on_can operation o has alone plain = no has

  both_can : (other : ℕ) (operation : Operation) (o target : ObjectState) → Pair operation o target → CanBe (left_on_both plan x before place other operation o target)
  both_can other (operations.Cond call) (states.Cond c at) (states.Mutex m) pair =
      halted (cond_left (object_number place) (object_number other) call (has_ticket c x) (mutex_waits (mutex.place_of m x))) (cond_can (object_number place) (object_number other) call (has_ticket c x) (mutex_waits (mutex.place_of m x)))
  both_can other operations.Once (states.Once o at delta) (states.Atomic (Int64 held)) pair =
      halted (left_on_both plan x before place other operations.Once (states.Once o at delta) (states.Atomic (Int64 held)))
      (once_can events.Once answered.Once (object_number place) (adds (atomic_number plan.objects other) delta) (λ sum. replies.Once (do_replies.Ran sum)) (λ kept. replies.Once do_replies.Done) held _
      (held, places plan ((calls.Atomic (atomic_number plan.objects other) (Add (Int64 delta)), shared.Atomic (atomic_replies.Held (Int64 held))) ∷ []), refl) (once_standing.runs_at o x) (once_standing.waits_at o x))
  both_can other (operations.Fly key) (states.Flight f keys at delta) (states.Atomic (Int64 held)) pair =
      halted (left_on_both plan x before place other (operations.Fly key) (states.Flight f keys at delta) (states.Atomic (Int64 held)))
      (flight_can (object_number place) (adds (atomic_number plan.objects other) delta) (key_number (keys_in plan.scripts) key) held _
      (held, places plan ((calls.Atomic (atomic_number plan.objects other) (Add (Int64 delta)), shared.Atomic (atomic_replies.Held (Int64 held))) ∷ []), refl) (flight_standing.stands_at f x))
  both_can other operation o target pair = absurd pair

pub left_can : (plan : Plan) (x before : ℕ) (call : Call) (objects : List ObjectState) → IsReady plan.workers x call objects → is_access_operation call.operation ≡ false → CanBe (left_at plan x before call objects)
left_can plan x before call objects r plain = by_reference (reference_of (kind_of r.object)) refl
  where
    by_reference : (o : Option ℕ) → reference_of (kind_of r.object) ≡ o → CanBe (left_at plan x before call objects)
    by_reference None none =
        let can = on_can plan x before call.object call.operation r.object r.has none plain in
        (can.0, can.1, subst (λ (P : Part (Reply ℕ)). P can.0 can.1) (sym (left_alone call objects r.object r.there plan x before none)) can.2)
    by_reference (Some other) some =
        let t = r.refers other some in
        let can = both_can plan x before call.object other call.operation r.object t.target (only_pairs r.object call.operation t.target r.has t.is) in
        (can.0, can.1, subst (λ (P : Part (Reply ℕ)). P can.0 can.1) (sym (left_referring call objects r.object r.there plan x before other t.target some t.there)) can.2)
