-- The keys of maps behind a turn, and the pairs that its reply shows.
use Rattle.std.proofs.Common.{◌≡◌, ℕ, ◌*◌, ◌≤◌, true, List, length, set, refl, arith, []}
use Rattle.std.specs.Prelude.{ℤ, Option, Some}
use Rattle.std.specs.Int.{w64, int_wrapping_add}
use Rattle.std.specs.FinMap.{entries, len-entries}
use Rattle.std.proofs.lemmas.Bool.{le-leb}
use Rattle.script_calls.specs.Outcome.{has_pairs_to}
use Rattle.sync_types.specs.declared.atomic_object.Number.{Number}
use Rattle.sync_types.specs.declared.atomic_object.Number.TheVariants.{Int64}
use Rattle.script_calls.specs.declared.call.Call.{Call}
use Rattle.script_calls.specs.declared.call.ComposedCall.TheVariants.{IfEqual}
use Rattle.script_calls.specs.declared.call.Operation.{Operation}
use Rattle.script_calls.specs.declared.call.Operation.TheVariants as operations
use Rattle.script_calls.specs.declared.call.Reply.{Reply}
use Rattle.script_calls.specs.declared.call.Reply.TheVariants as replies
use Rattle.sync_types.specs.declared.lock_call.LockReply.{LockReply}
use Rattle.sync_types.specs.declared.once_call.DoReply.TheVariants as do_replies
use Rattle.sync_types.specs.declared.pool_call.PoolCall.{PoolCall}
use Rattle.sync_types.specs.declared.pool_call.PoolCall.TheVariants as pool_calls
use Rattle.sync_types.specs.declared.wait_call.CondCall.TheVariants as cond_calls
use Rattle.mutex_core.specs.MutexMachine as mutex
use Rattle.rw_core.specs.RwMachine as rw
use Rattle.wait_cores.specs.NotifyMachine as notify
use Rattle.wait_cores.specs.GroupMachine as group
use Rattle.wait_cores.specs.OnceMachine as once
use Rattle.wait_cores.specs.OnceStanding.{runs_at}
use Rattle.pool_core.specs.PoolMachine as pool
use Rattle.protocols.specs.GroupStages.{group_event, group_meaning}
use Rattle.protocols.specs.MutexStages.{mutex_event, mutex_meaning}
use Rattle.protocols.specs.OnceStages.{once_event, once_meaning}
use Rattle.protocols.specs.RwMutexStages.{rw_event, rw_meaning}
use Rattle.protocols.specs.declared.mutex.MutexStage.{MutexStage}
use Rattle.protocols.specs.declared.mutex.MutexStage.TheVariants as mutex_stage
use Rattle.protocols.specs.declared.once.OnceOutcome.{OnceOutcome}
use Rattle.protocols.specs.declared.once.OnceOutcome.TheVariants.{Run, Already, Ended}
use Rattle.workload.specs.declared.object.ObjectKind.{ObjectKind}
use Rattle.workload.specs.declared.object.ObjectKind.TheVariants as kinds
use Rattle.workload.specs.Draft.{operation_keys, keys_of, distinct_count}
use Rattle.run_record.specs.OnceKind.{failure}
use Rattle.sema_core.specs.SemaMachine as sema
use Rattle.sema_core.specs.SemaStages.{sema_event, sema_meaning}
use Rattle.flight_core.specs.FlightMachine as flight
use Rattle.flight_core.specs.FlightStages.{flight_event, flight_meaning}
use Rattle.flight_core.specs.declared.calls.FlightOutcome.{FlightOutcome}
use Rattle.flight_core.specs.declared.calls.FlightOutcome.TheVariants.{Lead, Got, Landed}
use Rattle.workload.specs.Keys.{key_number, with_names}
use Rattle.step_runner.specs.declared.turns.answer.Answer.{Answer}
use Rattle.step_runner.specs.declared.turns.object_state.ObjectState.{ObjectState}
use Rattle.step_runner.specs.declared.turns.object_state.ObjectState.TheVariants as states
use Rattle.step_runner.specs.Due.{mutex_due, rw_due, locked, group_due, returned, cond_due, waited, once_due, ran_or, looks_of, sema_due, flight_due, flown}
use Rattle.step_runner.specs.MapKeys.{AreAmong, HasObjectKeysIn}
use Rattle.step_runner.specs.Objects.{new_object, EachAt}
use Rattle.step_runner.specs.Pairs.{ShowsTo}
use Rattle.step_runner.specs.PoolTurn.{pool_step}
use Rattle.step_runner.specs.Stages.{answer_by}
use Rattle.step_runner.specs.TurnAtObjects.{once_made, turn_on, turn_on_both, turn_at}
use Rattle.step_runner.proofs.AtObjects.{each_set, at_any}
use Rattle.step_runner.proofs.KeyLemmas.{empty_keys, call_keys, count_keys}
use Rattle.step_runner.proofs.Makes.{make_answer, found_answer}

-- ---- replies without pairs

waited_few : (most : ℕ) (stage : Option MutexStage) (outcome : LockReply) → ShowsTo most (waited stage outcome)
waited_few most (Some mutex_stage.Unlock) outcome = tt
waited_few most stage outcome = refl

ran_few : {T : Type 0} (most : ℕ) (ran : Reply (List ℕ)) (had : T → Reply (List ℕ)) → has_pairs_to most ran ≡ true → ((kept : T) → has_pairs_to most (had kept) ≡ true) → (outcome : OnceOutcome T) → ShowsTo most (ran_or ran had outcome)
ran_few most ran had few each Run = tt
ran_few most ran had few each (Already kept) = each kept
ran_few most ran had few each Ended = few

once_few : {T : Type 0} (most worker moment : ℕ) (value : T) (o : once.OnceState T) (ran : Reply (List ℕ)) (had : T → Reply (List ℕ)) → has_pairs_to most ran ≡ true → ((kept : T) → has_pairs_to most (had kept) ≡ true)
    → ShowsTo most (answer_by (ran_or ran had) (once_made worker moment value o).1)
once_few most worker moment value o ran had few each =
    make_answer (ShowsTo most) tt tt (λ misuse. tt) (ran_or ran had) (ran_few most ran had few each) once.next once_event once_meaning worker moment (once_due value (runs_at o worker) (once.place_of o worker)) o

flown_few : (most : ℕ) (value : ℤ) (o : FlightOutcome) → ShowsTo most (flown value o)
flown_few most value Lead = tt
flown_few most value (Got got) = refl
flown_few most value (Landed shared) = refl

pool_few : (most worker moment : ℕ) (call : PoolCall) (p : pool.PoolState ℕ) → ShowsTo most (pool_step worker moment call p).1
pool_few most worker moment (pool_calls.Put item) p = refl
pool_few most worker moment pool_calls.Sweep p = refl
pool_few most worker moment pool_calls.Get p = found_answer worker moment (ShowsTo most) (λ item. refl) refl (looks_of (pool.callers_of p) worker 0 (2 * pool.callers_of p)) p

-- ---- a turn at its object

abbrev Keeps : List (List ℕ) → ℕ → ObjectState × Answer → Type 0
Keeps names most step = HasObjectKeysIn names step.0 × ShowsTo most step.1

turn_on_keeps : (names : List (List ℕ)) (most : ℕ) (operation : Operation) (worker moment : ℕ) (o : ObjectState) → AreAmong names (operation_keys operation)
    → distinct_count names ≤ most → HasObjectKeysIn names o → Keeps names most (turn_on operation worker moment o)
turn_on_keeps names most (operations.Map call) worker moment (states.Map m) named room has = (call_keys names call m named has, refl)
turn_on_keeps names most operations.Range worker moment (states.Map m) named room has = (has, le-leb (length (entries m)) most (omega (arith, len-entries m, count_keys names m has, room)))
turn_on_keeps names most (operations.Atomic call) worker moment (states.Atomic number) named room has = (tt, refl)
turn_on_keeps names most (operations.Composed (IfEqual value passes)) worker moment (states.Atomic number) named room has = (tt, refl)
turn_on_keeps names most (operations.Mutex call) worker moment (states.Mutex m) named room has =
    (tt, make_answer (ShowsTo most) tt tt (λ misuse. tt) locked (λ outcome. refl) mutex.next mutex_event mutex_meaning worker moment (mutex_due call (mutex.place_of m worker)) m)
turn_on_keeps names most (operations.RwMutex call) worker moment (states.RwMutex m) named room has =
    (tt, make_answer (ShowsTo most) tt tt (λ misuse. tt) locked (λ outcome. refl) rw.next rw_event rw_meaning worker moment (rw_due call (rw.place_of m worker)) m)
turn_on_keeps names most (operations.WaitGroup call) worker moment (states.WaitGroup g first) named room has =
    (tt, make_answer (ShowsTo most) tt tt (λ misuse. tt) returned (λ outcome. refl) group.next group_event group_meaning worker moment (group_due call (group.place_of g worker)) g)
turn_on_keeps names most (operations.Sema call) worker moment (states.Sema s size) named room has =
    (tt, make_answer (ShowsTo most) tt tt (λ misuse. tt) locked (λ outcome. refl) sema.next sema_event sema_meaning worker moment (sema_due call (sema.place_of s worker)) s)
turn_on_keeps names most operations.OnceFunc worker moment (states.OnceFunc o code) named room has =
    (tt, once_few most worker moment code o (replies.OnceFunc (failure code)) (λ kept. replies.OnceFunc (failure kept)) refl (λ kept. refl))
turn_on_keeps names most operations.OnceValue worker moment (states.OnceValue o value) named room has = (tt, once_few most worker moment value o (replies.OnceValue value) replies.OnceValue refl (λ kept. refl))
turn_on_keeps names most (operations.Pool call) worker moment (states.Pool p) named room has = (tt, pool_few most worker moment call p)
turn_on_keeps names most (operations.Var call) worker moment (states.Var held) named room has = (tt, refl)
turn_on_keeps names most operation worker moment o named room has = (has, tt)

-- ---- at an object and the one to which it refers

abbrev KeepsBoth : List (List ℕ) → ℕ → (ObjectState × ObjectState) × Answer → Type 0
KeepsBoth names most step = (HasObjectKeysIn names step.0.0 × HasObjectKeysIn names step.0.1) × ShowsTo most step.1

sum_keeps : (names : List (List ℕ)) (most worker moment : ℕ) (o : once.OnceState ℤ) (place : ℕ) (delta : ℤ) (number : Number) → KeepsBoth names most (turn_on_both operations.Once worker moment (states.Once o place delta) (states.Atomic number))
sum_keeps names most worker moment o place delta (Int64 held) =
    let sum = int_wrapping_add w64 held delta in
    ((tt, tt), once_few most worker moment sum o (replies.Once (do_replies.Ran sum)) (λ kept. replies.Once do_replies.Done) refl (λ kept. refl))
sum_keeps names most worker moment o place delta number = ((tt, tt), tt)

-- a group keeps its numbers
fly_keeps : (names : List (List ℕ)) (most : ℕ) (key : List ℕ) (worker moment : ℕ) (f : flight.FlightState) (keys : List (List ℕ)) (place : ℕ) (delta : ℤ) (number : Number) → HasObjectKeysIn names (states.Flight f keys place delta)
    → KeepsBoth names most (turn_on_both (operations.Fly key) worker moment (states.Flight f keys place delta) (states.Atomic number))
fly_keeps names most key worker moment f keys place delta (Int64 held) has =
    let sum = int_wrapping_add w64 held delta in
    ((has, tt), make_answer (ShowsTo most) tt tt (λ misuse. tt) (flown sum) (flown_few most sum) flight.next flight_event flight_meaning worker moment (flight_due (key_number keys key) sum (flight.place_of f worker)) f)
fly_keeps names most key worker moment f keys place delta number has = ((has, tt), tt)

both_keep : (names : List (List ℕ)) (most : ℕ) (operation : Operation) (worker moment : ℕ) (o target : ObjectState) → HasObjectKeysIn names o → HasObjectKeysIn names target
    → KeepsBoth names most (turn_on_both operation worker moment o target)
both_keep names most (operations.Cond cond_calls.Wait) worker moment (states.Cond c place) (states.Mutex m) has there =
    let due = cond_due cond_calls.Wait (mutex.place_of m worker) (notify.place_of c worker) in
    ((tt, tt), make_answer (ShowsTo most) tt tt (λ misuse. tt) (waited due.1) (waited_few most due.1) mutex.next mutex_event mutex_meaning worker moment due.1 m)
both_keep names most (operations.Cond cond_calls.Signal) worker moment (states.Cond c place) (states.Mutex m) has there = ((tt, tt), refl)
both_keep names most (operations.Cond cond_calls.Broadcast) worker moment (states.Cond c place) (states.Mutex m) has there = ((tt, tt), refl)
both_keep names most operations.Once worker moment (states.Once o place delta) (states.Atomic number) has there = sum_keeps names most worker moment o place delta number
both_keep names most (operations.Fly key) worker moment (states.Flight f keys place delta) (states.Atomic number) has there = fly_keeps names most key worker moment f keys place delta number has
both_keep names most operation worker moment o target has there = ((has, there), tt)

-- ---- all objects

-- the objects behind a turn, and its answer
abbrev ObjectsKeep : List (List ℕ) → ℕ → List ObjectState × Answer → Type 0
ObjectsKeep names most x = EachAt (λ place. HasObjectKeysIn names) x.0 × ShowsTo most x.1

pub at_keys : (names : List (List ℕ)) (most : ℕ) (call : Call) (worker moment : ℕ) (objects : List ObjectState) → AreAmong names (keys_of call)
    → distinct_count names ≤ most → EachAt (λ place. HasObjectKeysIn names) objects → ObjectsKeep names most (turn_at call worker moment objects)
at_keys names most call worker moment objects named room all = at_any (ObjectsKeep names most) call worker moment objects (all, tt)
    (λ object at.
    let keeps = turn_on_keeps names most call.operation worker moment object named room (all call.object object at) in
    (each_set (λ place. HasObjectKeysIn names) objects call.object (turn_on call.operation worker moment object).0 all keeps.0, keeps.1))
    (λ object other target at there.
    let new = turn_on_both call.operation worker moment object target in
    let keep = both_keep names most call.operation worker moment object target (all call.object object at) (all other target there) in
    (each_set (λ place. HasObjectKeysIn names) (set objects call.object new.0.0) other new.0.1 (each_set (λ place. HasObjectKeysIn names) objects call.object new.0.0 all keep.0.0) keep.0.1, keep.1))

pub new_keys : (names : List (List ℕ)) (workers room : ℕ) (kind : ObjectKind) → HasObjectKeysIn names (new_object workers room (with_names [] names) kind)
new_keys names workers room kinds.Map = empty_keys names
new_keys names workers room (kinds.Flight place delta) = refl
new_keys names workers room kind = tt
