-- The items of a turn are all its worker's.
use Rattle.std.proofs.Common.{◌≡◌, ◌≢◌, ℕ, ℤ, ◌*◌, Bool, true, false, cond, List, [], ◌∷◌, ◌++◌, filter, Option, Some, None, refl, sym, ap, ◌∙◌}
use Rattle.std.specs.Prelude.{◌==◌, slice_get, Result, Ok, Err}
use Rattle.std.specs.Option.{option_map_or}
use Rattle.std.proofs.lemmas.Bool.{eq-eqb, eqb-true}
use Rattle.sync_types.specs.SequentialAtomic.{atomic_after}
use Rattle.sync_types.specs.declared.atomic_object.AtomicCall.TheVariants.{Add}
use Rattle.sync_types.specs.declared.atomic_object.Number.{Number}
use Rattle.sync_types.specs.declared.atomic_object.Number.TheVariants.{Int64}
use Rattle.script_calls.specs.declared.call.Call.{Call}
use Rattle.script_calls.specs.declared.call.ComposedCall.TheVariants.{IfEqual}
use Rattle.script_calls.specs.declared.call.Operation.{Operation}
use Rattle.script_calls.specs.declared.call.Operation.TheVariants as operations
use Rattle.sync_types.specs.declared.pool_call.PoolCall.{PoolCall}
use Rattle.sync_types.specs.declared.pool_call.PoolCall.TheVariants as pool_calls
use Rattle.mutex_core.specs.MutexMachine as mutex
use Rattle.rw_core.specs.RwMachine as rw
use Rattle.wait_cores.specs.NotifyMachine as notify
use Rattle.wait_cores.specs.GroupMachine as group
use Rattle.wait_cores.specs.OnceMachine as once
use Rattle.wait_cores.specs.OnceStanding.{runs_at}
use Rattle.pool_core.specs.PoolMachine as pool
use Rattle.protocols.specs.CondStages.{cond_event}
use Rattle.protocols.specs.GroupStages.{group_event}
use Rattle.protocols.specs.MutexStages.{mutex_event}
use Rattle.protocols.specs.OnceStages.{once_event}
use Rattle.protocols.specs.RwMutexStages.{rw_event}
use Rattle.protocols.specs.declared.once.OnceOutcome.{OnceOutcome}
use Rattle.protocols.specs.declared.once.OnceOutcome.TheVariants.{Run, Already, Ended}
use Rattle.protocols.specs.declared.pool.PoolStage.{PoolStage}
use Rattle.run_record.specs.declared.entered.ObjectEvent.{ObjectEvent}
use Rattle.run_record.specs.declared.entered.ObjectEvent.TheVariants as events
use Rattle.run_record.specs.declared.entered.ObjectReply.{ObjectReply}
use Rattle.run_record.specs.declared.entered.ObjectReply.TheVariants as answered
use Rattle.workload.specs.Plan.{reference_of}
use Rattle.sema_core.specs.SemaMachine as sema
use Rattle.sema_core.specs.SemaStages.{sema_event}
use Rattle.flight_core.specs.FlightMachine as flight
use Rattle.flight_core.specs.FlightStages.{flight_event}
use Rattle.flight_core.specs.declared.calls.FlightOutcome.{FlightOutcome}
use Rattle.flight_core.specs.declared.calls.FlightOutcome.TheVariants.{Lead, Got, Landed}
use Rattle.workload.specs.Keys.{key_number}
use Rattle.step_runner.specs.declared.turns.answer.Answer.{Answer}
use Rattle.step_runner.specs.declared.turns.object_state.ObjectState.{ObjectState}
use Rattle.step_runner.specs.declared.turns.object_state.ObjectState.TheVariants as states
use Rattle.step_runner.specs.Due.{mutex_due, rw_due, group_due, cond_due, once_due, looks_of, sema_due, flight_due}
use Rattle.step_runner.specs.declared.turns.item.Item.{Item}
use Rattle.step_runner.specs.Items.{stage_items, unless_found, look_items, pool_items, items_on, add_items, sum_items, items_on_both, items_by, items_at, landed_items, fly_items}
use Rattle.step_runner.specs.Objects.{kind_of}
use Rattle.step_runner.specs.PoolTurn.{looked}
use Rattle.step_runner.specs.TurnAtObjects.{once_made, flight_made}

abbrev AllBy : ℕ → List Item → Type 0
AllBy worker [] = Unit {0}
AllBy worker (item ∷ made) = (item.caller ≡ worker) × AllBy worker made

both_by : (worker : ℕ) (one two : List Item) → AllBy worker one → AllBy worker two → AllBy worker (one ++ two)
both_by worker [] two first later = later
both_by worker (item ∷ one) two first later = (first.0, both_by worker one two first.1 later)

module _ {S E R G : Type 0} (event : E → ObjectEvent) (answer : R → ObjectReply) (next : S → ℕ → E → S × R) (event_of : G → ℕ → E) (worker moment object : ℕ) where
  stage_by : (due : Option G) (s : S) → AllBy worker (stage_items event answer next event_of worker moment object due s)
  stage_by None s = tt
  stage_by (Some stage) s = (refl, tt)

found_by : (worker moment object : ℕ) (step : pool.PoolState ℕ × Option ℕ) (rest : pool.PoolState ℕ → List Item) → ((q : pool.PoolState ℕ) → AllBy worker (rest q)) → AllBy worker (unless_found worker moment object step rest)
found_by worker moment object (q, Some item) rest later = tt
found_by worker moment object (q, None) rest later = later q

looks_by : (worker moment object : ℕ) (looks : List PoolStage) (p : pool.PoolState ℕ) → AllBy worker (look_items worker moment object looks p)
looks_by worker moment object [] p = tt
looks_by worker moment object (look ∷ looks) p = (refl, found_by worker moment object (looked worker moment look p) (look_items worker moment object looks) (looks_by worker moment object looks))

pool_by : (worker moment object : ℕ) (call : PoolCall) (p : pool.PoolState ℕ) → AllBy worker (pool_items worker moment object call p)
pool_by worker moment object (pool_calls.Put item) p = (refl, tt)
pool_by worker moment object pool_calls.Sweep p = (refl, tt)
pool_by worker moment object pool_calls.Get p = looks_by worker moment object (looks_of (pool.callers_of p) worker 0 (2 * pool.callers_of p)) p

on_by : (operation : Operation) (worker moment object : ℕ) (o : ObjectState) → AllBy worker (items_on operation worker moment object o)
on_by (operations.Map call) worker moment object (states.Map m) = (refl, tt)
on_by operations.Range worker moment object (states.Map m) = (refl, tt)
on_by (operations.Atomic call) worker moment object (states.Atomic number) = (refl, tt)
on_by (operations.Composed (IfEqual value passes)) worker moment object (states.Atomic number) = (refl, tt)
on_by (operations.Mutex call) worker moment object (states.Mutex m) = stage_by events.Mutex answered.Mutex mutex.next mutex_event worker moment object (mutex_due call (mutex.place_of m worker)) m
on_by (operations.RwMutex call) worker moment object (states.RwMutex m) = stage_by events.RwMutex answered.RwMutex rw.next rw_event worker moment object (rw_due call (rw.place_of m worker)) m
on_by (operations.WaitGroup call) worker moment object (states.WaitGroup g first) = stage_by events.WaitGroup answered.WaitGroup group.next group_event worker moment object (group_due call (group.place_of g worker)) g
on_by (operations.Sema call) worker moment object (states.Sema s size) = stage_by events.Sema answered.Sema sema.next sema_event worker moment object (sema_due call (sema.place_of s worker)) s
on_by operations.OnceFunc worker moment object (states.OnceFunc o code) = stage_by events.OnceFunc answered.OnceFunc once.next once_event worker moment object (once_due code (runs_at o worker) (once.place_of o worker)) o
on_by operations.OnceValue worker moment object (states.OnceValue o value) = stage_by events.OnceValue answered.OnceValue once.next once_event worker moment object (once_due value (runs_at o worker) (once.place_of o worker)) o
on_by (operations.Pool call) worker moment object (states.Pool p) = pool_by worker moment object call p
on_by (operations.Var call) worker moment object (states.Var held) = (refl, tt)
on_by operation worker moment object o = tt

add_by : (worker object : ℕ) (delta : ℤ) (number : Number) (made : Result (OnceOutcome ℤ) Answer) → AllBy worker (add_items worker object delta number made)
add_by worker object delta number (Ok Ended) = (refl, tt)
add_by worker object delta number (Ok Run) = tt
add_by worker object delta number (Ok (Already kept)) = tt
add_by worker object delta number (Err a) = tt

sum_by_worker : (worker moment object other : ℕ) (o : once.OnceState ℤ) (delta : ℤ) (number sum : Number) → AllBy worker (sum_items worker moment object other o delta number sum)
sum_by_worker worker moment object other o delta number (Int64 sum) =
    both_by worker (add_items worker other delta number (once_made worker moment sum o).1) _ (add_by worker other delta number (once_made worker moment sum o).1)
    (stage_by events.Once answered.Once once.next once_event worker moment object (once_due sum (runs_at o worker) (once.place_of o worker)) o)
sum_by_worker worker moment object other o delta number sum = tt

landed_by : (worker object : ℕ) (delta : ℤ) (number : Number) (made : Result FlightOutcome Answer) → AllBy worker (landed_items worker object delta number made)
landed_by worker object delta number (Ok (Landed shared)) = (refl, tt)
landed_by worker object delta number (Ok Lead) = tt
landed_by worker object delta number (Ok (Got value)) = tt
landed_by worker object delta number (Err a) = tt

fly_by_worker : (key worker moment object other : ℕ) (f : flight.FlightState) (delta : ℤ) (number sum : Number) → AllBy worker (fly_items key worker moment object other f delta number sum)
fly_by_worker key worker moment object other f delta number (Int64 sum) =
    both_by worker (landed_items worker other delta number (flight_made worker moment key sum f).1) _ (landed_by worker other delta number (flight_made worker moment key sum f).1)
    (stage_by events.Flight answered.Flight flight.next flight_event worker moment object (flight_due key sum (flight.place_of f worker)) f)
fly_by_worker key worker moment object other f delta number sum = tt

on_both_by : (operation : Operation) (worker moment object other : ℕ) (o target : ObjectState) → AllBy worker (items_on_both operation worker moment object other o target)
on_both_by (operations.Cond call) worker moment object other (states.Cond c place) (states.Mutex m) =
    let due = cond_due call (mutex.place_of m worker) (notify.place_of c worker) in
    both_by worker (stage_items events.Cond answered.Cond notify.next cond_event worker moment object due.0 c) (stage_items events.Mutex answered.Mutex mutex.next mutex_event worker moment other due.1 m)
    (stage_by events.Cond answered.Cond notify.next cond_event worker moment object due.0 c) (stage_by events.Mutex answered.Mutex mutex.next mutex_event worker moment other due.1 m)
on_both_by operations.Once worker moment object other (states.Once o place delta) (states.Atomic number) = sum_by_worker worker moment object other o delta number (atomic_after (Add (Int64 delta)) number)
on_both_by (operations.Fly key) worker moment object other (states.Flight f keys place delta) (states.Atomic number) = fly_by_worker (key_number keys key) worker moment object other f delta number (atomic_after (Add (Int64 delta)) number)
on_both_by operation worker moment object other o target = tt

target_by : (call : Call) (worker moment other : ℕ) (object : ObjectState) (o : Option ObjectState) → AllBy worker (option_map_or (λ target. items_on_both call.operation worker moment call.object other object target) o [])
target_by call worker moment other object None = tt
target_by call worker moment other object (Some target) = on_both_by call.operation worker moment call.object other object target

reference_by : (o : Option ℕ) (call : Call) (worker moment : ℕ) (objects : List ObjectState) (object : ObjectState) → AllBy worker (items_by o call worker moment objects object)
reference_by None call worker moment objects object = on_by call.operation worker moment call.object object
reference_by (Some other) call worker moment objects object = target_by call worker moment other object (slice_get objects other)

object_by : (call : Call) (worker moment : ℕ) (objects : List ObjectState) (o : Option ObjectState) → AllBy worker (option_map_or (λ object. items_by (reference_of (kind_of object)) call worker moment objects object) o [])
object_by call worker moment objects None = tt
object_by call worker moment objects (Some object) = reference_by (reference_of (kind_of object)) call worker moment objects object

own_items : (worker : ℕ) (made : List Item) → AllBy worker made → filter (λ item. item.caller == worker) made ≡ made
own_items worker [] all = refl
own_items worker (item ∷ made) all =
    ap (λ (b : Bool). cond b (item ∷ filter (λ item. item.caller == worker) made) (filter (λ item. item.caller == worker) made)) (eq-eqb item.caller worker all.0) ∙ ap (λ (l : List Item). item ∷ l) (own_items worker made all.1)

differs : (caller worker other : ℕ) → caller ≡ worker → worker ≢ other → (b : Bool) → (caller == other) ≡ b → b ≡ false
differs caller worker other is apart true same = absurd (apart (sym is ∙ eqb-true caller other same))
differs caller worker other is apart false same = refl

others_items : (worker other : ℕ) (made : List Item) → worker ≢ other → AllBy worker made → filter (λ item. item.caller == other) made ≡ []
others_items worker other [] apart all = refl
others_items worker other (item ∷ made) apart all =
    ap (λ (b : Bool). cond b (item ∷ filter (λ item. item.caller == other) made) (filter (λ item. item.caller == other) made)) (differs item.caller worker other all.0 apart (item.caller == other) refl) ∙ others_items worker other made apart all.1

pub by_itself : (call : Call) (worker moment : ℕ) (objects : List ObjectState) → filter (λ item. item.caller == worker) (items_at call worker moment objects) ≡ items_at call worker moment objects
by_itself call worker moment objects = own_items worker (items_at call worker moment objects) (object_by call worker moment objects (slice_get objects call.object))

pub by_no_other : (call : Call) (worker other moment : ℕ) (objects : List ObjectState) → worker ≢ other → filter (λ item. item.caller == other) (items_at call worker moment objects) ≡ []
by_no_other call worker other moment objects apart = others_items worker other (items_at call worker moment objects) apart (object_by call worker moment objects (slice_get objects call.object))
