-- What a turn makes at the objects: its items, in order.
use Rattle.std.specs.Prelude.{ℕ, ℤ, ◌*◌, Bool, true, false, List, [], ◌∷◌, ◌++◌, slice_get, Option, Some, None, Result, Ok}
use Rattle.std.specs.FinMap.{entries}
use Rattle.std.specs.List.{list_any}
use Rattle.std.specs.Option.{option_map_or}
use Rattle.sync_types.specs.SequentialAtomic.{atomic_reply, atomic_after}
use Rattle.sync_types.specs.SequentialMap.{map_reply}
use Rattle.sync_types.specs.declared.atomic_object.AtomicCall.TheVariants.{Load, Add}
use Rattle.sync_types.specs.declared.atomic_object.AtomicReply.TheVariants.{Held}
use Rattle.sync_types.specs.declared.atomic_object.Number.{Number}
use Rattle.sync_types.specs.declared.atomic_object.Number.TheVariants.{Int64}
use Rattle.script_calls.specs.declared.call.Call.{Call}
use Rattle.script_calls.specs.declared.call.ComposedCall.TheVariants.{IfEqual}
use Rattle.script_calls.specs.declared.call.Operation.{Operation}
use Rattle.script_calls.specs.declared.call.Operation.TheVariants as operations
use Rattle.script_calls.specs.declared.call.Reply.{Reply}
use Rattle.script_calls.specs.declared.call.Reply.TheVariants as replies
use Rattle.sync_types.specs.declared.pool_call.PoolCall.{PoolCall}
use Rattle.sync_types.specs.declared.pool_call.PoolCall.TheVariants as pool_calls
use Rattle.mutex_core.specs.MutexMachine as mutex
use Rattle.mutex_core.specs.declared.event.MutexEvent.TheVariants as mutex_event
use Rattle.mutex_core.specs.declared.reply.MutexReply.TheVariants as mutex_reply
use Rattle.mutex_core.specs.declared.reply.Resumption.TheVariants as mutex_resumption
use Rattle.rw_core.specs.RwMachine as rw
use Rattle.rw_core.specs.declared.event.RwEvent.TheVariants as rw_event
use Rattle.rw_core.specs.declared.reply.RwReply.TheVariants as rw_reply
use Rattle.rw_core.specs.declared.reply.Resumption.TheVariants as rw_resumption
use Rattle.wait_cores.specs.NotifyMachine as notify
use Rattle.wait_cores.specs.GroupMachine as group
use Rattle.wait_cores.specs.OnceMachine as once
use Rattle.wait_cores.specs.OnceStanding.{runs_at}
use Rattle.wait_cores.specs.declared.once.OnceEvent.{OnceEvent}
use Rattle.wait_cores.specs.declared.once.OnceReply.{OnceReply}
use Rattle.pool_core.specs.PoolMachine as pool
use Rattle.sema_core.specs.SemaMachine as sema
use Rattle.sema_core.specs.SemaStages.{sema_event}
use Rattle.flight_core.specs.FlightMachine as flight
use Rattle.flight_core.specs.FlightStages.{flight_event}
use Rattle.flight_core.specs.declared.calls.FlightOutcome.{FlightOutcome}
use Rattle.flight_core.specs.declared.calls.FlightOutcome.TheVariants.{Landed}
use Rattle.protocols.specs.CondStages.{cond_event}
use Rattle.protocols.specs.GroupStages.{group_event}
use Rattle.protocols.specs.MutexStages as mutex_stages
use Rattle.protocols.specs.OnceStages.{once_event}
use Rattle.protocols.specs.PoolStages.{pool_event}
use Rattle.protocols.specs.RwMutexStages as rw_stages
use Rattle.protocols.specs.declared.once.OnceOutcome.{OnceOutcome}
use Rattle.protocols.specs.declared.once.OnceOutcome.TheVariants.{Ended}
use Rattle.protocols.specs.declared.pool.PoolStage.{PoolStage}
use Rattle.protocols.specs.declared.pool.PoolStage.TheVariants as pool_stage
use Rattle.run_record.specs.declared.entered.ObjectEvent.{ObjectEvent}
use Rattle.run_record.specs.declared.entered.ObjectEvent.TheVariants as events
use Rattle.run_record.specs.declared.entered.ObjectReply.{ObjectReply}
use Rattle.run_record.specs.declared.entered.ObjectReply.TheVariants as answered
use Rattle.workload.specs.Keys.{key_number}
use Rattle.workload.specs.Plan.{reference_of}
use Rattle.step_runner.specs.declared.turns.answer.Answer.{Answer}
use Rattle.step_runner.specs.declared.turns.item.Deed.{Deed}
use Rattle.step_runner.specs.declared.turns.item.Deed.TheVariants as deeds
use Rattle.step_runner.specs.declared.turns.item.Item.{Item}
use Rattle.step_runner.specs.declared.turns.object_state.ObjectState.{ObjectState}
use Rattle.step_runner.specs.declared.turns.object_state.ObjectState.TheVariants as states
use Rattle.step_runner.specs.Due.{mutex_due, rw_due, group_due, sema_due, cond_due, once_due, flight_due, looks_of}
use Rattle.step_runner.specs.Objects.{kind_of}
use Rattle.step_runner.specs.PoolTurn.{looked}
use Rattle.step_runner.specs.TurnAtObjects.{once_made, flight_made}
use Rattle.step_runner.specs.Variables.{var_reply}

-- ---- of one machine

module _ {S E R G : Type 0} (event : E → ObjectEvent) (answer : R → ObjectReply) (next : S → ℕ → E → S × R) (event_of : G → ℕ → E) (worker moment object : ℕ) where
  -- the event of a stage, and what the machine answers to it
  abbrev pub stage_item : G → S → Item
  stage_item stage s = record { object = object; caller = worker; deed = deeds.Entered (event (event_of stage moment)) (answer (next s worker (event_of stage moment)).1) }

  -- of the stage that is due, if one is
  abbrev pub stage_items : Option G → S → List Item
  stage_items None s = []
  stage_items (Some stage) s = stage_item stage s ∷ []

module _ {T : Type 0} (event : OnceEvent T → ObjectEvent) (answer : OnceReply T → ObjectReply) where
  abbrev pub once_items : ℕ → ℕ → ℕ → T → once.OnceState T → List Item
  once_items worker moment object value o = stage_items event answer once.next once_event worker moment object (once_due value (runs_at o worker) (once.place_of o worker)) o

module _ (worker moment object : ℕ) where
  abbrev pub pool_item : PoolStage → pool.PoolState ℕ → Item
  pool_item stage p = stage_item events.Pool answered.Pool pool.next pool_event worker moment object stage p

  -- nothing behind a look that took an item
  abbrev pub unless_found : pool.PoolState ℕ × Option ℕ → (pool.PoolState ℕ → List Item) → List Item
  unless_found (p, Some item) rest = []
  unless_found (p, None) rest = rest p

  -- looks up to the first that takes an item
  abbrev pub look_items : List PoolStage → pool.PoolState ℕ → List Item
  look_items [] p = []
  look_items (look ∷ looks) p = pool_item look p ∷ unless_found (looked worker moment look p) (look_items looks)

  abbrev pub pool_items : PoolCall → pool.PoolState ℕ → List Item
  pool_items (pool_calls.Put item) p = pool_item (pool_stage.Put item) p ∷ []
  pool_items pool_calls.Sweep p = pool_item pool_stage.Sweep p ∷ []
  pool_items pool_calls.Get p = look_items (looks_of (pool.callers_of p) worker 0 (2 * pool.callers_of p)) p

-- ---- of a turn

-- the call is placed on the map, atomic or plain variable at this place
abbrev pub placed_at : ℕ → ℕ → Operation → Reply (List ℕ) → List Item
placed_at worker object operation reply = record { object = object; caller = worker; deed = deeds.Placed operation reply } ∷ []

-- by the operation that is called and at the call's object, which stands at this place, where that refers to no other
abbrev pub items_on : Operation → ℕ → ℕ → ℕ → ObjectState → List Item
items_on (operations.Map call) worker moment object (states.Map m) = placed_at worker object (operations.Map call) (replies.Map (map_reply call m))
items_on operations.Range worker moment object (states.Map m) = placed_at worker object operations.Range (replies.Pairs (entries m))
items_on (operations.Atomic call) worker moment object (states.Atomic number) = placed_at worker object (operations.Atomic call) (replies.Atomic (atomic_reply call number))
items_on (operations.Composed (IfEqual value passes)) worker moment object (states.Atomic number) = placed_at worker object (operations.Atomic Load) (replies.Atomic (Held number))
items_on (operations.Mutex call) worker moment object (states.Mutex m) = stage_items events.Mutex answered.Mutex mutex.next mutex_stages.mutex_event worker moment object (mutex_due call (mutex.place_of m worker)) m
items_on (operations.RwMutex call) worker moment object (states.RwMutex m) = stage_items events.RwMutex answered.RwMutex rw.next rw_stages.rw_event worker moment object (rw_due call (rw.place_of m worker)) m
items_on (operations.WaitGroup call) worker moment object (states.WaitGroup g first) = stage_items events.WaitGroup answered.WaitGroup group.next group_event worker moment object (group_due call (group.place_of g worker)) g
items_on (operations.Sema call) worker moment object (states.Sema s size) = stage_items events.Sema answered.Sema sema.next sema_event worker moment object (sema_due call (sema.place_of s worker)) s
items_on operations.OnceFunc worker moment object (states.OnceFunc o code) = once_items events.OnceFunc answered.OnceFunc worker moment object code o
items_on operations.OnceValue worker moment object (states.OnceValue o value) = once_items events.OnceValue answered.OnceValue worker moment object value o
items_on (operations.Pool call) worker moment object (states.Pool p) = pool_items worker moment object call p
items_on (operations.Var call) worker moment object (states.Var held) = placed_at worker object (operations.Var call) (replies.Var (var_reply call held))
items_on operation worker moment object o = []

-- the `add` of a once's function to the number at this place, where this turn ends the function
abbrev pub add_items : ℕ → ℕ → ℤ → Number → Result (OnceOutcome ℤ) Answer → List Item
add_items worker object delta number (Ok Ended) = placed_at worker object (operations.Atomic (Add (Int64 delta))) (replies.Atomic (atomic_reply (Add (Int64 delta)) number))
add_items worker object delta number other = []

-- the `add` comes before the event that ends the function
abbrev pub sum_items : ℕ → ℕ → ℕ → ℕ → once.OnceState ℤ → ℤ → Number → Number → List Item
sum_items worker moment object other o delta number (Int64 sum) =
    add_items worker other delta number (once_made worker moment sum o).1 ++ once_items events.Once answered.Once worker moment object sum o
sum_items worker moment object other o delta number sum = []

abbrev pub flight_items : ℕ → ℕ → ℕ → ℕ → ℤ → flight.FlightState → List Item
flight_items worker moment object key value f = stage_items events.Flight answered.Flight flight.next flight_event worker moment object (flight_due key value (flight.place_of f worker)) f

-- the `add` of the function of a group of flights, where this turn lands
abbrev pub landed_items : ℕ → ℕ → ℤ → Number → Result FlightOutcome Answer → List Item
landed_items worker object delta number (Ok (Landed shared)) = placed_at worker object (operations.Atomic (Add (Int64 delta))) (replies.Atomic (atomic_reply (Add (Int64 delta)) number))
landed_items worker object delta number other = []

-- it comes before the landing
abbrev pub fly_items : ℕ → ℕ → ℕ → ℕ → ℕ → flight.FlightState → ℤ → Number → Number → List Item
fly_items key worker moment object other f delta number (Int64 sum) =
    landed_items worker other delta number (flight_made worker moment key sum f).1 ++ flight_items worker moment object key sum f
fly_items key worker moment object other f delta number sum = []

-- at an object that refers to another one, and at that one
abbrev pub items_on_both : Operation → ℕ → ℕ → ℕ → ℕ → ObjectState → ObjectState → List Item
items_on_both (operations.Cond call) worker moment object other (states.Cond c place) (states.Mutex m) =
    let due = cond_due call (mutex.place_of m worker) (notify.place_of c worker) in
    stage_items events.Cond answered.Cond notify.next cond_event worker moment object due.0 c
    ++ stage_items events.Mutex answered.Mutex mutex.next mutex_stages.mutex_event worker moment other due.1 m
items_on_both operations.Once worker moment object other (states.Once o place delta) (states.Atomic number) =
    sum_items worker moment object other o delta number (atomic_after (Add (Int64 delta)) number)
items_on_both (operations.Fly key) worker moment object other (states.Flight f keys place delta) (states.Atomic number) =
    fly_items (key_number keys key) worker moment object other f delta number (atomic_after (Add (Int64 delta)) number)
items_on_both operation worker moment object other o target = []

abbrev pub items_by : Option ℕ → Call → ℕ → ℕ → List ObjectState → ObjectState → List Item
items_by None call worker moment objects object = items_on call.operation worker moment call.object object
items_by (Some other) call worker moment objects object =
    option_map_or (λ target. items_on_both call.operation worker moment call.object other object target) (slice_get objects other) []

-- what a worker's turn makes that stands before this call
abbrev pub items_at : Call → ℕ → ℕ → List ObjectState → List Item
items_at call worker moment objects =
    option_map_or (λ object. items_by (reference_of (kind_of object)) call worker moment objects object) (slice_get objects call.object) []

-- ---- going back to the queue, and unlocking

-- a waiter that was told to go on lost against a newcomer
abbrev pub is_requeued : Deed → Bool
is_requeued (deeds.Entered event (answered.Mutex (mutex_reply.Resumed mutex_resumption.Requeued))) = true
is_requeued (deeds.Entered event (answered.RwMutex (rw_reply.Resumed rw_resumption.Requeued))) = true
is_requeued deed = false

-- whether the worker goes back to the queue
abbrev pub goes_back : List Item → Bool
goes_back made = list_any (λ item. is_requeued item.deed) made

-- of a mutex, or of a reader/writer mutex by its writer
abbrev pub is_unlock : Deed → Bool
is_unlock (deeds.Entered (events.Mutex mutex_event.Unlock) answer) = true
is_unlock (deeds.Entered (events.RwMutex rw_event.WriteUnlock) answer) = true
is_unlock deed = false

-- whether the worker unlocks
abbrev pub unlocks : List Item → Bool
unlocks made = list_any (λ item. is_unlock item.deed) made
