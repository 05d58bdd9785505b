-- The turn of a worker that stands before a call, at the objects of a run.
use Rattle.std.specs.Prelude.{ℕ, ℤ, List, set, slice_get, Option, Some, None, Result, Ok}
use Rattle.std.specs.FinMap.{entries}
use Rattle.std.specs.Option.{option_map_or}
use Rattle.sync_types.specs.SequentialAtomic.{is_same, atomic_reply, atomic_after}
use Rattle.sync_types.specs.SequentialMap.{map_reply, map_after}
use Rattle.sync_types.specs.declared.atomic_object.AtomicCall.TheVariants.{Add}
use Rattle.sync_types.specs.declared.atomic_object.AtomicReply.TheVariants.{Compared}
use Rattle.sync_types.specs.declared.atomic_object.Number.{Number}
use Rattle.sync_types.specs.declared.atomic_object.Number.TheVariants.{Int64}
use Rattle.script_calls.specs.declared.call.Call.{Call}
use Rattle.script_calls.specs.declared.call.ComposedCall.TheVariants.{IfEqual}
use Rattle.script_calls.specs.declared.call.Operation.{Operation}
use Rattle.script_calls.specs.declared.call.Operation.TheVariants as operations
use Rattle.script_calls.specs.declared.call.Reply.TheVariants as replies
use Rattle.sync_types.specs.declared.once_call.DoReply.TheVariants as do_replies
use Rattle.sync_types.specs.declared.wait_call.CondCall.{CondCall}
use Rattle.mutex_core.specs.MutexMachine as mutex
use Rattle.rw_core.specs.RwMachine as rw
use Rattle.wait_cores.specs.NotifyMachine as notify
use Rattle.wait_cores.specs.GroupMachine as group
use Rattle.wait_cores.specs.OnceMachine as once
use Rattle.wait_cores.specs.OnceStanding.{runs_at}
use Rattle.sema_core.specs.SemaMachine as sema
use Rattle.sema_core.specs.SemaStages.{sema_event, sema_meaning}
use Rattle.flight_core.specs.FlightMachine as flight
use Rattle.flight_core.specs.FlightStages.{flight_event, flight_meaning}
use Rattle.flight_core.specs.declared.calls.FlightOutcome.{FlightOutcome}
use Rattle.flight_core.specs.declared.calls.FlightOutcome.TheVariants.{Landed}
use Rattle.protocols.specs.CondStages.{cond_event, cond_meaning}
use Rattle.protocols.specs.GroupStages.{group_event, group_meaning}
use Rattle.protocols.specs.MutexStages.{mutex_event, mutex_meaning}
use Rattle.protocols.specs.OnceStages.{once_event, once_meaning}
use Rattle.protocols.specs.RwMutexStages.{rw_event, rw_meaning}
use Rattle.protocols.specs.declared.cond.CondStage.{CondStage}
use Rattle.protocols.specs.declared.mutex.MutexStage.{MutexStage}
use Rattle.protocols.specs.declared.once.OnceOutcome.{OnceOutcome}
use Rattle.protocols.specs.declared.once.OnceOutcome.TheVariants.{Ended}
use Rattle.workload.specs.Keys.{key_number}
use Rattle.workload.specs.Plan.{reference_of}
use Rattle.run_record.specs.OnceKind.{failure}
use Rattle.step_runner.specs.declared.turns.answer.Answer.{Answer}
use Rattle.step_runner.specs.declared.turns.answer.Answer.TheVariants as answers
use Rattle.step_runner.specs.declared.turns.object_state.ObjectState.{ObjectState}
use Rattle.step_runner.specs.declared.turns.object_state.ObjectState.TheVariants as states
use Rattle.step_runner.specs.Due.{mutex_due, rw_due, locked, group_due, sema_due, returned, cond_due, cond_answer, once_due, ran_or, flight_due, flown}
use Rattle.step_runner.specs.Objects.{kind_of}
use Rattle.step_runner.specs.PoolTurn.{pool_step}
use Rattle.step_runner.specs.Stages.{make, answer_by}
use Rattle.step_runner.specs.Variables.{var_reply, var_after}

module _ {S O : Type 0} where
  -- a turn at an object, by what its stage came to
  abbrev pub turned : (S → ObjectState) → (O → Answer) → S × Result O Answer → ObjectState × Answer
  turned object read made = (object made.0, answer_by read made.1)

module _ {T : Type 0} where
  -- a once whose function comes to this value
  abbrev pub once_made : ℕ → ℕ → T → once.OnceState T → once.OnceState T × Result (OnceOutcome T) Answer
  once_made worker moment value o = make once.next once_event once_meaning worker moment (once_due value (runs_at o worker) (once.place_of o worker)) o

-- At a moment, by the operation that is called and at the call's object, where that refers to no other. An object of another kind has no such call
abbrev pub turn_on : Operation → ℕ → ℕ → ObjectState → ObjectState × Answer
turn_on (operations.Map call) worker moment (states.Map m) = (states.Map (map_after call m), answers.Completed (replies.Map (map_reply call m)))
-- the keys in byte order
turn_on operations.Range worker moment (states.Map m) = (states.Map m, answers.Completed (replies.Pairs (entries m)))
turn_on (operations.Atomic call) worker moment (states.Atomic number) = (states.Atomic (atomic_after call number), answers.Completed (replies.Atomic (atomic_reply call number)))
-- one load, whose reply is compared
turn_on (operations.Composed (IfEqual value passes)) worker moment (states.Atomic number) = (states.Atomic number, answers.Completed (replies.Atomic (Compared (is_same number value))))
turn_on (operations.Mutex call) worker moment (states.Mutex m) = turned states.Mutex locked (make mutex.next mutex_event mutex_meaning worker moment (mutex_due call (mutex.place_of m worker)) m)
turn_on (operations.RwMutex call) worker moment (states.RwMutex m) = turned states.RwMutex locked (make rw.next rw_event rw_meaning worker moment (rw_due call (rw.place_of m worker)) m)
turn_on (operations.WaitGroup call) worker moment (states.WaitGroup g first) =
    turned (λ g. states.WaitGroup g first) returned (make group.next group_event group_meaning worker moment (group_due call (group.place_of g worker)) g)
turn_on (operations.Sema call) worker moment (states.Sema s size) =
    turned (λ s. states.Sema s size) locked (make sema.next sema_event sema_meaning worker moment (sema_due call (sema.place_of s worker)) s)
turn_on operations.OnceFunc worker moment (states.OnceFunc o code) =
    turned (λ o. states.OnceFunc o code) (ran_or (replies.OnceFunc (failure code)) (λ kept. replies.OnceFunc (failure kept))) (once_made worker moment code o)
turn_on operations.OnceValue worker moment (states.OnceValue o value) = turned (λ o. states.OnceValue o value) (ran_or (replies.OnceValue value) replies.OnceValue) (once_made worker moment value o)
turn_on (operations.Pool call) worker moment (states.Pool p) = let step = pool_step worker moment call p in (states.Pool step.0, step.1)
turn_on (operations.Var call) worker moment (states.Var held) = (states.Var (var_after call held), answers.Completed (replies.Var (var_reply call held)))
turn_on operation worker moment o = (o, answers.Still)

-- a turn of a cond's call: the stages that are due at the cond and at its mutex, whatever the first comes to
abbrev pub cond_turn : CondCall → ℕ → ℕ → ℕ → Option CondStage × Option MutexStage → notify.NotifyState → mutex.State → (ObjectState × ObjectState) × Answer
cond_turn call worker moment place due c m =
    let locker = make mutex.next mutex_event mutex_meaning worker moment due.1 m in
    ((states.Cond (make notify.next cond_event cond_meaning worker moment due.0 c).0 place, states.Mutex locker.0), cond_answer call due.1 locker.1)

-- the number that a once's function changes, where this turn ended it
abbrev pub number_after : Result (OnceOutcome ℤ) Answer → Number → Number → Number
number_after (Ok Ended) new old = new
number_after other new old = old

-- a once and its number, by what its stage came to, where the function comes to this sum
abbrev pub added : ℕ → ℤ → Number → ℤ → once.OnceState ℤ × Result (OnceOutcome ℤ) Answer → (ObjectState × ObjectState) × Answer
added place delta number sum made =
    ((states.Once made.0 place delta, states.Atomic (number_after made.1 (Int64 sum) number)), answer_by (ran_or (replies.Once (do_replies.Ran sum)) (λ kept. replies.Once do_replies.Done)) made.1)

-- the sum is an int64, and the number to which the once refers is the sum behind the function's end
abbrev pub sum_turn : ℕ → ℕ → once.OnceState ℤ → ℕ → ℤ → Number → Number → (ObjectState × ObjectState) × Answer
sum_turn worker moment o place delta number (Int64 sum) = added place delta number sum (once_made worker moment sum o)
sum_turn worker moment o place delta number other = ((states.Once o place delta, states.Atomic number), answers.Still)

-- a group of flights whose function comes to this value, where the call's key has this number
abbrev pub flight_made : ℕ → ℕ → ℕ → ℤ → flight.FlightState → flight.FlightState × Result FlightOutcome Answer
flight_made worker moment key value f = make flight.next flight_event flight_meaning worker moment (flight_due key value (flight.place_of f worker)) f

-- the number that the function of a group of flights changes, where this turn landed
abbrev pub number_landed : Result FlightOutcome Answer → Number → Number → Number
number_landed (Ok (Landed shared)) new old = new
number_landed other new old = old

-- a group of flights and its number, by what its stage came to, where the function comes to this sum
abbrev pub flown_to : List (List ℕ) → ℕ → ℤ → Number → ℤ → flight.FlightState × Result FlightOutcome Answer → (ObjectState × ObjectState) × Answer
flown_to keys place delta number sum made = ((states.Flight made.0 keys place delta, states.Atomic (number_landed made.1 (Int64 sum) number)), answer_by (flown sum) made.1)

-- the sum is an int64, and the number to which the group refers is the sum behind the landing
abbrev pub fly_turn : ℕ → ℕ → ℕ → flight.FlightState → List (List ℕ) → ℕ → ℤ → Number → Number → (ObjectState × ObjectState) × Answer
fly_turn key worker moment f keys place delta number (Int64 sum) = flown_to keys place delta number sum (flight_made worker moment key sum f)
fly_turn key worker moment f keys place delta number other = ((states.Flight f keys place delta, states.Atomic number), answers.Still)

-- the turn at an object that refers to another one, and at that one
abbrev pub turn_on_both : Operation → ℕ → ℕ → ObjectState → ObjectState → (ObjectState × ObjectState) × Answer
turn_on_both (operations.Cond call) worker moment (states.Cond c place) (states.Mutex m) = cond_turn call worker moment place (cond_due call (mutex.place_of m worker) (notify.place_of c worker)) c m
-- the function adds as an atomic's `add` does
turn_on_both operations.Once worker moment (states.Once o place delta) (states.Atomic number) = sum_turn worker moment o place delta number (atomic_after (Add (Int64 delta)) number)
turn_on_both (operations.Fly key) worker moment (states.Flight f keys place delta) (states.Atomic number) =
    fly_turn (key_number keys key) worker moment f keys place delta number (atomic_after (Add (Int64 delta)) number)
turn_on_both operation worker moment o target = ((o, target), answers.Still)

-- it leaves every other object alone
abbrev pub with_object : ℕ → List ObjectState → ObjectState × Answer → List ObjectState × Answer
with_object place objects step = (set objects place step.0, step.1)

abbrev pub with_both : ℕ → ℕ → List ObjectState → (ObjectState × ObjectState) × Answer → List ObjectState × Answer
with_both place other objects step = (set (set objects place step.0.0) other step.0.1, step.1)

-- by the place of the object to which the call's object refers, if it refers to one
abbrev pub turn_by : Option ℕ → Call → ℕ → ℕ → List ObjectState → ObjectState → List ObjectState × Answer
turn_by None call worker moment objects object = with_object call.object objects (turn_on call.operation worker moment object)
turn_by (Some other) call worker moment objects object =
    option_map_or (λ target. with_both call.object other objects (turn_on_both call.operation worker moment object target)) (slice_get objects other) (objects, answers.Still)

abbrev pub turn_at : Call → ℕ → ℕ → List ObjectState → List ObjectState × Answer
turn_at call worker moment objects =
    option_map_or (λ object. turn_by (reference_of (kind_of object)) call worker moment objects object) (slice_get objects call.object) (objects, answers.Still)
