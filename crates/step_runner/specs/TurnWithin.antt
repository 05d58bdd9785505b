-- The turn of a worker that stands before a call or within it. A `waitfor` is made of loads of its atomic and of the turns of `wait`s on its cond: how many waits
-- were begun tells whether the worker stands before it, and how many more it may make. A `go` is the `add` of 1 to its group, and then a start. Every other call's turn is the one at its objects.
use Rattle.std.specs.Prelude.{ℕ, zero, suc, pos, ◌+◌, Bool, true, false, nat_le, List, [], ◌∷◌, ◌++◌, length, slice_get}
use Rattle.std.specs.Option.{option_map_or}
use Rattle.sync_types.specs.SequentialAtomic.{is_same}
use Rattle.sync_types.specs.declared.atomic_object.AtomicCall.TheVariants.{Load}
use Rattle.sync_types.specs.declared.atomic_object.AtomicReply.TheVariants.{Compared}
use Rattle.sync_types.specs.declared.atomic_object.Number.{Number}
use Rattle.sync_types.specs.declared.wait_call.CondCall.TheVariants as cond_calls
use Rattle.sync_types.specs.declared.wait_call.WaitGroupCall.{WaitGroupCall}
use Rattle.sync_types.specs.declared.wait_call.WaitGroupCall.TheVariants as group_calls
use Rattle.script_calls.specs.declared.call.Call.{Call}
use Rattle.script_calls.specs.declared.call.ComposedCall.TheVariants.{WaitFor, Go}
use Rattle.script_calls.specs.declared.call.Operation.{Operation}
use Rattle.script_calls.specs.declared.call.Operation.TheVariants as operations
use Rattle.script_calls.specs.declared.call.Reply.TheVariants as replies
use Rattle.step_runner.specs.declared.turns.answer.Answer.{Answer}
use Rattle.step_runner.specs.declared.turns.answer.Answer.TheVariants as answers
use Rattle.step_runner.specs.declared.turns.object_state.ObjectState.{ObjectState}
use Rattle.step_runner.specs.declared.turns.object_state.ObjectState.TheVariants as states
use Rattle.starts_core.specs.declared.starts.StartEvent.TheVariants as starts
use Rattle.starts_core.specs.declared.starts.StartReply.TheVariants as told
use Rattle.run_record.specs.declared.entered.ObjectEvent.TheVariants as events
use Rattle.run_record.specs.declared.entered.ObjectReply.TheVariants as answered
use Rattle.step_runner.specs.declared.turns.item.Deed.TheVariants as deeds
use Rattle.step_runner.specs.declared.turns.item.Item.{Item}
use Rattle.step_runner.specs.Items.{items_at}
use Rattle.step_runner.specs.TurnAtObjects.{turn_at}

-- the call that waits once on the cond at a place, and the one that loads the atomic at a place
abbrev pub wait_on : ℕ → Call
wait_on cond = record { object = cond; operation = operations.Cond cond_calls.Wait }

abbrev pub load_of : ℕ → Call
load_of atomic = record { object = atomic; operation = operations.Atomic Load }

-- a call of the wait group at a place: the one that adds 1, and the one that is done
abbrev pub on_group : ℕ → WaitGroupCall → Call
on_group group call = record { object = group; operation = operations.WaitGroup call }

abbrev pub add_one : ℕ → Call
add_one group = on_group group (group_calls.Add (pos 1))

abbrev pub done_on : ℕ → Call
done_on group = on_group group group_calls.Done

-- whether an object is an atomic that holds the number
abbrev pub holds : Number → ObjectState → Bool
holds value (states.Atomic number) = is_same number value
holds value object = false

abbrev pub is_met : ℕ → Number → List ObjectState → Bool
is_met atomic value objects = option_map_or (holds value) (slice_get objects atomic) false

-- the objects behind a turn, how many waits of the call were begun by then, and the turn's answer
abbrev pub Taken : Type 0
Taken = (List ObjectState × ℕ) × Answer

-- one more wait begins: an event, after which the call hasn't returned, unless it is a misuse
abbrev pub begin_wait : ℕ → List ObjectState × Answer → Taken
begin_wait begun (objects, answers.Misused misuse) = ((objects, begun + 1), answers.Misused misuse)
begin_wait begun (objects, answer) = ((objects, begun + 1), answers.Unfinished)

-- a `waitfor` is completed: it tells whether its last load found the number
abbrev pub tells : Bool → Answer
tells met = answers.Completed (replies.Atomic (Compared met))

module _ (worker moment cond atomic : ℕ) (value : Number) (tries : ℕ) where
  -- the number wasn't found: the call is completed where all tries were made, and else a wait begins
  abbrev pub unless_last : Bool → ℕ → List ObjectState → Taken
  unless_last true begun objects = ((objects, begun), tells false)
  unless_last false begun objects = begin_wait begun (turn_at (wait_on cond) worker moment objects)

  -- behind a load, by whether it found the number
  abbrev pub unless_met : Bool → ℕ → List ObjectState → Taken
  unless_met true begun objects = ((objects, begun), tells true)
  unless_met false begun objects = unless_last (nat_le tries begun) begun objects

  -- a load changes nothing
  abbrev pub look : ℕ → List ObjectState → Taken
  look begun objects = unless_met (is_met atomic value objects) begun objects

  -- a wait that returned is followed by a load, in the same turn
  abbrev pub behind_wait : ℕ → List ObjectState × Answer → Taken
  behind_wait begun (objects, answers.Completed reply) = look begun objects
  behind_wait begun (objects, answer) = ((objects, begun), answer)

  -- by how many waits were begun
  abbrev pub wait_for_turn : ℕ → List ObjectState → Taken
  wait_for_turn zero objects = look zero objects
  wait_for_turn (suc begun) objects = behind_wait (suc begun) (turn_at (wait_on cond) worker moment objects)

  -- ---- and what each of these makes

  abbrev pub unless_last_items : Bool → List ObjectState → List Item
  unless_last_items true objects = []
  unless_last_items false objects = items_at (wait_on cond) worker moment objects

  abbrev pub unless_met_items : Bool → ℕ → List ObjectState → List Item
  unless_met_items true begun objects = []
  unless_met_items false begun objects = unless_last_items (nat_le tries begun) objects

  abbrev pub look_items : ℕ → List ObjectState → List Item
  look_items begun objects = items_at (load_of atomic) worker moment objects ++ unless_met_items (is_met atomic value objects) begun objects

  abbrev pub behind_wait_items : ℕ → List ObjectState × Answer → List Item
  behind_wait_items begun (objects, answers.Completed reply) = look_items begun objects
  behind_wait_items begun (objects, answer) = []

  abbrev pub wait_for_items : ℕ → List ObjectState → List Item
  wait_for_items zero objects = look_items zero objects
  wait_for_items (suc begun) objects = items_at (wait_on cond) worker moment objects ++ behind_wait_items (suc begun) (turn_at (wait_on cond) worker moment objects)

-- with as many waits begun as before
abbrev pub none_begins : ℕ → List ObjectState × Answer → Taken
none_begins begun step = ((step.0, begun), step.1)

-- a worker is started: an event on Starts, which stands behind so many objects
abbrev pub start_item : (worker count started : ℕ) → Item
start_item worker count started = record { object = count; caller = worker; deed = deeds.Entered (events.Starts (starts.Start started)) (answered.Starts told.Done) }

-- nobody is started where the `add` is a misuse
abbrev pub start_items : Answer → Item → List Item
start_items answers.Still start = []
start_items answers.Unfinished start = []
start_items (answers.Completed reply) start = start ∷ []
start_items (answers.Misused misuse) start = []

module _ (call : Call) (worker moment begun : ℕ) (objects : List ObjectState) where
  -- by the call's operation; every other call has begun no wait
  abbrev pub turn_by_operation : Operation → Taken
  turn_by_operation (operations.Composed (WaitFor atomic value tries)) = wait_for_turn worker moment call.object atomic value tries begun objects
  turn_by_operation (operations.Composed (Go started)) = none_begins begun (turn_at (add_one call.object) worker moment objects)
  turn_by_operation operation = none_begins begun (turn_at call worker moment objects)

  abbrev pub turn_within : Taken
  turn_within = turn_by_operation call.operation

  abbrev pub items_by_operation : Operation → List Item
  items_by_operation (operations.Composed (WaitFor atomic value tries)) = wait_for_items worker moment call.object atomic value tries begun objects
  items_by_operation (operations.Composed (Go started)) =
      items_at (add_one call.object) worker moment objects ++ start_items (turn_at (add_one call.object) worker moment objects).1 (start_item worker (length objects) started)
  items_by_operation operation = items_at call worker moment objects

  -- what the turn makes
  abbrev pub items_within : List Item
  items_within = items_by_operation call.operation
