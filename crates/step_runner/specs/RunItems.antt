-- The items that a run makes: what was done on which object, by whom and with which answer, in order.
use Rattle.std.specs.Prelude.{◌≡◌, ℕ, true, List, [], ◌∷◌, ◌++◌, get_or, slice_get, Some}
use Rattle.std.specs.Option.{option_map_or}
use Rattle.sync_types.specs.SequentialAtomic.{is_same}
use Rattle.sync_types.specs.declared.atomic_object.AtomicCall.TheVariants.{Load}
use Rattle.sync_types.specs.declared.atomic_object.AtomicReply.TheVariants.{Held, Compared}
use Rattle.sync_types.specs.declared.atomic_object.Number.{Number}
use Rattle.script_calls.specs.declared.call.Call.{Call}
use Rattle.script_calls.specs.declared.call.Operation.TheVariants as operations
use Rattle.script_calls.specs.declared.call.Reply.{Reply}
use Rattle.script_calls.specs.declared.call.Reply.TheVariants as replies
use Rattle.workload.specs.declared.object.ObjectLine.{ObjectLine}
use Rattle.workload.specs.declared.turn.Turn.{Turn}
use Rattle.workload.specs.declared.turn.Turn.TheVariants as items
use Rattle.workload.specs.Keys.{keys_in}
use Rattle.workload.specs.Plan.{Plan}
use Rattle.workload.specs.Puts.{puts_at}
use Rattle.step_runner.specs.declared.turns.object_state.ObjectState.{ObjectState}
use Rattle.step_runner.specs.declared.turns.object_state.ObjectState.TheVariants as states
use Rattle.step_runner.specs.LeadsTo.{on_object, LeadsTo}
use Rattle.step_runner.specs.declared.turns.item.Deed.TheVariants as deeds
use Rattle.step_runner.specs.declared.turns.item.Item.{Item}
use Rattle.step_runner.specs.Objects.{new_object}
use Rattle.step_runner.specs.declared.step.Step.{Step}
use Rattle.step_runner.specs.declared.step.Step.TheVariants as steps
use Rattle.step_runner.specs.State.{State, with_moment}
use Rattle.step_runner.specs.TurnWithin.{items_within}
use Rattle.step_runner.specs.Turns.{begun_by, next_call, turn_of}

-- what a worker's turn makes: nothing, where its script has ended
abbrev pub made_by : Plan → ℕ → State → List Item
made_by plan worker s = option_map_or (λ call. items_within call worker s.moment (begun_by worker s) s.objects) (next_call plan worker s) []

-- nothing follows a misuse
abbrev pub unless_ended : State × Step → (State → List Item) → List Item
unless_ended (s, steps.Still) rest = rest s
unless_ended (s, steps.Made) rest = rest s
unless_ended (s, steps.Misused misuse) rest = []

-- what all turns make that a schedule gives from a state on
abbrev pub all_made : Plan → List Turn → State → List Item
all_made plan [] s = []
all_made plan (items.Worker worker ∷ rest) s = made_by plan worker s ++ unless_ended (turn_of plan worker s) (all_made plan rest)
all_made plan (items.Moment moment ∷ rest) s = all_made plan rest (with_moment moment s)

-- the items lead from the objects with which a run begins to these: those on each object from what its line says
abbrev pub LeadTo : Plan → List Item → List ObjectState → Type 0
LeadTo plan made objects =
    (place : ℕ) (line : ObjectLine) (object : ObjectState) → slice_get plan.objects place ≡ Some line → slice_get objects place ≡ Some object
    → LeadsTo (new_object plan.workers (puts_at place plan.scripts) (keys_in plan.scripts) line.kind) (on_object place made) object

-- the worker's next turn makes its call whole, in one item whose reply is the call's
abbrev pub IsAnswered : Plan → ℕ → Call → State → Type 0
IsAnswered plan worker call s =
    (reply : Reply (List ℕ)) × (made_by plan worker s ≡ record { object = call.object; caller = worker; deed = deeds.Placed call.operation reply } ∷ [])
    × (get_or (turn_of plan worker s).0.replies worker [] ≡ get_or s.replies worker [] ++ reply ∷ [])

-- the worker's next turn makes one load of its call's atomic, and completes the call by what it found: whether that is the value
abbrev pub IsTested : Plan → ℕ → Call → Number → State → Type 0
IsTested plan worker call value s =
    (found : Number) × (slice_get s.objects call.object ≡ Some (states.Atomic found))
    × (made_by plan worker s ≡ record { object = call.object; caller = worker; deed = deeds.Placed (operations.Atomic Load) (replies.Atomic (Held found)) } ∷ [])
    × (get_or (turn_of plan worker s).0.replies worker [] ≡ get_or s.replies worker [] ++ replies.Atomic (Compared (is_same found value)) ∷ [])

-- the worker's next turn makes one load of the atomic at this place, which finds this number, completes the call by true, and changes no object
abbrev pub IsMet : Plan → ℕ → ℕ → Number → State → Type 0
IsMet plan worker atomic found s =
    (made_by plan worker s ≡ record { object = atomic; caller = worker; deed = deeds.Placed (operations.Atomic Load) (replies.Atomic (Held found)) } ∷ [])
    × (get_or (turn_of plan worker s).0.replies worker [] ≡ get_or s.replies worker [] ++ replies.Atomic (Compared true) ∷ [])
    × ((turn_of plan worker s).0.objects ≡ s.objects)
