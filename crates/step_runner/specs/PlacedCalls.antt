-- Which calls are one placed call, or are made of one.
use Rattle.std.specs.Prelude.{◌≡◌, ℕ, Bool, true, false, List, [], ◌∷◌, Some, slice_get}
use Rattle.sync_types.specs.SequentialAtomic.{is_same}
use Rattle.sync_types.specs.declared.atomic_object.AtomicCall.TheVariants.{Load}
use Rattle.sync_types.specs.declared.atomic_object.AtomicReply.TheVariants.{Held, Compared}
use Rattle.sync_types.specs.declared.atomic_object.Number.{Number}
use Rattle.script_calls.specs.declared.call.Call.{Call}
use Rattle.script_calls.specs.declared.call.Operation.{Operation}
use Rattle.script_calls.specs.declared.call.Operation.TheVariants as operations
use Rattle.script_calls.specs.declared.call.Reply.{Reply}
use Rattle.script_calls.specs.declared.call.Reply.TheVariants as replies
use Rattle.step_runner.specs.declared.turns.answer.Answer.{Answer}
use Rattle.step_runner.specs.declared.turns.answer.Answer.TheVariants.{Completed}
use Rattle.step_runner.specs.declared.turns.object_state.ObjectState.{ObjectState}
use Rattle.step_runner.specs.declared.turns.object_state.ObjectState.TheVariants as states
use Rattle.step_runner.specs.declared.turns.item.Deed.TheVariants as deeds
use Rattle.step_runner.specs.declared.turns.item.Item.{Item}

-- whether an operation is one of a map, an atomic or a plain variable
abbrev pub is_placed : Operation → Bool
is_placed (operations.Map call) = true
is_placed operations.Range = true
is_placed (operations.Atomic call) = true
is_placed (operations.Var call) = true
is_placed operation = false

-- the turn makes the call's one item, and completes the call with the reply in it
abbrev pub IsAnswered : Call → ℕ → List Item → Answer → Type 0
IsAnswered call worker made answer = (reply : Reply (List ℕ)) × (made ≡ record { object = call.object; caller = worker; deed = deeds.Placed call.operation reply } ∷ []) × (answer ≡ Completed reply)

-- the turn makes one load of the call's atomic, and completes the call by what it found: whether that is the value
abbrev pub IsTested : Call → Number → ℕ → List ObjectState → List Item → Answer → Type 0
IsTested call value worker objects made answer =
    (found : Number) × (slice_get objects call.object ≡ Some (states.Atomic found))
    × (made ≡ record { object = call.object; caller = worker; deed = deeds.Placed (operations.Atomic Load) (replies.Atomic (Held found)) } ∷ []) × (answer ≡ Completed (replies.Atomic (Compared (is_same found value))))
