-- Which calls are completed in their first turn.
use Rattle.std.specs.Prelude.{Bool, true, false}
use Rattle.script_calls.specs.declared.call.ComposedCall.TheVariants.{IfEqual, WaitFor, Go}
use Rattle.script_calls.specs.declared.call.Operation.{Operation}
use Rattle.script_calls.specs.declared.call.Operation.TheVariants as operations
use Rattle.step_runner.specs.declared.turns.answer.Answer.{Answer}
use Rattle.step_runner.specs.declared.turns.answer.Answer.TheVariants as answers

-- whether an operation is one of a map, an atomic, a pool or a plain variable
abbrev pub takes_one_turn : Operation → Bool
takes_one_turn (operations.Map call) = true
takes_one_turn operations.Range = true
takes_one_turn (operations.Atomic call) = true
takes_one_turn (operations.Mutex call) = false
takes_one_turn (operations.RwMutex call) = false
takes_one_turn (operations.Cond call) = false
takes_one_turn (operations.WaitGroup call) = false
takes_one_turn operations.Once = false
takes_one_turn operations.OnceFunc = false
takes_one_turn operations.OnceValue = false
takes_one_turn (operations.Pool call) = true
takes_one_turn (operations.Sema call) = false
takes_one_turn (operations.Fly key) = false
takes_one_turn (operations.Var call) = true
takes_one_turn (operations.Composed (IfEqual value passes)) = true
takes_one_turn (operations.Composed (WaitFor atomic value tries)) = false
takes_one_turn (operations.Composed (Go worker)) = false

-- the turn completes its call
abbrev pub IsCompleted : Answer → Type 0
IsCompleted answers.Still = ⊥
IsCompleted answers.Unfinished = ⊥
IsCompleted (answers.Completed reply) = Unit {0}
IsCompleted (answers.Misused misuse) = ⊥
