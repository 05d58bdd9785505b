-- What a worker's turn makes of a stage of its call.
use Rattle.std.specs.Prelude.{ℕ, Option, Some, None, Result, Ok, Err}
use Rattle.protocols.specs.declared.step.Step.{Step}
use Rattle.protocols.specs.declared.step.Step.TheVariants.{Finished, Misused, Waits, Next, Never}
use Rattle.step_runner.specs.declared.turns.answer.Answer.{Answer}
use Rattle.step_runner.specs.declared.turns.answer.Answer.TheVariants as answers

-- What a stage comes to: an outcome, or what the turn answers without one. A call that has a later stage makes it in a later turn
abbrev pub outcome_of : {G O : Type 0} → Step G O → Result O Answer
outcome_of (Finished outcome) = Ok outcome
outcome_of (Misused misuse) = Err (answers.Misused misuse)
outcome_of (Waits later) = Err answers.Unfinished
outcome_of (Next later) = Err answers.Unfinished
outcome_of Never = Err answers.Still

-- the object behind the event of the stage that is due, and what the stage comes to; no event, where none is due
abbrev pub make : {S E R G O : Type 0} → (S → ℕ → E → S × R) → (G → ℕ → E) → (G → R → Step G O) → ℕ → ℕ → Option G → S → S × Result O Answer
make next event_of meaning worker moment None s = (s, Err answers.Still)
make next event_of meaning worker moment (Some stage) s = ((next s worker (event_of stage moment)).0, outcome_of (meaning stage (next s worker (event_of stage moment)).1))

-- what the turn answers, by what each outcome makes of the call
abbrev pub answer_by : {O : Type 0} → (O → Answer) → Result O Answer → Answer
answer_by read (Ok outcome) = read outcome
answer_by read (Err answer) = answer
