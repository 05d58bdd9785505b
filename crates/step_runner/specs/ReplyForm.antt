-- That a reply has the form of its call's replies.
use Rattle.std.specs.Prelude.{◌≡◌, true}
use Rattle.script_calls.specs.Replies.{is_reply_to}
use Rattle.script_calls.specs.declared.call.Operation.{Operation}
use Rattle.step_runner.specs.declared.turns.answer.Answer.{Answer}
use Rattle.step_runner.specs.declared.turns.answer.Answer.TheVariants as answers

-- the reply by which a turn completes its call, if it does
abbrev pub HasForm : Operation → Answer → Type 0
HasForm operation answers.Still = Unit {0}
HasForm operation answers.Unfinished = Unit {0}
HasForm operation (answers.Completed reply) = is_reply_to operation reply ≡ true
HasForm operation (answers.Misused misuse) = Unit {0}
