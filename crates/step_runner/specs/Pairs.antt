-- How many pairs a `range` shows.
use Rattle.std.specs.Prelude.{◌≡◌, ℕ, true}
use Rattle.script_calls.specs.Outcome.{has_pairs_to}
use Rattle.step_runner.specs.declared.turns.answer.Answer.{Answer}
use Rattle.step_runner.specs.declared.turns.answer.Answer.TheVariants as answers

-- the reply by which a turn completes its call, if it does, shows at most so many pairs
abbrev pub ShowsTo : ℕ → Answer → Type 0
ShowsTo most answers.Still = Unit {0}
ShowsTo most answers.Unfinished = Unit {0}
ShowsTo most (answers.Completed reply) = has_pairs_to most reply ≡ true
ShowsTo most (answers.Misused misuse) = Unit {0}
