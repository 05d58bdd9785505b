-- What the items of a turn are of what was left of its call.
use Rattle.std.specs.Prelude.{◌≡◌, List, [], ◌++◌, Ok, Err}
use Rattle.std.specs.Prelude.{ℕ}
use Rattle.sync_model.specs.declared.answer.Answer.TheVariants.{Done}
use Rattle.script_calls.specs.declared.call.Reply.{Reply}
use Rattle.protocols.specs.Spelling.{CallAnswer}
use Rattle.workload.specs.Plan.{Plan}
use Rattle.run_record.specs.Parts.{Part}
use Rattle.run_record.specs.declared.made.Made.{Made}
use Rattle.step_runner.specs.declared.turns.answer.Answer.{Answer}
use Rattle.step_runner.specs.declared.turns.answer.Answer.TheVariants as answers
use Rattle.step_runner.specs.Recorded.{recorded_reply}

-- No event makes no item. One after which the call has not returned leaves what is left then: with any items that spell that, the turn's spell what was left before.
-- One that completes the call or is a misuse spells all that was left, and the reply is read off the items
abbrev pub Tells : Plan → Part (Reply ℕ) → Part (Reply ℕ) → List Made → Answer → Type 0
Tells plan old new made answers.Still = made ≡ []
Tells plan old new made answers.Unfinished = (later : List Made) (answer : CallAnswer (Reply ℕ)) → new later answer → old (made ++ later) answer
Tells plan old new made (answers.Completed reply) = old made (Done (Ok (recorded_reply plan reply)))
Tells plan old new made (answers.Misused misuse) = old made (Done (Err misuse))
