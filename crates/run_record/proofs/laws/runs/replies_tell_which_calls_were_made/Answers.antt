use Rattle.std.proofs.Common.{ℕ, List, [], get_or, sym, ap, ◌∙◌}
use Rattle.script_calls.specs.declared.call.Reply.{Reply}
use Rattle.script_calls.specs.Runs.{made_of, left_of}
use Rattle.run_record.specs.Lines.{calls_made, replies_of}
use Rattle.run_record.proofs.Having.{get_at}
use Rattle.run_record.proofs.RunLines.{calls_are, replies_are}
use Rattle.run_record.proofs.laws.runs.replies_tell_which_calls_were_made.Goals as goal

pub returns-clause-given : goal.returns-clause-given
returns-clause-given c plan r outcome lines worker line are at = ap (λ (l : List (List (Reply ℕ))). get_or l worker []) (sym are.replies) ∙ get_at replies_of [] lines worker line at

pub returns-clause-made : goal.returns-clause-made
returns-clause-made c plan r outcome lines worker line are at =
    let script = get_or plan.scripts worker [] in
    let told = c.a_run_is_told_by_its_replies.ensures.told script line.rest (calls_made line) (are.runs worker line at) in
    sym (calls_are line.spelt) ∙ (told.0 ∙ ap (λ (l : List (Reply ℕ)). made_of script l) (replies_are line.spelt))

pub returns-clause-left : goal.returns-clause-left
returns-clause-left c plan r outcome lines worker line are at =
    let script = get_or plan.scripts worker [] in
    let told = c.a_run_is_told_by_its_replies.ensures.told script line.rest (calls_made line) (are.runs worker line at) in
    told.1 ∙ ap (λ (l : List (Reply ℕ)). left_of script l) (replies_are line.spelt)
