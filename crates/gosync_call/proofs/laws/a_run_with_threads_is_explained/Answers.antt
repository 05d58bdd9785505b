use Rattle.std.proofs.Common.{◌∙◌, Some, refl, subst}
use Rattle.sync_outside.specs.Bytes.{AppendsFront}
use Rattle.script_calls.specs.declared.outcome.Outcome.{Outcome}
use Rattle.script_calls.specs.declared.outcome.Outcome.TheVariants as outcomes
use Rattle.workload.specs.Plan.{Plan}
use Rattle.workload.specs.declared.keyword.Dialect.TheVariants.{Runs}
use Rattle.run_record.specs.Explains.{Explains}
use Rattle.run_record.specs.InOneOrder.{InOneOrder}
use Rattle.run_record.specs.Lines.{never}
use Rattle.run_record.specs.Record.{Record}
use Rattle.run_report.specs.ReportText.{report_text}
use Rattle.gosync_call.specs.ComesTo.{EndsWithReport}
use Rattle.gosync_call.specs.Headline.{HasEnded, RunsTo}
use Rattle.gosync_call.proofs.Ended.{have_ended}
use Rattle.gosync_call.proofs.Runs.{done_left, misused_left, plan_is}
use Rattle.gosync_call.proofs.laws.a_run_with_threads_is_explained.Goals as goal

pub returns-clause-told : goal.returns-clause-told
returns-clause-told c bytes plan old new ending reads comes = subst (λ (p : Plan). EndsWithReport RunsTo p old new ending) (plan_is Runs bytes plan (Some bytes) c.run_texts_are_read_or_refused.ensures.one comes.0 refl reads comes.1) comes.2

pub returns-clause-done : goal.returns-clause-done
returns-clause-done c told old new comes =
    let left = done_left comes.0 old new comes.2 in
    let answers = c.a_run_that_is_done_answers_each_call.ensures in
    let lines = left.2.lines in
    let ended : HasEnded comes.0 left.0 = have_ended comes.0 left.0 left.1 left.2
    (λ worker runs. answers.left comes.0 left.1 left.0 worker runs left.2) (λ worker line has came. answers.started comes.0 left.1 left.0 left.2 worker line has came)
    (λ worker line has stays. c.replies_tell_which_calls_were_made.ensures.given comes.0 left.1 (outcomes.Done left.0) lines worker line left.2.are has
    ∙ c.nobody_who_was_not_started_makes_a_call.ensures.replies comes.0 worker line never (left.2.are.each worker line has) stays)
    (λ none nobody. answers.all comes.0 left.1 left.0 none nobody left.2) in
    (comes.0, left.0, left.1, comes.1, left.2, left.3, ended, left.4)

pub returns-clause-replies : goal.returns-clause-replies
returns-clause-replies c plan outcome runs worker = c.a_run_that_is_done_answers_each_call.ensures.made plan runs.0 outcome worker runs.1

pub returns-clause-misused : goal.returns-clause-misused
returns-clause-misused c told old new misuse comes =
    let left = misused_left comes.0 old new misuse comes.2 in
    let met = c.a_run_is_done_unless_it_was_misused.ensures.misused comes.0 left.1 left.0 misuse left.2 in
    (comes.0, left.0, left.1, comes.1, (left.2, met.0, met.1, met.2, met.3), left.3, left.4)

pub returns-clause-failed : goal.returns-clause-failed
returns-clause-failed c bytes plan old new reads comes =
    let failed = comes.2 in
    subst (λ (p : Plan). (outcome : Outcome) × (r : Record) × Explains p outcome r × InOneOrder r × AppendsFront old new (report_text p outcome))
    (plan_is Runs bytes plan (Some bytes) c.run_texts_are_read_or_refused.ensures.one comes.0 refl reads comes.1) (failed.0, failed.1.0, failed.1.1, failed.1.2, failed.2)
