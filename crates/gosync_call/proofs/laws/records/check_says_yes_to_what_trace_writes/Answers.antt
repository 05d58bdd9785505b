use Rattle.std.proofs.Common.{◌≡◌, ℕ, true, false, List, Some, refl, sym, subst}
use Rattle.std.proofs.lemmas.Option.{same_Some}
use Rattle.script_calls.specs.declared.outcome.Outcome.TheVariants as outcomes
use Rattle.script_calls.specs.declared.outcome.Report.{Report}
use Rattle.workload.specs.Dialect.{has_unrecorded}
use Rattle.workload.specs.Plan.{Plan}
use Rattle.workload.specs.Readable.{IsReadable}
use Rattle.record_clauses.specs.declared.clause.Verdict.TheVariants.{Yes}
use Rattle.record_text.specs.Told.{IsTold}
use Rattle.run_check.specs.Completeness.{AreLinesOf}
use Rattle.run_check.specs.Tells.{ComesTo}
use Rattle.scheduled_record.specs.ToldLists.{claim_of}
use Rattle.scheduled_record.specs.Recorded.{IsDoneWithin, done_text, told_done}
use Rattle.gosync_call.specs.Checks.{IsJudged}
use Rattle.gosync_call.proofs.ReportEnded.{report_joined}
use Rattle.gosync_call.proofs.laws.records.check_says_yes_to_what_trace_writes.Goals as goal

module _ (c : goal.After-the_text_of_a_run_tells_its_record) (plan : Plan) (left : Report) (readable : IsReadable plan) (plain : has_unrecorded plan ≡ false) (is : IsDoneWithin plan true left) where
  told : IsTold (done_text plan left) (told_done plan left)
  told = c.the_text_of_a_run_tells_its_record.ensures plan left readable plain is

  lines : AreLinesOf (told_done plan left) (claim_of plan left)
  lines = record {
    plan = refl;
    misused = refl;
    workers = c.each_item_of_a_run_has_its_line.ensures.workers plan left;
    written = λ worker list at. c.each_item_of_a_run_has_its_line.ensures.lines plan left worker list readable plain is at;
    report = sym (report_joined plan (outcomes.Done left));
  }

  yes : ComesTo (told_done plan left) Yes
  yes =
      let (account, same, comes, holds) = c.what_is_told_of_a_run_holds.ensures plan left readable plain is.done in
      c.nothing_that_explains_is_lost.ensures.yes (told_done plan left) (claim_of plan left) account readable holds lines

  judged : IsJudged (Some (done_text plan left)) Yes
  judged = (done_text plan left, refl, (told_done plan left, told, readable, yes))

pub returns-clause-yes : goal.returns-clause-yes
returns-clause-yes c plan left readable plain is = judged c plan left readable plain is

pub returns-clause-one : goal.returns-clause-one
returns-clause-one c plan left verdict readable plain is (bytes, are, (text, says, _, comes)) =
    c.a_text_comes_to_one_verdict.ensures.one bytes text (told_done plan left) verdict Yes says (subst (λ (bs : List ℕ). IsTold bs (told_done plan left)) (sym are) (told c plan left readable plain is)) comes (yes c plan left readable plain is)

pub returns-clause-accepted : goal.returns-clause-accepted
returns-clause-accepted c plan left line reason readable plain is (bytes, are, refused, none) =
    none (told_done plan left) (subst (λ (bs : List ℕ). IsTold bs (told_done plan left)) (sym are) (told c plan left readable plain is))

pub returns-clause-traced : goal.returns-clause-traced
returns-clause-traced c told bytes (plan, read, (left, (readable, plain, is), wrote)) =
    subst (λ (bs : List ℕ). IsJudged (Some bs) Yes) (sym (same_Some bytes (done_text plan left) wrote)) (judged c plan left readable plain is)
