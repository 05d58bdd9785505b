use Rattle.std.proofs.Common.{◌≡◌, ◌↔◌, Bool, IsTrue, List, sym, ap, ◌∙◌}
use Rattle.std.proofs.lemmas.Result.{IfOk-weaker}
use Rattle.script_calls.specs.Outcome.{shows_to}
use Rattle.script_calls.specs.declared.outcome.Outcome.{Outcome}
use Rattle.sync_model.specs.declared.item.Item.{Item}
use Rattle.workload.specs.declared.limits.TheConstants.{MAX_KEYS}
use Rattle.workload.specs.Lines.{lines_of}
use Rattle.run_report.specs.ReportText.{report_text}
use Rattle.list_checks.specs.declared.spell.line.SpeltLine.{SpeltLine}
use Rattle.record_text.specs.Reads.{told_by}
use Rattle.record_text.specs.Told.{joined}
use Rattle.record_clauses.specs.declared.clause.Clause.TheVariants.{Report}
use Rattle.record_clauses.specs.Account.{Claim}
use Rattle.record_clauses.specs.Verdicts as claims
use Rattle.run_check.specs.declared.spelling.Spelling.{Spelling}
use Rattle.run_check.specs.Found.{IsStoppedOf, found_outcome}
use Rattle.run_check.proofs.report.report_holds.Goals as goal

pub outcome_found-requires-clause-on : goal.outcome_found-requires-clause-on
outcome_found-requires-clause-on c n entry at = let (found, marked, claim, lines, is) = c.requires in c.what_a_run_came_to_is_known.ensures.on (told_by c.args.text.now) found marked c.args.history.now claim n entry is at

pub outcome_found-requires-clause-keys : goal.outcome_found-requires-clause-keys
outcome_found-requires-clause-keys c = let (found, marked, claim, lines, is) = c.requires in c.what_a_run_came_to_is_known.ensures.keys (told_by c.args.text.now) found marked c.args.history.now claim is

pub are_lines_of_report-requires-clause-pairs : goal.are_lines_of_report-requires-clause-pairs
are_lines_of_report-requires-clause-pairs c =
    let told = told_by c.args.text.now in
    let (found, marked, claim, lines, is) = c.requires in
    ap (λ (o : Outcome). shows_to MAX_KEYS o) c.in_ok-outcome.ensures
    ∙ ap (λ (ls : List SpeltLine). shows_to MAX_KEYS (found_outcome told.plan told.misused ls c.args.history.now)) (sym lines) ∙ c.what_a_run_came_to_is_known.ensures.pairs told found marked c.args.history.now claim is

pub returns : goal.returns
returns c =
    let told = told_by c.args.text.now in
    let history = c.args.history.now in
    IfOk-weaker c.are_lines_of_report.result (λ (are : Bool). IsTrue are ↔ (joined (lines_of c.args.text.now.report.now) ≡ report_text told.plan c.in_ok-outcome.outcome))
    (λ (holds : Bool). (found : Spelling) (marked : List (List Item)) (claim : Claim) → found.lines ≡ c.args.lines → IsStoppedOf told found marked history claim → (IsTrue holds ↔ claims.UpTo claim Report))
    (λ holds both found marked claim lines is.
    let known = c.what_a_run_came_to_is_known.ensures.report told found marked history claim is in
    let outcome : c.in_ok-outcome.outcome ≡ found_outcome told.plan told.misused found.lines history = c.in_ok-outcome.ensures ∙ ap (λ (ls : List SpeltLine). found_outcome told.plan told.misused ls history) (sym lines) in
    let text : report_text told.plan c.in_ok-outcome.outcome ≡ report_text told.plan (found_outcome told.plan told.misused found.lines history) = ap (λ (o : Outcome). report_text told.plan o) outcome in
    (λ yes_. known.0 (both.0 yes_ ∙ text), λ up. both.1 (known.1 up ∙ sym text)))
    c.are_lines_of_report.ensures
