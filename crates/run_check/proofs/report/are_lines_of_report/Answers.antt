use Rattle.std.proofs.Common.{◌≡◌, ◌↔◌, ℕ, Bool, IsTrue, cond, List, [], ◌∷◌, ◌++◌, IfOk, sym, ap, ◌∙◌, subst}
use Rattle.workload.specs.Lines.{lines_of}
use Rattle.run_report.specs.ReportText.{report_text}
use Rattle.record_text.specs.Told.{joined}
use Rattle.run_check.proofs.EndedText.{joined_lines}
use Rattle.run_check.proofs.report.are_lines_of_report.Goals as goal

pub returns-then-is_ended : goal.returns-then-is_ended
returns-then-is_ended c =
    let text = c.args.text.now in
    let same : joined (lines_of text) ≡ text = joined_lines text ∙ ap (λ (b : Bool). cond b text (text ++ 10 ∷ [])) (sym c.is_ended.ensures ∙ c.if-is_ended.true) in
    subst (λ (bytes : List ℕ). IfOk c.is_report.result (λ (are : Bool). IsTrue are ↔ (bytes ≡ report_text c.args.workload.now c.args.outcome.now))) (sym same) c.is_report.ensures

pub returns : goal.returns
returns c =
    let text = c.args.text.now in
    let ended : c.deref.result.now ≡ text ++ 10 ∷ [] =
    c.deref.ensures.value ∙ c.in_ok-push.ensures.items ∙ ap (λ (bytes : List ℕ). bytes ++ 10 ∷ []) (c.in_ok-extend_from_slice.ensures.items ∙ ap (λ (bytes : List ℕ). bytes ++ text) c.new-ended.ensures.items) in
    let same : joined (lines_of text) ≡ c.deref.result.now = joined_lines text ∙ ap (λ (b : Bool). cond b text (text ++ 10 ∷ [])) (sym c.is_ended.ensures ∙ c.if-is_ended.false) ∙ sym ended in
    subst (λ (bytes : List ℕ). IfOk c.is_report-2.result (λ (are : Bool). IsTrue are ↔ (bytes ≡ report_text c.args.workload.now c.args.outcome.now))) (sym same) c.is_report-2.ensures
