use Rattle.std.proofs.Common.{◌++◌, ap, ◌∙◌, subst}
use Rattle.run_report.specs.ReportText.{ends_text, workers_text}
use Rattle.run_check.specs.Rest.{IsRest}
use Rattle.run_check.proofs.ReportRest.{rest_after}
use Rattle.run_check.proofs.report.behind_report.Goals as goal

pub returns-in-Some : goal.returns-in-Some
returns-in-Some c =
    let plan = c.args.workload.now in
    let cut = c.in-Some.ensures.rest ∙ ap (λ rs. workers_text plan 0 plan.scripts rs ++ c.in-Some.rest.now) c.as_slice.ensures in
    let ends = ap (ends_text plan) c.as_slice-in-Some.ensures in
    rw c.in-Done.is (rest_after c.args.bytes.now _ c.in-Some.rest.now _ c.behind_ends.result cut (subst (λ text. IsRest c.in-Some.rest.now text c.behind_ends.result) ends c.behind_ends.ensures))
