use Rattle.std.proofs.Common.{[], sym, ◌∙◌}
use Rattle.std.proofs.lemmas.Bool.{false≢true}
use Rattle.run_report.specs.ReportText.{report_text}
use Rattle.run_check.proofs.ReportRest.{nothing_behind}
use Rattle.run_check.proofs.report.is_report.Goals as goal

pub returns-in-None : goal.returns-in-None
returns-in-None c = (
  λ no_. absurd (false≢true no_),
  λ same. absurd (c.in-None.ensures [] (same ∙ sym (nothing_behind (report_text c.args.workload.now c.args.outcome.now)))),
)
