use Rattle.run_report.proofs.Told.{report_tells}
use Rattle.run_report.proofs.laws.a_report_tells_what_is_left.Goals as goal

pub returns : goal.returns
returns c plan readable = report_tells plan (c.keys_are_numbered_by_first_appearance.ensures.number plan.scripts) readable
