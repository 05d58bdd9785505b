use Rattle.run_report.proofs.NoLines.{has_no_line}
use Rattle.run_report.proofs.laws.who_has_no_reply_has_no_line.Goals as goal

pub returns : goal.returns
returns c plan replies ends text shown worker position tail readable count none is = has_no_line plan readable replies ends text shown worker position tail count none is
