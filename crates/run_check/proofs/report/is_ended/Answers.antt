use Rattle.std.proofs.Common.{sym}
use Rattle.run_check.proofs.EndedText.{ended_by}
use Rattle.run_check.proofs.report.is_ended.Goals as goal

pub returns-in-Some : goal.returns-in-Some
returns-in-Some c = sym (ended_by c.args.text.now c.in-Some.byte.now c.in-Some.ensures.item.3.0 c.in-Some.ensures.item.1)
