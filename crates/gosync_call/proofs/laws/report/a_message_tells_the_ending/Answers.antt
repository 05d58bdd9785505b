use Rattle.gosync_call.proofs.Endings.{message_tells}
use Rattle.gosync_call.proofs.laws.report.a_message_tells_the_ending.Goals as goal

pub returns : goal.returns
returns c plan readable = message_tells plan (c.a_report_tells_what_is_left.ensures plan readable)
