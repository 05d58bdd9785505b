use Rattle.std.proofs.Common.{[], arith}
use Rattle.run_report.proofs.WriteCounts.{writes_after, writes_both}
use Rattle.run_report.proofs.Writing.{appends_more, append_known-nil, front_after, front_behind}
use Rattle.run_report.proofs.laws.what_is_written_adds_up.Goals as goal

pub returns-clause-nothing : goal.returns-clause-nothing
returns-clause-nothing c old = append_known-nil old

pub returns-clause-both : goal.returns-clause-both
returns-clause-both c old mid new text behind wrote more = appends_more old mid new text behind wrote more

pub returns-clause-part : goal.returns-clause-part
returns-clause-part c old new text behind cut = front_behind old old new [] text behind (append_known-nil old) cut

pub returns-clause-further : goal.returns-clause-further
returns-clause-further c old mid new text behind wrote cut = front_after old mid new text behind wrote cut

pub returns-clause-writes : goal.returns-clause-writes
returns-clause-writes c before mid now times more wrote also = writes_both before mid now times more wrote also

pub returns-clause-some : goal.returns-clause-some
returns-clause-some c before now times more cut = (cut.0, omega (arith, cut.1), cut.2)

pub returns-clause-up_to : goal.returns-clause-up_to
returns-clause-up_to c before mid now times more wrote cut = writes_after before mid now times more wrote cut
