use Rattle.run_check.proofs.ToldPlain.{plain_explains}
use Rattle.run_check.proofs.completeness.what_lines_leave_out_of_entries_decides_nothing.Goals as goal

pub returns : goal.returns
returns c plan outcome r explains = (plain_explains c.a_spelling_is_blind.ensures.lines plan outcome r explains).0
