use Rattle.gosync_call.proofs.Statuses.{written_whole}
use Rattle.gosync_call.proofs.laws.statuses.a_line_is_written_whole_without_a_fault.Goals as goal

pub returns : goal.returns
returns c old new before now line writes stands short = written_whole old new before now line writes stands short
