use Rattle.std.proofs.Common.{arith}
use Rattle.gosync_call.proofs.Counts.{no_rise, none_failed, which_is_last}
use Rattle.gosync_call.proofs.laws.a_count_that_rose_is_higher.Goals as goal

pub returns-clause-reading : goal.returns-clause-reading
returns-clause-reading c opens opens_now reads reads_now failed first second = which_is_last opens opens_now reads reads_now failed first second

pub returns-clause-unfailed : goal.returns-clause-unfailed
returns-clause-unfailed c opens reads writes first second third = (λ failed. none_failed opens reads first second failed, λ rose. no_rise writes writes rose (omega arith) third)
