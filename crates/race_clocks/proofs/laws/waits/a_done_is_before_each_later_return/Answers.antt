use Rattle.race_clocks.proofs.Ordered.{group_row}
use Rattle.race_clocks.proofs.laws.waits.a_done_is_before_each_later_return.Goals as goal

pub returns : goal.returns
returns c plan trace i j o w v n d e earlier one two adds back = group_row plan trace i j o w v d e earlier one two n adds back
