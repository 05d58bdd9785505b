use Rattle.race_clocks.proofs.Ordered.{once_row}
use Rattle.race_clocks.proofs.laws.waits.the_end_of_a_function_is_before_each_later_return.Goals as goal

pub returns : goal.returns
returns c plan trace i j o w v d e earlier one two ends back = once_row plan trace i j o w v d e earlier one two ends back
