use Rattle.race_clocks.proofs.Ordered.{weight_row}
use Rattle.race_clocks.proofs.laws.waits.a_release_is_before_each_later_weight.Goals as goal

pub returns : goal.returns
returns c plan trace i j o w v weight d e earlier one two gives had = weight_row plan trace i j o w v d e earlier one two weight gives had
