use Rattle.race_clocks.proofs.Ordered.{put_row}
use Rattle.race_clocks.proofs.laws.pools.a_put_is_before_the_look_that_takes_its_item.Goals as goal

pub returns : goal.returns
returns c plan trace i j o w v value number d e earlier one two puts is takes = put_row plan trace i j o w v d e earlier one two value number puts is takes
