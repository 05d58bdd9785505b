use Rattle.race_clocks.proofs.Ordered.{notice_row}
use Rattle.race_clocks.proofs.laws.waits.a_notice_is_before_the_leaving.Goals as goal

pub returns : goal.returns
returns c plan trace i j o w v d e earlier one two waits notified leaves = notice_row plan trace i j o w v d e earlier one two waits notified leaves
