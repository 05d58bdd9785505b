use Rattle.race_clocks.proofs.Ordered.{start_row}
use Rattle.race_clocks.proofs.laws.waits.a_go_is_before_the_first_item_of_its_worker.Goals as goal

pub returns : goal.returns
returns c plan trace i j starts place w v d e earlier one two start none = start_row plan trace i j starts place w v d e earlier one two start none
