use Rattle.race_clocks.proofs.Quiet.{hands_nothing}
use Rattle.race_clocks.proofs.laws.quiet.these_hand_on_nothing.Goals as goal

pub returns : goal.returns
returns c = hands_nothing
