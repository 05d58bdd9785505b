use Rattle.race_clocks.proofs.Quiet.{takes_nothing}
use Rattle.race_clocks.proofs.laws.quiet.these_take_in_nothing.Goals as goal

pub returns : goal.returns
returns c = takes_nothing
