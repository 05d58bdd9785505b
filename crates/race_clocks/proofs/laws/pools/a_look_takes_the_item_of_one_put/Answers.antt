use Rattle.race_clocks.proofs.Puts.{one_put}
use Rattle.race_clocks.proofs.laws.pools.a_look_takes_the_item_of_one_put.Goals as goal

pub returns : goal.returns
returns c = one_put
