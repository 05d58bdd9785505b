use Rattle.race_clocks.proofs.Order.{within_each}
use Rattle.race_clocks.proofs.laws.order.before_is_the_least_such_order.Goals as goal

pub returns : goal.returns
returns c = within_each
