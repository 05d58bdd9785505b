use Rattle.race_clocks.proofs.Order.{before_earlier, through}
use Rattle.race_clocks.proofs.laws.order.before_is_an_order.Goals as goal

pub returns-clause-earlier : goal.returns-clause-earlier
returns-clause-earlier c = before_earlier

pub returns-clause-through : goal.returns-clause-through
returns-clause-through c = through
