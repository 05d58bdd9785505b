use Rattle.race_clocks.proofs.Order.{own_before, handed_before}
use Rattle.race_clocks.proofs.laws.order.turns_are_ordered.Goals as goal

pub returns-clause-own : goal.returns-clause-own
returns-clause-own c = own_before

pub returns-clause-handed : goal.returns-clause-handed
returns-clause-handed c = handed_before
