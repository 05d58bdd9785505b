use Rattle.mutex_core.proofs.Order.{next-queues}
use Rattle.mutex_core.proofs.laws.first_in_first_out.Goals as goal

pub returns : goal.returns
returns c = next-queues
