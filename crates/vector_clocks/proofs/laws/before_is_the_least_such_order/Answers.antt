use Rattle.vector_clocks.proofs.HandedLemmas.{within_each}
use Rattle.vector_clocks.proofs.laws.before_is_the_least_such_order.Goals as goal

pub returns : goal.returns
returns c = within_each
