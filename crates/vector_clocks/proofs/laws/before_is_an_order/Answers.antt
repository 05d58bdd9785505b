use Rattle.vector_clocks.proofs.Steps.{before_earlier, chain}
use Rattle.vector_clocks.proofs.laws.before_is_an_order.Goals as goal

pub returns-clause-earlier : goal.returns-clause-earlier
returns-clause-earlier c = before_earlier

pub returns-clause-through : goal.returns-clause-through
returns-clause-through c trace i j k before (path, leads) = chain trace i j path k before leads
