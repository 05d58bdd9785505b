use Rattle.mutex_core.proofs.Order.{try_would, try_does}
use Rattle.mutex_core.proofs.laws.tries_as_it_would_arrive.Goals as goal

pub returns-clause-acquires : goal.returns-clause-acquires
returns-clause-acquires c state caller now = ((λ is. (try_would state caller now is).0), try_does state caller now)

pub returns-clause-leaves : goal.returns-clause-leaves
returns-clause-leaves c state caller now is = (try_would state caller now is).1
