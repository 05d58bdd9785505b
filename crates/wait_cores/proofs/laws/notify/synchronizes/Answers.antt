use Rattle.wait_cores.proofs.EdgeLemmas.{cond-synchronizes, cond-unmoved}
use Rattle.wait_cores.proofs.laws.notify.synchronizes.Goals as goal

pub returns-clause-unblocked : goal.returns-clause-unblocked
returns-clause-unblocked c = cond-synchronizes c.logs_go_on.ensures.apart

pub returns-clause-unmoved : goal.returns-clause-unmoved
returns-clause-unmoved c = cond-unmoved
