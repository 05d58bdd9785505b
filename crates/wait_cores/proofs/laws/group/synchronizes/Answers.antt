use Rattle.wait_cores.proofs.EdgeLemmas.{group-synchronizes, group-unmoved, group-misused}
use Rattle.wait_cores.proofs.laws.group.synchronizes.Goals as goal

pub returns-clause-unblocked : goal.returns-clause-unblocked
returns-clause-unblocked c = group-synchronizes c.logs_go_on.ensures.apart

pub returns-clause-unmoved : goal.returns-clause-unmoved
returns-clause-unmoved c = group-unmoved

pub returns-clause-misused : goal.returns-clause-misused
returns-clause-misused c = group-misused
