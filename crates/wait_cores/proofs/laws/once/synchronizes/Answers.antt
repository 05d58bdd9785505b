use Rattle.wait_cores.proofs.EdgeLemmas.{once-synchronizes, once-acquires, once-unmoved}
use Rattle.wait_cores.proofs.laws.once.synchronizes.Goals as goal

pub returns-clause-ended : goal.returns-clause-ended
returns-clause-ended g c = once-synchronizes c.logs_go_on.ensures.apart

pub returns-clause-returned : goal.returns-clause-returned
returns-clause-returned g c = once-acquires

pub returns-clause-unmoved : goal.returns-clause-unmoved
returns-clause-unmoved g c = once-unmoved
