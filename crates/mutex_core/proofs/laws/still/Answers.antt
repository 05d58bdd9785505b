use Rattle.mutex_core.proofs.Standing.{made, stays}
use Rattle.mutex_core.proofs.laws.still.Goals as goal

pub returns-clause-made : goal.returns-clause-made
returns-clause-made c = made

pub returns-clause-unmade : goal.returns-clause-unmade
returns-clause-unmade c = stays
