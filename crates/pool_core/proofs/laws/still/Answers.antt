use Rattle.pool_core.proofs.PoolStill.{pool-made, pool-unmade}
use Rattle.pool_core.proofs.laws.still.Goals as goal

pub returns-clause-made : goal.returns-clause-made
returns-clause-made c = pool-made

pub returns-clause-unmade : goal.returns-clause-unmade
returns-clause-unmade c = pool-unmade
