use Rattle.pool_core.proofs.EdgeLemmas.{put-releases, look-acquires, pool-unmoved}
use Rattle.pool_core.proofs.laws.synchronizes.Goals as goal

pub returns-clause-put : goal.returns-clause-put
returns-clause-put c = λ e. put-releases e.event e.reply

pub returns-clause-taken : goal.returns-clause-taken
returns-clause-taken c = λ e. look-acquires e.event e.reply

pub returns-clause-unmoved : goal.returns-clause-unmoved
returns-clause-unmoved c = pool-unmoved
