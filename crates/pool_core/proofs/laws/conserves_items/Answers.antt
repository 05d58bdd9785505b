use Rattle.pool_core.proofs.PoolCounts.{conserves_items}
use Rattle.pool_core.proofs.laws.conserves_items.Goals as goal

pub returns : goal.returns
returns c callers room test log h = conserves_items test callers room log h
