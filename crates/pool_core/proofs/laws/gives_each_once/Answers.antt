use Rattle.pool_core.proofs.PoolOrigins.{gives_each_once}
use Rattle.pool_core.proofs.laws.gives_each_once.Goals as goal

pub returns : goal.returns
returns c = gives_each_once
