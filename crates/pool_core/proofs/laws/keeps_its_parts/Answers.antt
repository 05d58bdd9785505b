use Rattle.pool_core.proofs.PoolParts.{same-parts}
use Rattle.pool_core.proofs.laws.keeps_its_parts.Goals as goal

pub returns : goal.returns
returns c = same-parts
