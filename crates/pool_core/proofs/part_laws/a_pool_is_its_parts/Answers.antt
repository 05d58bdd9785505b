use Rattle.pool_core.proofs.PartOfPool.{one_part, other_parts, swept_part}
use Rattle.pool_core.proofs.part_laws.a_pool_is_its_parts.Goals as goal

pub returns-clause-one : goal.returns-clause-one
returns-clause-one c = one_part

pub returns-clause-others : goal.returns-clause-others
returns-clause-others c = other_parts

pub returns-clause-sweep : goal.returns-clause-sweep
returns-clause-sweep c = swept_part
