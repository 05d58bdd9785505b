use Rattle.pool_core.proofs.PartLogs.{part_gives_each_once}
use Rattle.pool_core.proofs.part_laws.a_part_gives_each_once.Goals as goal

pub returns : goal.returns
returns c = part_gives_each_once
