use Rattle.pool_core.specs.declared.pool_event.PoolEvent.TheVariants.{Put}
use Rattle.pool_core.specs.PartMachine.{part_start}
use Rattle.pool_core.proofs.PartLogs.{part_drops}
use Rattle.pool_core.proofs.part_laws.a_part_drops_where_full.Goals as goal

pub returns : goal.returns
returns c room before rest caller item reply is =
    part_drops room before caller item reply (c.replies_are_the_machines.ensures (part_start room) before rest caller (Put item) reply is)
