use Rattle.pool_core.specs.declared.pool_event.PoolEvent.TheVariants.{Put}
use Rattle.pool_core.specs.PoolMachine.{start}
use Rattle.pool_core.proofs.PoolRoom.{drops_where_full}
use Rattle.pool_core.proofs.laws.drops_where_full.Goals as goal

pub returns : goal.returns
returns c callers room before rest caller item reply below is =
    drops_where_full callers room before caller item reply below
    (c.replies_are_the_machines.ensures (start callers room) before rest caller (Put item) reply is)
