-- What the calls of a pool answer, by what its protocol gives. Such calls give nothing else: `pool_gives` says so.
use Rattle.std.specs.Prelude.{ℕ, Option, Some, None, Result, Ok, Err}
use Rattle.sync_types.specs.declared.misuse.Misuse.{Misuse}
use Rattle.pool_core.specs.declared.pool_event.PoolPut.{PoolPut}
use Rattle.pool_core.specs.declared.pool_event.PoolPut.TheVariants as put
use Rattle.protocols.specs.declared.pool.PoolOutcome.{PoolOutcome}
use Rattle.protocols.specs.declared.pool.PoolOutcome.TheVariants.{Kept, Dropped, Item, Nothing, Swept}

-- what became of the item that was put
abbrev pub put_of : Result PoolOutcome Misuse → PoolPut
put_of (Ok Kept) = put.Kept
put_of (Ok (Dropped item)) = put.Dropped item
put_of (Ok (Item item)) = put.Kept
put_of (Ok Nothing) = put.Kept
put_of (Ok Swept) = put.Kept
put_of (Err misuse) = put.Kept

-- the item that a look took
abbrev pub look_of : Result PoolOutcome Misuse → Option ℕ
look_of (Ok (Item item)) = Some item
look_of (Ok Nothing) = None
look_of (Ok Kept) = None
look_of (Ok (Dropped item)) = None
look_of (Ok Swept) = None
look_of (Err misuse) = None

-- a sweep answers nothing more
abbrev pub sweep_of : Result PoolOutcome Misuse → (Unit {0})
sweep_of given = tt
