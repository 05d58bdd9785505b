-- What is said of the logs of one part, and of a pool as its parts.
use Rattle.std.specs.Prelude.{ℕ, ◌≡◌, Option, Some, None, slice_get}
use Rattle.sync_model.specs.Log.{after, Follows}
use Rattle.pool_core.specs.declared.pool_event.PoolEvent.{PoolEvent}
use Rattle.pool_core.specs.declared.pool_event.PoolEvent.TheVariants.{Put, LookOwn, LookOther, LookVictim, Sweep}
use Rattle.pool_core.specs.PartMachine.{PartState, part_start, part_next}
use Rattle.pool_core.specs.PoolLaws.{Log}
use Rattle.pool_core.specs.PoolMachine.{PoolState}

module _ {X : Type 0} where
  -- the log is one of a part with so much room, from its start on
  abbrev pub IsPartLog : ℕ → Log X → Type 0
  IsPartLog room log = Follows part_next (part_start room) log

  -- the part after it
  abbrev pub part_after : ℕ → Log X → PartState X
  part_after room log = after part_next (part_start room) log

  -- the part that a caller's event is about; a sweep is about all
  abbrev pub about : ℕ → PoolEvent X → Option ℕ
  about caller (Put item) = Some caller
  about caller LookOwn = Some caller
  about caller (LookOther part) = Some part
  about caller (LookVictim part) = Some part
  about caller Sweep = None

  -- the pool has this part
  abbrev pub HasPart : PoolState X → ℕ → PartState X → Type 0
  HasPart pool part own = (slice_get pool.primary part ≡ Some own.primary) × (slice_get pool.victims part ≡ Some own.victims)
