-- Which events of a pool synchronize before which others, as the documentation of Go's `sync` says: an entry that releases
-- does so before each later one of the same object that acquires. An event that changes nothing does neither.
use Rattle.std.specs.Prelude.{Bool, true, false}
use Rattle.pool_core.specs.declared.pool_event.PoolEvent.{PoolEvent}
use Rattle.pool_core.specs.declared.pool_event.PoolReply.{PoolReply}
use Rattle.pool_core.specs.declared.pool_event.PoolReply.TheVariants as pooled

module _ {X : Type 0} where
  -- a call to Put of an item that is kept synchronizes before the call to Get that returns it
  abbrev pub pool_releases : PoolEvent X → PoolReply X → Bool
  pool_releases event pooled.Kept = true
  pool_releases event (pooled.Dropped item) = false
  pool_releases event (pooled.Item item) = false
  pool_releases event pooled.Nothing = false
  pool_releases event pooled.Swept = false
  pool_releases event pooled.Still = false

  -- a look takes an item
  abbrev pub pool_acquires : PoolEvent X → PoolReply X → Bool
  pool_acquires event (pooled.Item item) = true
  pool_acquires event pooled.Kept = false
  pool_acquires event (pooled.Dropped item) = false
  pool_acquires event pooled.Nothing = false
  pool_acquires event pooled.Swept = false
  pool_acquires event pooled.Still = false
