-- One part of a pool as a machine of its own: the caller's part in the primary generation, and its part in that of the victims. A pool may be made of such machines, one for each caller.
use Rattle.std.specs.Prelude.{ℕ, ◌==◌, if◌then◌else◌}
use Rattle.pool_core.specs.declared.pool_event.PoolEvent.{PoolEvent}
use Rattle.pool_core.specs.declared.pool_event.PoolEvent.TheVariants.{Put, LookOwn, LookOther, LookVictim, Sweep}
use Rattle.pool_core.specs.declared.pool_event.PoolReply.{PoolReply}
use Rattle.pool_core.specs.declared.pool_event.PoolReply.TheVariants.{Swept}
use Rattle.pool_core.specs.PoolParts.{PoolPart, empty, emptied, put_in, take_own, take_tail, take_victim}

pub record PartState (X : Type 0) : Type 0 where
  pub primary : PoolPart X
  pub victims : PoolPart X

module _ {X : Type 0} where
  -- no items, and so much room in each generation
  abbrev pub part_start : ℕ → PartState X
  part_start room = record { primary = empty room; victims = empty room }

  -- what becomes of the part in one generation, with the reply
  abbrev pub in_primary : PoolPart X × PoolReply X → PartState X → PartState X × PoolReply X
  in_primary changed state = (record state { primary = changed.0 }, changed.1)

  abbrev pub in_victims : PoolPart X × PoolReply X → PartState X → PartState X × PoolReply X
  in_victims changed state = (record state { victims = changed.0 }, changed.1)

  -- What each event about this part does, by whoever makes it: a put and a look at the own part are its caller's. Which part it is doesn't matter, but that a look at the victims takes the private item where its part is the caller's own
  abbrev pub part_next : PartState X → ℕ → PoolEvent X → PartState X × PoolReply X
  part_next state caller (Put item) = in_primary (put_in state.primary item) state
  part_next state caller LookOwn = in_primary (take_own state.primary) state
  part_next state caller (LookOther part) = in_primary (take_tail state.primary) state
  part_next state caller (LookVictim part) = in_victims ((if part == caller then take_victim else take_tail) state.victims) state
  part_next state caller Sweep = (record { primary = emptied state.victims; victims = state.primary }, Swept)
