-- The machine of `sync.Pool`, whose documentation says that an item may be removed at any time without notification. Here
-- nothing is removed but by a sweep, at the second one after its put.
use Rattle.std.specs.Prelude.{ℕ, ◌==◌, nat_lt, if◌then◌else◌, List, length, map, replicate, slice_get, slice_set, Option, Some, None, option_map}
use Rattle.pool_core.specs.declared.pool_event.PoolEvent.{PoolEvent}
use Rattle.pool_core.specs.declared.pool_event.PoolEvent.TheVariants.{Put, LookOwn, LookOther, LookVictim, Sweep}
use Rattle.pool_core.specs.declared.pool_event.PoolReply.{PoolReply}
use Rattle.pool_core.specs.declared.pool_event.PoolReply.TheVariants.{Swept, Still}
use Rattle.pool_core.specs.PoolParts.{PoolPart, empty, emptied, put_in, take_own, take_tail, take_victim}

-- each caller's part in the primary generation, and its part in that of the victims
pub record PoolState (X : Type 0) : Type 0 where
  pub primary : List (PoolPart X)
  pub victims : List (PoolPart X)

module _ {X : Type 0} where
  -- no part has an item, and each has this much room
  abbrev pub start : ℕ → ℕ → PoolState X
  start callers room = record { primary = replicate callers (empty room); victims = replicate callers (empty room) }

  -- how many callers, and so how many parts, the pool has
  abbrev pub callers_of : PoolState X → ℕ
  callers_of state = length state.primary

  -- what one part of the primary generation becomes, with the reply; where there is no such part nothing changes
  abbrev pub with_primary : Option (PoolPart X × PoolReply X) → PoolState X → ℕ → PoolState X × PoolReply X
  with_primary (Some changed) state part = (record state { primary = slice_set state.primary part changed.0 }, changed.1)
  with_primary None state part = (state, Still)

  -- the same among the victims
  abbrev pub with_victims : Option (PoolPart X × PoolReply X) → PoolState X → ℕ → PoolState X × PoolReply X
  with_victims (Some changed) state part = (record state { victims = slice_set state.victims part changed.0 }, changed.1)
  with_victims None state part = (state, Still)

  -- what each event of one of the callers does. The generations change places in a sweep, once the victims are removed
  abbrev pub made : PoolState X → ℕ → PoolEvent X → PoolState X × PoolReply X
  made state caller (Put item) = with_primary (option_map (λ own. put_in own item) (slice_get state.primary caller)) state caller
  made state caller LookOwn = with_primary (option_map take_own (slice_get state.primary caller)) state caller
  made state caller (LookOther part) = with_primary (option_map take_tail (slice_get state.primary part)) state part
  made state caller (LookVictim part) = with_victims (option_map (if part == caller then take_victim else take_tail) (slice_get state.victims part)) state part
  made state caller Sweep = (record { primary = map emptied state.victims; victims = state.primary }, Swept)

  -- the state and the reply after an event. A caller that isn't one of the pool's changes nothing
  abbrev pub next : PoolState X → ℕ → PoolEvent X → PoolState X × PoolReply X
  next state caller event = if nat_lt caller (callers_of state) then made state caller event else (state, Still)
