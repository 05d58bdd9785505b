-- A part of a pool: where a put goes, and which item a look takes.
use Rattle.std.specs.Prelude.{ℕ, ◌-◌, nat_lt, if◌then◌else◌, List, [], ◌∷◌, length, take, slice_get, Option, Some, None}
use Rattle.pool_core.specs.declared.pool_event.PoolPut.{PoolPut}
use Rattle.pool_core.specs.declared.pool_event.PoolPut.TheVariants as puts
use Rattle.pool_core.specs.declared.pool_event.PoolReply.{PoolReply}
use Rattle.pool_core.specs.declared.pool_event.PoolReply.TheVariants.{Kept, Dropped, Item, Nothing}

-- a private item, and at most `room` shared ones, the head first
pub record PoolPart (X : Type 0) : Type 0 where
  pub room : ℕ
  pub private : Option X
  pub shared : List X

module _ {X : Type 0} where
  -- no item, and this much room
  abbrev pub empty : ℕ → PoolPart X
  empty room = record { room = room; private = None; shared = [] }

  -- all items are removed
  abbrev pub emptied : PoolPart X → PoolPart X
  emptied part = empty part.room

  -- an item goes to the private place, else to the head of the shared list, else nowhere
  abbrev pub put_beside : Option X → PoolPart X → X → PoolPart X × PoolReply X
  put_beside None part item = (record part { private = Some item }, Kept)
  put_beside (Some private) part item = if nat_lt (length part.shared) part.room then (record part { shared = item ∷ part.shared }, Kept) else (part, Dropped item)

  abbrev pub put_in : PoolPart X → X → PoolPart X × PoolReply X
  put_in part item = put_beside part.private part item

  -- the head of the shared list
  abbrev pub head_of : List X → PoolPart X → PoolPart X × PoolReply X
  head_of (item ∷ rest) part = (record part { shared = rest }, Item item)
  head_of [] part = (part, Nothing)

  -- the tail of the shared list
  abbrev pub tail_of : Option X → PoolPart X → PoolPart X × PoolReply X
  tail_of (Some item) part = (record part { shared = take (length part.shared - 1) part.shared }, Item item)
  tail_of None part = (part, Nothing)

  abbrev pub take_tail : PoolPart X → PoolPart X × PoolReply X
  take_tail part = tail_of (slice_get part.shared (length part.shared - 1)) part

  -- the private item, where there is one, else what `other` takes
  abbrev pub private_or : Option X → (PoolPart X → PoolPart X × PoolReply X) → PoolPart X → PoolPart X × PoolReply X
  private_or (Some item) other part = (record part { private = None }, Item item)
  private_or None other part = other part

  -- in the own part: the private item, else the head of the shared list
  abbrev pub take_own : PoolPart X → PoolPart X × PoolReply X
  take_own part = private_or part.private (λ p. head_of p.shared p) part

  -- in the own part among the victims: the private item, else the tail of the shared list
  abbrev pub take_victim : PoolPart X → PoolPart X × PoolReply X
  take_victim part = private_or part.private take_tail part

-- the machine's replies that the answers of the calls are
abbrev pub reply_of_put : PoolPut → PoolReply ℕ
reply_of_put puts.Kept = Kept
reply_of_put (puts.Dropped item) = Dropped item

abbrev pub reply_of_look : Option ℕ → PoolReply ℕ
reply_of_look (Some item) = Item item
reply_of_look None = Nothing
