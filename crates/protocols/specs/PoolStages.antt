-- The calls of a pool that are one event each. A pool's `get` is a row of looks, up to the first that takes an item.
use Rattle.std.specs.Prelude.{◌≡◌, ℕ, nat_lt, Bool, true, false, Option, None, Result, Ok, Err}
use Rattle.sync_types.specs.declared.misuse.Misuse.{Misuse}
use Rattle.pool_core.specs.declared.pool_event.PoolEvent.{PoolEvent}
use Rattle.pool_core.specs.declared.pool_event.PoolEvent.TheVariants as event
use Rattle.pool_core.specs.declared.pool_event.PoolReply.{PoolReply}
use Rattle.pool_core.specs.declared.pool_event.PoolReply.TheVariants as reply
use Rattle.pool_core.specs.PartMachine.{PartState, part_start}
use Rattle.pool_core.specs.PoolMachine.{PoolState, start, callers_of}
use Rattle.protocols.specs.declared.step.Step.{Step}
use Rattle.protocols.specs.declared.step.Step.TheVariants.{Finished, Never}
use Rattle.protocols.specs.declared.pool.PoolOutcome.{PoolOutcome}
use Rattle.protocols.specs.declared.pool.PoolOutcome.TheVariants.{Kept, Dropped, Item, Nothing, Swept}
use Rattle.protocols.specs.declared.pool.PoolStage.{PoolStage}
use Rattle.protocols.specs.declared.pool.PoolStage.TheVariants as stage

-- the event that a stage makes
abbrev pub pool_event : PoolStage → ℕ → PoolEvent ℕ
pool_event (stage.Put item) now = event.Put item
pool_event stage.LookOwn now = event.LookOwn
pool_event (stage.LookOther part) now = event.LookOther part
pool_event (stage.LookVictim part) now = event.LookVictim part
pool_event stage.Sweep now = event.Sweep

-- an item that is put is kept, or dropped where the part is full
abbrev pub put_meaning : PoolReply ℕ → Step PoolStage PoolOutcome
put_meaning reply.Kept = Finished Kept
put_meaning (reply.Dropped item) = Finished (Dropped item)
put_meaning (reply.Item item) = Never
put_meaning reply.Nothing = Never
put_meaning reply.Swept = Never
put_meaning reply.Still = Never

-- a look takes an item, or finds nothing
abbrev pub look_meaning : PoolReply ℕ → Step PoolStage PoolOutcome
look_meaning (reply.Item item) = Finished (Item item)
look_meaning reply.Nothing = Finished Nothing
look_meaning reply.Kept = Never
look_meaning (reply.Dropped item) = Never
look_meaning reply.Swept = Never
look_meaning reply.Still = Never

abbrev pub sweep_meaning : PoolReply ℕ → Step PoolStage PoolOutcome
sweep_meaning reply.Swept = Finished Swept
sweep_meaning reply.Kept = Never
sweep_meaning (reply.Dropped item) = Never
sweep_meaning (reply.Item item) = Never
sweep_meaning reply.Nothing = Never
sweep_meaning reply.Still = Never

abbrev pub pool_meaning : PoolStage → PoolReply ℕ → Step PoolStage PoolOutcome
pool_meaning (stage.Put item) reply = put_meaning reply
pool_meaning stage.LookOwn reply = look_meaning reply
pool_meaning (stage.LookOther part) reply = look_meaning reply
pool_meaning (stage.LookVictim part) reply = look_meaning reply
pool_meaning stage.Sweep reply = sweep_meaning reply

-- nobody waits at a pool
abbrev pub pool_stands : (Unit {0}) → PoolEvent ℕ → PoolReply ℕ → (Unit {0})
pool_stands stand event reply = tt

-- a look is at a part that is there
abbrev pub pool_allows : PoolState ℕ → (Unit {0}) → PoolStage → Bool
pool_allows start stand (stage.Put item) = true
pool_allows start stand stage.LookOwn = true
pool_allows start stand (stage.LookOther part) = nat_lt part (callers_of start)
pool_allows start stand (stage.LookVictim part) = nat_lt part (callers_of start)
pool_allows start stand stage.Sweep = true

-- what a put, a look and a sweep may give; none is a misuse
abbrev pub put_gives : Result PoolOutcome Misuse → Bool
put_gives (Ok Kept) = true
put_gives (Ok (Dropped item)) = true
put_gives (Ok (Item item)) = false
put_gives (Ok Nothing) = false
put_gives (Ok Swept) = false
put_gives (Err misuse) = false

abbrev pub look_gives : Result PoolOutcome Misuse → Bool
look_gives (Ok (Item item)) = true
look_gives (Ok Nothing) = true
look_gives (Ok Kept) = false
look_gives (Ok (Dropped item)) = false
look_gives (Ok Swept) = false
look_gives (Err misuse) = false

abbrev pub sweep_gives : Result PoolOutcome Misuse → Bool
sweep_gives (Ok Swept) = true
sweep_gives (Ok Kept) = false
sweep_gives (Ok (Dropped item)) = false
sweep_gives (Ok (Item item)) = false
sweep_gives (Ok Nothing) = false
sweep_gives (Err misuse) = false

abbrev pub pool_gives : PoolStage → Result PoolOutcome Misuse → Bool
pool_gives (stage.Put item) given = put_gives given
pool_gives stage.LookOwn given = look_gives given
pool_gives (stage.LookOther part) given = look_gives given
pool_gives (stage.LookVictim part) given = look_gives given
pool_gives stage.Sweep given = sweep_gives given

-- what the put knew is known to the look that takes its item
abbrev pub pool_gains : PoolStage → PoolOutcome → Bool
pool_gains stage (Item item) = true
pool_gains stage Kept = false
pool_gains stage (Dropped item) = false
pool_gains stage Nothing = false
pool_gains stage Swept = false

-- it begins without items, with room for so many in each part
abbrev pub PoolBegins : ℕ → PoolState ℕ → Type 0
PoolBegins callers state = (room : ℕ) × (state ≡ start callers room)

-- the same of one part: any caller may look at it
abbrev pub PartBegins : ℕ → PartState ℕ → Type 0
PartBegins callers state = (room : ℕ) × (state ≡ part_start room)

-- no event carries a moment
abbrev pub pool_moment : PoolEvent ℕ → Option ℕ
pool_moment event = None
