-- How an event moves the callers of the lock from place to place.
use Rattle.std.specs.Prelude.{◌≡◌, ◌⊎◌}
use Rattle.rw_core.specs.declared.event.RwEvent.{RwEvent}
use Rattle.rw_core.specs.declared.event.RwEvent.TheVariants as event
use Rattle.rw_core.specs.declared.place.Place.{Place}
use Rattle.rw_core.specs.declared.place.Place.TheVariants as place
use Rattle.rw_core.specs.declared.reply.RwReply.{RwReply}
use Rattle.rw_core.specs.declared.reply.RwReply.TheVariants.{Arrived, Tried, Unlocked, Resumed, Left, Still}
use Rattle.rw_core.specs.declared.reply.Arrival.TheVariants as arrival
use Rattle.rw_core.specs.declared.reply.Resumption.TheVariants as resumption

-- where another's event may move a caller: a writer's unlock tells a writer in the queue to go on, and admits the readers that wait; the last
-- reader's grants the lock to the announced writer; nothing else moves anybody
abbrev pub MovesOther : RwEvent → Place → Place → Type 0
MovesOther event.WriteUnlock place.Queued to = (to ≡ place.Queued) ⊎ ((to ≡ place.Woken) ⊎ ((to ≡ place.Handed) ⊎ (to ≡ place.Admitted)))
MovesOther event.ReadUnlock place.Waiting to = (to ≡ place.Waiting) ⊎ (to ≡ place.Granted)
MovesOther event at to = to ≡ at

-- where a caller's own event moves it, by the answer. Of an unlock by one that waits nothing is said
abbrev pub MovesOwn : RwReply → Place → Place → Type 0
MovesOwn (Arrived arrival.Acquired) at to = at ≡ place.Out → to ≡ place.Out
MovesOwn (Arrived arrival.Queued) at to = (to ≡ place.Queued) ⊎ (to ≡ place.Waiting)
MovesOwn (Tried acquired) at to = at ≡ place.Out → to ≡ place.Out
MovesOwn (Unlocked unlocking) at to = at ≡ place.Out → to ≡ place.Out
MovesOwn (Resumed resumption.Acquired) at to = to ≡ place.Out
MovesOwn (Resumed resumption.Queued) at to = to ≡ place.Waiting
MovesOwn (Resumed resumption.Requeued) at to = to ≡ place.Queued
MovesOwn Left at to = to ≡ place.Out
MovesOwn Still at to = to ≡ at
