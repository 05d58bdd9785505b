-- Which answers give a caller the lock, and which take it away.
use Rattle.std.specs.Prelude.{Bool, true, false, ◌&&◌, not, List}
use Rattle.sync_model.specs.Log.{Entry}
use Rattle.rw_core.specs.declared.event.RwEvent.{RwEvent}
use Rattle.rw_core.specs.declared.event.RwEvent.TheVariants as event
use Rattle.rw_core.specs.declared.reply.RwReply.{RwReply}
use Rattle.rw_core.specs.declared.reply.RwReply.TheVariants.{Arrived, Tried, Unlocked, Resumed, Left, Still}
use Rattle.rw_core.specs.declared.reply.Arrival.TheVariants as arrival
use Rattle.rw_core.specs.declared.reply.Resumption.TheVariants as resumption
use Rattle.rw_core.specs.declared.reply.Unlocking.TheVariants as unlocking

-- what happened at a reader/writer lock: who did what and was answered what, the earliest first
abbrev pub Log : Type 0
Log = List (Entry RwEvent RwReply)

-- whether a reader's event it is, or a writer's
abbrev pub is_read : RwEvent → Bool
is_read event.ReadArrive = true
is_read event.ReadTry = true
is_read event.ReadUnlock = true
is_read (event.WriteArrive _) = false
is_read event.WriteTry = false
is_read (event.WriteWoken _) = false
is_read event.WriteUnlock = false
is_read event.Leave = false

-- the caller has the lock from this answer on. (One that leaves has had it since it was granted or admitted)
abbrev pub is_acquired : RwReply → Bool
is_acquired (Arrived arrival.Acquired) = true
is_acquired (Arrived arrival.Queued) = false
is_acquired (Tried acquired) = acquired
is_acquired (Unlocked _) = false
is_acquired (Resumed resumption.Acquired) = true
is_acquired (Resumed resumption.Queued) = false
is_acquired (Resumed resumption.Requeued) = false
is_acquired Left = false
is_acquired Still = false

-- an unlock that isn't a misuse
abbrev pub is_released : RwReply → Bool
is_released (Arrived _) = false
is_released (Tried _) = false
is_released (Unlocked unlocking.Done) = true
is_released (Unlocked (unlocking.Misuse _)) = false
is_released (Resumed _) = false
is_released Left = false
is_released Still = false

-- a reader, or a writer, acquires the lock
abbrev pub read_acquires : Entry RwEvent RwReply → Bool
read_acquires entry = is_read entry.event && is_acquired entry.reply

abbrev pub write_acquires : Entry RwEvent RwReply → Bool
write_acquires entry = not (is_read entry.event) && is_acquired entry.reply

-- a reader's unlock, or a writer's, that isn't a misuse
abbrev pub read_releases : Entry RwEvent RwReply → Bool
read_releases entry = is_read entry.event && is_released entry.reply

abbrev pub write_releases : Entry RwEvent RwReply → Bool
write_releases entry = not (is_read entry.event) && is_released entry.reply

-- An answer that takes part in an edge of Go's memory model. An unlock that isn't a misuse releases; what completes a
-- lock acquires, a granted or admitted caller's leaving among it.
abbrev pub releases : RwReply → Bool
releases reply = is_released reply

abbrev pub acquires : RwReply → Bool
acquires (Arrived arrival.Acquired) = true
acquires (Arrived arrival.Queued) = false
acquires (Tried acquired) = acquired
acquires (Unlocked _) = false
acquires (Resumed resumption.Acquired) = true
acquires (Resumed resumption.Queued) = false
acquires (Resumed resumption.Requeued) = false
acquires Left = true
acquires Still = false
