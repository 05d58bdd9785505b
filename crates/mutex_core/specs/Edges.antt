-- Which answers give a caller the mutex, and which take it away. After Go's memory model, an unlock
-- that takes it away is synchronized before each later lock that gives it.
use Rattle.std.specs.Prelude.{Bool, true, false, List}
use Rattle.sync_model.specs.Log.{Entry}
use Rattle.mutex_core.specs.declared.event.MutexEvent.{MutexEvent}
use Rattle.mutex_core.specs.declared.reply.MutexReply.{MutexReply}
use Rattle.mutex_core.specs.declared.reply.MutexReply.TheVariants.{Arrived, Tried, Unlocked, Resumed, Still}
use Rattle.mutex_core.specs.declared.reply.Arrival.TheVariants as arrival
use Rattle.mutex_core.specs.declared.reply.Resumption.TheVariants as resumption
use Rattle.mutex_core.specs.declared.reply.Unlocking.TheVariants as unlocking

-- what happened at a mutex: who did what and was answered what, the earliest first
abbrev pub Log : Type 0
Log = List (Entry MutexEvent MutexReply)

-- the caller has the mutex from this answer on
abbrev pub acquires : MutexReply → Bool
acquires (Arrived arrival.Acquired) = true
acquires (Arrived (arrival.Queued _)) = false
acquires (Tried acquired) = acquired
acquires (Unlocked _) = false
acquires (Resumed resumption.Acquired) = true
acquires (Resumed resumption.Requeued) = false
acquires Still = false

-- nobody has the mutex from this answer on
abbrev pub releases : MutexReply → Bool
releases (Arrived _) = false
releases (Tried _) = false
releases (Unlocked unlocking.Free) = true
releases (Unlocked (unlocking.Woke _)) = true
releases (Unlocked (unlocking.Handed _)) = true
releases (Unlocked (unlocking.Misuse _)) = false
releases (Resumed _) = false
releases Still = false
