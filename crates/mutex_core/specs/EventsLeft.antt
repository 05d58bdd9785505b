-- What the callers of a mutex can still do without completing a call.
use Rattle.std.specs.Prelude.{ℕ, ◌+◌, ◌-◌, ◌*◌, length}
use Rattle.mutex_core.specs.declared.reply.MutexReply.{MutexReply}
use Rattle.mutex_core.specs.declared.reply.MutexReply.TheVariants.{Arrived, Tried, Unlocked, Resumed, Still}
use Rattle.mutex_core.specs.declared.reply.Arrival.TheVariants as arrival
use Rattle.mutex_core.specs.declared.reply.Resumption.TheVariants as resumption
use Rattle.mutex_core.specs.declared.reply.Unlocking.TheVariants as unlocking
use Rattle.mutex_core.specs.declared.waiter.Flight.{Flight}
use Rattle.mutex_core.specs.declared.waiter.Flight.TheVariants as flight
use Rattle.mutex_core.specs.MutexMachine.{State, waiting_by}

-- how many callers are in flight
abbrev pub flight_count : Flight → ℕ
flight_count flight.Nobody = 0
flight_count (flight.Woken waiter) = 1
flight_count flight.Handed = 1

-- two for each caller that doesn't wait, which may queue, and one for a caller in flight, which may queue again
abbrev pub events_left : State → ℕ
events_left s = 2 * (s.callers - length (waiting_by s.flight s.queue)) + flight_count s.flight

-- what an answer uses up of it: that by which a caller waits
abbrev pub used_by : MutexReply → ℕ
used_by (Arrived arrival.Acquired) = 0
used_by (Arrived (arrival.Queued ticket)) = 2
used_by (Tried acquired) = 0
used_by (Unlocked unlocking) = 0
used_by (Resumed resumption.Acquired) = 0
used_by (Resumed resumption.Requeued) = 1
used_by Still = 0

-- what an answer gives back of it: a waiter is in flight, or waits no more
abbrev pub given_by : MutexReply → ℕ
given_by (Arrived arrival) = 0
given_by (Tried acquired) = 0
given_by (Unlocked unlocking.Free) = 0
given_by (Unlocked (unlocking.Woke ticket)) = 1
given_by (Unlocked (unlocking.Handed ticket)) = 1
given_by (Unlocked (unlocking.Misuse misuse)) = 0
given_by (Resumed resumption.Acquired) = 1
given_by (Resumed resumption.Requeued) = 0
given_by Still = 0
