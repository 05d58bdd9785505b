-- What the callers of a reader/writer lock can still do without completing a call.
use Rattle.std.specs.Prelude.{ℕ, ◌+◌, ◌-◌, ◌*◌, List, [], ◌∷◌, ◌++◌, length}
use Rattle.mutex_core.specs.MutexMachine as mutex
use Rattle.mutex_core.specs.EventsLeft.{flight_count}
use Rattle.rw_core.specs.declared.reply.RwReply.{RwReply}
use Rattle.rw_core.specs.declared.reply.RwReply.TheVariants.{Arrived, Tried, Unlocked, Resumed, Left, Still}
use Rattle.rw_core.specs.declared.reply.Arrival.TheVariants as arrival
use Rattle.rw_core.specs.declared.reply.Resumption.TheVariants as resumption
use Rattle.rw_core.specs.declared.reply.Unlocking.TheVariants as unlocking
use Rattle.rw_core.specs.declared.writer.Writer.{Writer}
use Rattle.rw_core.specs.declared.writer.Writer.TheVariants as writer
use Rattle.rw_core.specs.RwMachine.{State}

-- the announced writer, while it waits
abbrev pub waiting_writer : Writer → List ℕ
waiting_writer writer.Nobody = []
waiting_writer (writer.Waiting caller) = caller ∷ []
waiting_writer writer.Holding = []

-- the callers that aren't `Out`, each once: those that wait or have not left yet
abbrev pub waiting : State → List ℕ
waiting s = s.admitted ++ (s.granted ++ (waiting_writer s.writer ++ (s.queue ++ mutex.waiting_by s.inner.flight s.inner.queue)))

-- two for each caller that is `Out`, which may queue, and one for a writer that the inner mutex woke or handed on,
-- which may wait again
abbrev pub events_left : State → ℕ
events_left s = 2 * (s.callers - length (waiting s)) + flight_count s.inner.flight

-- what an answer uses up of it: that by which a caller waits
abbrev pub used_by : RwReply → ℕ
used_by (Arrived arrival.Acquired) = 0
used_by (Arrived arrival.Queued) = 2
used_by (Tried acquired) = 0
used_by (Unlocked unlocking) = 0
used_by (Resumed resumption.Acquired) = 0
used_by (Resumed resumption.Queued) = 1
used_by (Resumed resumption.Requeued) = 1
used_by Left = 0
used_by Still = 0

-- what an answer gives back of it: a writer is in flight, or a caller is `Out` again
abbrev pub given_by : RwReply → ℕ
given_by (Arrived arrival) = 0
given_by (Tried acquired) = 0
given_by (Unlocked unlocking.Done) = 1
given_by (Unlocked (unlocking.Misuse misuse)) = 0
given_by (Resumed resumption.Acquired) = 1
given_by (Resumed resumption.Queued) = 0
given_by (Resumed resumption.Requeued) = 0
given_by Left = 2
given_by Still = 0
