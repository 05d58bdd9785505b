-- Which answers an event may get, and what a caller's own answers say of where it stands.
use Rattle.std.specs.Prelude.{ℕ, Bool, true, false, ◌==◌, if◌then◌else◌, [], ◌∷◌}
use Rattle.mutex_core.specs.declared.event.MutexEvent.{MutexEvent}
use Rattle.mutex_core.specs.declared.event.MutexEvent.TheVariants as event
use Rattle.mutex_core.specs.declared.reply.MutexReply.{MutexReply}
use Rattle.mutex_core.specs.declared.reply.MutexReply.TheVariants.{Arrived, Tried, Unlocked, Resumed, Still}
use Rattle.mutex_core.specs.declared.reply.Arrival.TheVariants as arrival
use Rattle.mutex_core.specs.declared.reply.Resumption.TheVariants as resumption
use Rattle.mutex_core.specs.Edges.{Log}

-- whether it is an answer to this event, and not `Still`
abbrev pub is_answer : MutexEvent → MutexReply → Bool
is_answer (event.Arrive now) (Arrived _) = true
is_answer (event.Arrive now) _ = false
is_answer event.Try (Tried _) = true
is_answer event.Try _ = false
is_answer event.Unlock (Unlocked _) = true
is_answer event.Unlock _ = false
is_answer (event.Woken now) (Resumed _) = true
is_answer (event.Woken now) _ = false

-- whether a caller waits after an answer of its own
abbrev pub waits_after : Bool → MutexReply → Bool
waits_after waits (Arrived arrival.Acquired) = waits
waits_after waits (Arrived (arrival.Queued _)) = true
waits_after waits (Tried _) = waits
waits_after waits (Unlocked _) = waits
waits_after waits (Resumed resumption.Acquired) = false
waits_after waits (Resumed resumption.Requeued) = waits
waits_after waits Still = waits

-- whether a caller waits after its own answers in a log
abbrev pub is_waiting : Bool → ℕ → Log → Bool
is_waiting waits caller [] = waits
is_waiting waits caller (entry ∷ log) =
    is_waiting (if entry.caller == caller then waits_after waits entry.reply else waits) caller log
