-- Which answers an event may get, and what a caller's own answers say of where it stands.
use Rattle.std.specs.Prelude.{ℕ, Bool, true, false, ◌==◌, if◌then◌else◌, [], ◌∷◌}
use Rattle.rw_core.specs.declared.event.RwEvent.{RwEvent}
use Rattle.rw_core.specs.declared.event.RwEvent.TheVariants as event
use Rattle.rw_core.specs.declared.reply.RwReply.{RwReply}
use Rattle.rw_core.specs.declared.reply.RwReply.TheVariants.{Arrived, Tried, Unlocked, Resumed, Left, Still}
use Rattle.rw_core.specs.declared.reply.Arrival.TheVariants as arrival
use Rattle.rw_core.specs.declared.reply.Resumption.TheVariants as resumption
use Rattle.rw_core.specs.Edges.{Log}

-- whether it is an answer to this event, and not `Still`
abbrev pub is_answer : RwEvent → RwReply → Bool
is_answer event.ReadArrive (Arrived _) = true
is_answer event.ReadArrive _ = false
is_answer event.ReadTry (Tried _) = true
is_answer event.ReadTry _ = false
is_answer event.ReadUnlock (Unlocked _) = true
is_answer event.ReadUnlock _ = false
is_answer (event.WriteArrive now) (Arrived _) = true
is_answer (event.WriteArrive now) _ = false
is_answer event.WriteTry (Tried _) = true
is_answer event.WriteTry _ = false
is_answer (event.WriteWoken now) (Resumed _) = true
is_answer (event.WriteWoken now) _ = false
is_answer event.WriteUnlock (Unlocked _) = true
is_answer event.WriteUnlock _ = false
is_answer event.Leave Left = true
is_answer event.Leave _ = false

-- whether a caller waits after an answer of its own
abbrev pub waits_after : Bool → RwReply → Bool
waits_after waits (Arrived arrival.Acquired) = waits
waits_after waits (Arrived arrival.Queued) = true
waits_after waits (Tried _) = waits
waits_after waits (Unlocked _) = waits
waits_after waits (Resumed resumption.Acquired) = false
waits_after waits (Resumed resumption.Queued) = waits
waits_after waits (Resumed resumption.Requeued) = waits
waits_after waits Left = false
waits_after waits Still = waits

-- whether a caller waits after its own answers in a log
abbrev pub is_waiting : Bool → ℕ → Log → Bool
is_waiting waits caller [] = waits
is_waiting waits caller (entry ∷ log) =
    is_waiting (if entry.caller == caller then waits_after waits entry.reply else waits) caller log
