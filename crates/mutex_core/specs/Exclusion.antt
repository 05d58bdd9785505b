-- Mutual exclusion, as what a log shows.
use Rattle.std.specs.Prelude.{Bool, true, false, IsTrue, IsFalse, [], ◌∷◌, if◌then◌else◌}
use Rattle.mutex_core.specs.declared.reply.MutexReply.{MutexReply}
use Rattle.mutex_core.specs.Edges.{Log, acquires, releases}

-- whether somebody has the mutex after an answer
abbrev pub held_after : Bool → MutexReply → Bool
held_after held reply = if acquires reply then true else if releases reply then false else held

-- the mutex is acquired only where nobody has it, and released only where somebody has
abbrev pub TakesTurns : Bool → Log → Type 0
TakesTurns held [] = Unit {0}
TakesTurns held (entry ∷ log) =
    (IsTrue (acquires entry.reply) → IsFalse held)
    × (IsTrue (releases entry.reply) → IsTrue held)
    × TakesTurns (held_after held entry.reply) log
