-- How starvation mode hands the mutex on, as what a log shows.
use Rattle.std.specs.Prelude.{◌≡◌, ℕ, Bool, false, ◌==◌, IsFalse, List, [], ◌∷◌}
use Rattle.std.specs.Bool.{MatchBool}
use Rattle.mutex_core.specs.declared.event.MutexEvent.{MutexEvent}
use Rattle.mutex_core.specs.declared.event.MutexEvent.TheVariants as event
use Rattle.mutex_core.specs.declared.reply.MutexReply.{MutexReply}
use Rattle.mutex_core.specs.declared.reply.MutexReply.TheVariants.{Unlocked, Resumed}
use Rattle.mutex_core.specs.declared.reply.Resumption.TheVariants.{Acquired}
use Rattle.mutex_core.specs.declared.reply.Unlocking.TheVariants.{Handed}
use Rattle.mutex_core.specs.declared.waiter.Waiter.{Waiter}
use Rattle.mutex_core.specs.Edges.{Log, acquires}

-- whether an event of the caller is the one by which the waiter goes on
abbrev pub goes_on : ℕ → ℕ → MutexEvent → Bool
goes_on waiter caller (event.Woken now) = caller == waiter
goes_on waiter caller (event.Arrive now) = false
goes_on waiter caller event.Try = false
goes_on waiter caller event.Unlock = false

-- nobody acquires the mutex until the waiter goes on, and then it is the waiter's
abbrev pub GoesTo : ℕ → Log → Type 0
GoesTo waiter [] = Unit {0}
GoesTo waiter (entry ∷ log) =
    MatchBool (goes_on waiter entry.caller entry.event)
    (entry.reply ≡ Resumed Acquired)
    (IsFalse (acquires entry.reply) × GoesTo waiter log)

-- an unlock at this queue, its answer and what comes later: the mutex goes to the first waiter
abbrev pub HandsOff : List Waiter → MutexReply → Log → Type 0
HandsOff [] reply later = ⊥
HandsOff (front ∷ rest) reply later = (reply ≡ Unlocked (Handed front.caller)) × GoesTo front.caller later
