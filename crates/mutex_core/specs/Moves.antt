-- How an event moves the callers of the mutex from place to place.
use Rattle.std.specs.Prelude.{ℕ, ◌==◌, Bool, false, if◌then◌else◌}
use Rattle.mutex_core.specs.declared.place.Place.{Place}
use Rattle.mutex_core.specs.declared.place.Place.TheVariants as place
use Rattle.mutex_core.specs.declared.reply.MutexReply.{MutexReply}
use Rattle.mutex_core.specs.declared.reply.MutexReply.TheVariants.{Arrived, Tried, Unlocked, Resumed, Still}
use Rattle.mutex_core.specs.declared.reply.Arrival.TheVariants as arrival
use Rattle.mutex_core.specs.declared.reply.Resumption.TheVariants as resumption
use Rattle.mutex_core.specs.declared.reply.Unlocking.TheVariants as unlocking

-- where a caller is after an event of one that may be another, by where it was and by the answer
abbrev pub place_after : ℕ → ℕ → Place → MutexReply → Place
place_after caller by at (Arrived arrival.Acquired) = at
place_after caller by at (Arrived (arrival.Queued ticket)) = if caller == by then place.Waiting else at
place_after caller by at (Tried acquired) = at
place_after caller by at (Unlocked unlocking.Free) = at
place_after caller by at (Unlocked (unlocking.Woke ticket)) = if caller == ticket then place.Woken else at
place_after caller by at (Unlocked (unlocking.Handed ticket)) = if caller == ticket then place.Handed else at
place_after caller by at (Unlocked (unlocking.Misuse misuse)) = at
place_after caller by at (Resumed resumption.Acquired) = if caller == by then place.Out else at
place_after caller by at (Resumed resumption.Requeued) = if caller == by then place.Waiting else at
place_after caller by at Still = at

-- whether an answer tells this caller to go on
abbrev pub tells : ℕ → MutexReply → Bool
tells caller (Unlocked (unlocking.Woke ticket)) = caller == ticket
tells caller (Unlocked (unlocking.Handed ticket)) = caller == ticket
tells caller reply = false
