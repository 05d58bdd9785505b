-- Which events each call of a running Mutex makes, and what it then answers.
use Rattle.std.specs.Prelude.{ℕ, Bool, List, [], ◌∷◌, ◌++◌, Result, Ok, Err}
use Rattle.std.specs.List.{AllByRecursion}
use Rattle.sync_types.specs.declared.misuse.Misuse.{Misuse}
use Rattle.sync_model.specs.declared.answer.Answer.{Answer}
use Rattle.sync_model.specs.declared.answer.Answer.TheVariants.{Done, Halted}
use Rattle.sync_model.specs.declared.journal.Deed.{Deed}
use Rattle.sync_model.specs.declared.journal.Deed.TheVariants.{Event, Refused, Halt}
use Rattle.mutex_core.specs.declared.event.MutexEvent.{MutexEvent}
use Rattle.mutex_core.specs.declared.event.MutexEvent.TheVariants.{Arrive, Try, Unlock, Woken}
use Rattle.mutex_core.specs.declared.reply.MutexReply.{MutexReply}
use Rattle.mutex_core.specs.declared.reply.MutexReply.TheVariants.{Arrived, Tried, Unlocked, Resumed, Still}
use Rattle.mutex_core.specs.declared.reply.Arrival.TheVariants.{Acquired as AtOnce, Queued}
use Rattle.mutex_core.specs.declared.reply.Resumption.TheVariants.{Acquired, Requeued}
use Rattle.mutex_core.specs.declared.reply.Unlocking.{Unlocking}
use Rattle.mutex_core.specs.declared.reply.Unlocking.TheVariants.{Free, Woke, Handed, Misuse as IsMisuse}

abbrev pub MutexDeed : Type 0
MutexDeed = Deed MutexEvent MutexReply

-- A `lock` so far that waits: an arrival that was queued, and goings-on that lost against a newcomer, or that nobody had woken.
pub data Waits : List MutexDeed → Type 0 where
  queued : (now ticket : ℕ) → Waits (Event (Arrive now) (Arrived (Queued ticket)) ∷ [])
  requeued : (deeds : List MutexDeed) (now : ℕ) → Waits deeds → Waits (deeds ++ Event (Woken now) (Resumed Requeued) ∷ [])
  still : (deeds : List MutexDeed) (now : ℕ) → Waits deeds → Waits (deeds ++ Event (Woken now) Still ∷ [])

-- `lock`: the mutex is acquired on arrival, or after waiting. A halt ends it.
pub data Locks : List MutexDeed → Answer (Unit {0}) → Type 0 where
  at_once : (now : ℕ) → Locks (Event (Arrive now) (Arrived AtOnce) ∷ []) (Done tt)
  refused : (now : ℕ) (m : Misuse) → Locks (Refused (Arrive now) m ∷ []) (Halted m)
  acquired : (deeds : List MutexDeed) (now : ℕ) → Waits deeds → Locks (deeds ++ Event (Woken now) (Resumed Acquired) ∷ []) (Done tt)
  halted : (deeds : List MutexDeed) (now : ℕ) (m : Misuse) → Waits deeds → Locks (deeds ++ Refused (Woken now) m ∷ []) (Halted m)

-- `try_lock`: one event, and its answer
pub data Tries : List MutexDeed → Answer Bool → Type 0 where
  tried : (acquired : Bool) → Tries (Event Try (Tried acquired) ∷ []) (Done acquired)
  refused : (m : Misuse) → Tries (Refused Try m ∷ []) (Halted m)

-- what an unlock answers, by what the machine does
abbrev pub answer_of : Unlocking → Result (Unit {0}) Misuse
answer_of Free = Ok tt
answer_of (Woke ticket) = Ok tt
answer_of (Handed ticket) = Ok tt
answer_of (IsMisuse m) = Err m

-- `unlock`: one event, and a misuse exactly where the machine answers one
pub data Unlocks : List MutexDeed → Answer (Result (Unit {0}) Misuse) → Type 0 where
  unlocked : (unlocking : Unlocking) → Unlocks (Event Unlock (Unlocked unlocking) ∷ []) (Done (answer_of unlocking))
  refused : (m : Misuse) → Unlocks (Refused Unlock m ∷ []) (Halted m)

-- the moment of an event is one that the clock may show
abbrev pub IsTimed : (ℕ → Type 0) → MutexEvent → Type 0
IsTimed shows (Arrive now) = shows now
IsTimed shows Try = Unit {0}
IsTimed shows Unlock = Unit {0}
IsTimed shows (Woken now) = shows now

-- That is so of each deed, but for an arrival by which the mutex is acquired at once: its moment decides nothing, and may be any.
abbrev pub IsClocked : (ℕ → Type 0) → MutexDeed → Type 0
IsClocked shows (Event event (Arrived AtOnce)) = Unit {0}
IsClocked shows (Event event (Arrived (Queued _))) = IsTimed shows event
IsClocked shows (Event event (Tried _)) = IsTimed shows event
IsClocked shows (Event event (Unlocked _)) = IsTimed shows event
IsClocked shows (Event event (Resumed _)) = IsTimed shows event
IsClocked shows (Event event Still) = IsTimed shows event
IsClocked shows (Refused event misuse) = IsTimed shows event
IsClocked shows (Halt misuse) = Unit {0}

abbrev pub AreClocked : (ℕ → Type 0) → List MutexDeed → Type 0
AreClocked shows deeds = AllByRecursion (IsClocked shows) deeds
