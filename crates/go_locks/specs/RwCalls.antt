-- Which events each call of a running RWMutex makes, and what it then answers.
use Rattle.std.specs.Prelude.{◌≡◌, ℕ, Bool, true, false, List, [], ◌∷◌, ◌++◌, Result, Ok, Err}
use Rattle.std.specs.List.{AllByRecursion}
use Rattle.sync_types.specs.declared.misuse.Misuse.{Misuse}
use Rattle.sync_model.specs.declared.answer.Answer.{Answer}
use Rattle.sync_model.specs.declared.answer.Answer.TheVariants.{Done, Halted}
use Rattle.sync_model.specs.declared.journal.Deed.{Deed}
use Rattle.sync_model.specs.declared.journal.Deed.TheVariants.{Event, Refused, Halt}
use Rattle.rw_core.specs.declared.event.RwEvent.{RwEvent}
use Rattle.rw_core.specs.declared.event.RwEvent.TheVariants.{ReadArrive, ReadTry, ReadUnlock, WriteArrive, WriteTry, WriteWoken, WriteUnlock, Leave}
use Rattle.rw_core.specs.declared.reply.RwReply.{RwReply}
use Rattle.rw_core.specs.declared.reply.RwReply.TheVariants.{Arrived, Tried, Unlocked, Resumed, Left, Still}
use Rattle.rw_core.specs.declared.reply.Arrival.TheVariants.{Acquired as AtOnce, Queued}
use Rattle.rw_core.specs.declared.reply.Resumption.TheVariants.{Acquired, Queued as Announced, Requeued}
use Rattle.rw_core.specs.declared.reply.Unlocking.{Unlocking}
use Rattle.rw_core.specs.declared.reply.Unlocking.TheVariants.{Done as IsDone, Misuse as IsMisuse}

abbrev pub RwDeed : Type 0
RwDeed = Deed RwEvent RwReply

-- Where a writer waits, as far as its own answers tell: its arrival was queued, which may be at the inner mutex or behind readers; it then wasn't told to go on at that mutex, and leaves; it waits at that mutex; it has it, and waits behind readers.
pub data WriterAt : Type 0 where
  anywhere : WriterAt
  leaving : WriterAt
  inner : WriterAt
  behind : WriterAt

-- whether it goes on at the inner mutex next, and else it leaves next
abbrev pub goes_on : WriterAt → Bool
goes_on anywhere = true
goes_on leaving = false
goes_on inner = true
goes_on behind = false

-- where it then waits on that was answered `Still`: behind a going-on of which it doesn't know where it waits it leaves
abbrev pub stays : WriterAt → WriterAt
stays anywhere = leaving
stays leaving = anywhere
stays inner = inner
stays behind = behind

-- A `lock` so far that waits, and where: an arrival that was queued; goings-on that lost against a newcomer, that made the caller the next writer behind readers, or that nobody had woken; and leavings that nobody had granted.
pub data WriteWaits : WriterAt → List RwDeed → Type 0 where
  queued : (now : ℕ) → WriteWaits anywhere (Event (WriteArrive now) (Arrived Queued) ∷ [])
  requeued : (at : WriterAt) (deeds : List RwDeed) (now : ℕ) → goes_on at ≡ true → WriteWaits at deeds → WriteWaits inner (deeds ++ Event (WriteWoken now) (Resumed Requeued) ∷ [])
  announced : (at : WriterAt) (deeds : List RwDeed) (now : ℕ) → goes_on at ≡ true → WriteWaits at deeds → WriteWaits behind (deeds ++ Event (WriteWoken now) (Resumed Announced) ∷ [])
  unwoken : (at : WriterAt) (deeds : List RwDeed) (now : ℕ) → goes_on at ≡ true → WriteWaits at deeds → WriteWaits (stays at) (deeds ++ Event (WriteWoken now) Still ∷ [])
  ungranted : (at : WriterAt) (deeds : List RwDeed) → goes_on at ≡ false → WriteWaits at deeds → WriteWaits (stays at) (deeds ++ Event Leave Still ∷ [])

-- `lock`: it is acquired on arrival, or after waiting at the inner mutex, or was granted by the last reader. A halt ends it.
pub data WriteLocks : List RwDeed → Answer (Unit {0}) → Type 0 where
  at_once : (now : ℕ) → WriteLocks (Event (WriteArrive now) (Arrived AtOnce) ∷ []) (Done tt)
  refused : (now : ℕ) (m : Misuse) → WriteLocks (Refused (WriteArrive now) m ∷ []) (Halted m)
  acquired : (at : WriterAt) (deeds : List RwDeed) (now : ℕ) → goes_on at ≡ true → WriteWaits at deeds → WriteLocks (deeds ++ Event (WriteWoken now) (Resumed Acquired) ∷ []) (Done tt)
  granted : (at : WriterAt) (deeds : List RwDeed) → goes_on at ≡ false → WriteWaits at deeds → WriteLocks (deeds ++ Event Leave Left ∷ []) (Done tt)
  halted_woken : (at : WriterAt) (deeds : List RwDeed) (now : ℕ) (m : Misuse) → goes_on at ≡ true → WriteWaits at deeds → WriteLocks (deeds ++ Refused (WriteWoken now) m ∷ []) (Halted m)
  halted_leaving : (at : WriterAt) (deeds : List RwDeed) (m : Misuse) → goes_on at ≡ false → WriteWaits at deeds → WriteLocks (deeds ++ Refused Leave m ∷ []) (Halted m)

-- an `r_lock` so far that waits: an arrival that was queued, and leavings that nobody had admitted
pub data ReadWaits : List RwDeed → Type 0 where
  queued : ReadWaits (Event ReadArrive (Arrived Queued) ∷ [])
  unadmitted : (deeds : List RwDeed) → ReadWaits deeds → ReadWaits (deeds ++ Event Leave Still ∷ [])

-- `r_lock`: it is acquired on arrival, or the caller was admitted by a writer's unlock. A halt ends it.
pub data ReadLocks : List RwDeed → Answer (Unit {0}) → Type 0 where
  at_once : ReadLocks (Event ReadArrive (Arrived AtOnce) ∷ []) (Done tt)
  refused : (m : Misuse) → ReadLocks (Refused ReadArrive m ∷ []) (Halted m)
  admitted : (deeds : List RwDeed) → ReadWaits deeds → ReadLocks (deeds ++ Event Leave Left ∷ []) (Done tt)
  halted : (deeds : List RwDeed) (m : Misuse) → ReadWaits deeds → ReadLocks (deeds ++ Refused Leave m ∷ []) (Halted m)

-- `try_lock` and `try_r_lock`: one such event, and its answer
pub data Tries (event : RwEvent) : List RwDeed → Answer Bool → Type 0 where
  tried : (acquired : Bool) → Tries event (Event event (Tried acquired) ∷ []) (Done acquired)
  refused : (m : Misuse) → Tries event (Refused event m ∷ []) (Halted m)

-- what an unlock answers, by what the machine does
abbrev pub answer_of : Unlocking → Result (Unit {0}) Misuse
answer_of IsDone = Ok tt
answer_of (IsMisuse m) = Err m

-- `unlock` and `r_unlock`: one such event, and a misuse exactly where the machine answers one
pub data Unlocks (event : RwEvent) : List RwDeed → Answer (Result (Unit {0}) Misuse) → Type 0 where
  unlocked : (unlocking : Unlocking) → Unlocks event (Event event (Unlocked unlocking) ∷ []) (Done (answer_of unlocking))
  refused : (m : Misuse) → Unlocks event (Refused event m ∷ []) (Halted m)

-- the moment of an event is one that the clock may show
abbrev pub IsTimed : (ℕ → Type 0) → RwEvent → Type 0
IsTimed shows ReadArrive = Unit {0}
IsTimed shows ReadTry = Unit {0}
IsTimed shows ReadUnlock = Unit {0}
IsTimed shows (WriteArrive now) = shows now
IsTimed shows WriteTry = Unit {0}
IsTimed shows (WriteWoken now) = shows now
IsTimed shows WriteUnlock = Unit {0}
IsTimed shows Leave = Unit {0}

-- That is so of each deed, but for an arrival by which the lock is acquired at once: its moment decides nothing, and may be any.
abbrev pub IsClocked : (ℕ → Type 0) → RwDeed → Type 0
IsClocked shows (Event event (Arrived AtOnce)) = Unit {0}
IsClocked shows (Event event (Arrived Queued)) = IsTimed shows event
IsClocked shows (Event event (Tried _)) = IsTimed shows event
IsClocked shows (Event event (Unlocked _)) = IsTimed shows event
IsClocked shows (Event event (Resumed _)) = IsTimed shows event
IsClocked shows (Event event Left) = IsTimed shows event
IsClocked shows (Event event Still) = IsTimed shows event
IsClocked shows (Refused event misuse) = IsTimed shows event
IsClocked shows (Halt misuse) = Unit {0}

abbrev pub AreClocked : (ℕ → Type 0) → List RwDeed → Type 0
AreClocked shows deeds = AllByRecursion (IsClocked shows) deeds
