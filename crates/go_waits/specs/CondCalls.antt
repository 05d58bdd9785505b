-- Which events each call of a Cond makes, on it and on its mutex, in order, and how it answers by them.
use Rattle.std.specs.Prelude.{◌≡◌, ℕ, List, [], ◌∷◌, ◌++◌, replicate, Result, Ok, Err}
use Rattle.sync_types.specs.declared.misuse.Misuse.{Misuse}
use Rattle.sync_model.specs.declared.answer.Answer.{Answer}
use Rattle.sync_model.specs.declared.answer.Answer.TheVariants.{Done, Halted}
use Rattle.sync_model.specs.declared.journal.Deed.{Deed}
use Rattle.sync_model.specs.declared.journal.Deed.TheVariants.{Event, Refused}
use Rattle.sync_model.specs.Front.{Front, SameCounts}
use Rattle.mutex_core.specs.MutexMachine as mutexes
use Rattle.wait_cores.specs.declared.notify.NotifyEvent.{NotifyEvent}
use Rattle.wait_cores.specs.declared.notify.NotifyEvent.TheVariants.{Ticket, Leave}
use Rattle.wait_cores.specs.declared.notify.NotifyReply.{NotifyReply}
use Rattle.wait_cores.specs.declared.notify.NotifyReply.TheVariants as reply
use Rattle.wait_cores.specs.NotifyMachine.{next}
use Rattle.go_locks.specs.declared.mutex.Mutex.{Mutex}
use Rattle.go_locks.specs.Calls.{Did}
use Rattle.go_locks.specs.Mutexes.{mutex_start}
use Rattle.go_locks.specs.MutexCalls.{MutexDeed, Locks, Unlocks, AreClocked}
use Rattle.go_waits.specs.declared.cond.Cond.{Cond}
use Rattle.go_waits.specs.Conds.{CondPass, MutexPass, start_of}

abbrev pub NotifyDeeds : Type 0
NotifyDeeds = List (Deed NotifyEvent NotifyReply)

-- a ticket, a signal and a broadcast are one event each, which is made wherever the caller stands
abbrev pub Makes : NotifyEvent → NotifyDeeds → Answer Unit → Type 0
Makes event deeds (Done done) = deeds ≡ Event event reply.Done ∷ []
Makes event deeds (Halted misuse) = deeds ≡ Refused event misuse ∷ []

-- a caller with a ticket tried any number of times to leave before the ticket was notified, and then left
abbrev pub Leaves : NotifyDeeds → Answer Unit → Type 0
Leaves deeds (Done done) = (tries : ℕ) × (deeds ≡ replicate tries (Event Leave reply.Still) ++ Event Leave reply.Done ∷ [])
Leaves deeds (Halted misuse) = (tries : ℕ) × (deeds ≡ replicate tries (Event Leave reply.Still) ++ Refused Leave misuse ∷ [])

-- what a call did on the cond: these events, each at its place, and it answered by them
abbrev pub CondDid : {N H : Type 0} → Cond N H → (NotifyDeeds → Answer Unit → Type 0) → CondPass N → Front → Answer Unit → CondPass N → Front → Type 0
CondDid cond spells old from answer new to = Did next (start_of cond) spells (λ deeds. Unit {0}) old from answer new to

-- the same, and its caller learnt nothing
abbrev pub CondQuiet : {N H : Type 0} → Cond N H → (NotifyDeeds → Answer Unit → Type 0) → CondPass N → Front → Answer Unit → CondPass N → Front → Type 0
CondQuiet cond spells old from answer new to = CondDid cond spells old from answer new to × SameCounts to from

module _ {N H : Type 0} (shows : ℕ → Type 0) (cond : Cond N H) (mutex : Mutex N H) where
  -- what a part of a wait did on the mutex, as a call of the mutex does; and where its caller learnt nothing
  abbrev pub MutexDid : {A : Type 0} → (List MutexDeed → Answer A → Type 0) → MutexPass N → Front → Answer A → MutexPass N → Front → Type 0
  MutexDid spells old from answer new to = Did mutexes.next (mutex_start mutex) spells (AreClocked shows) old from answer new to

  abbrev pub MutexQuiet : {A : Type 0} → (List MutexDeed → Answer A → Type 0) → MutexPass N → Front → Answer A → MutexPass N → Front → Type 0
  MutexQuiet spells old from answer new to = MutexDid spells old from answer new to × SameCounts to from

  -- A wait whose mutex is unlocked leaves the cond, and then locks the mutex again. A halt of either ends it.
  pub data Returns (old : CondPass N) (held : MutexPass N) (from : Front) : Answer (Result Unit Misuse) → CondPass N → MutexPass N → Front → Type 0 where
    never_left : (misuse : Misuse) (new : CondPass N) (to : Front) → CondQuiet cond Leaves old from (Halted misuse) new to → Returns old held from (Halted misuse) new held to
    locked : (new : CondPass N) (between : Front) (again : MutexPass N) (to : Front) → CondDid cond Leaves old from (Done tt) new between → MutexDid Locks held between (Done tt) again to → Returns old held from (Done (Ok tt)) new again to
    not_locked : (misuse : Misuse) (new : CondPass N) (between : Front) (again : MutexPass N) (to : Front) → CondDid cond Leaves old from (Done tt) new between → MutexQuiet Locks held between (Halted misuse) again to
        → Returns old held from (Halted misuse) new again to

  -- A wait that has its ticket unlocks the mutex, and then waits. A mutex that isn't locked, or is halted, ends it.
  pub data GivesUp (old : CondPass N) (held : MutexPass N) (from : Front) : Answer (Result Unit Misuse) → CondPass N → MutexPass N → Front → Type 0 where
    not_held : (misuse : Misuse) (kept : MutexPass N) (to : Front) → MutexQuiet Unlocks held from (Done (Err misuse)) kept to → GivesUp old held from (Done (Err misuse)) old kept to
    not_unlocked : (misuse : Misuse) (kept : MutexPass N) (to : Front) → MutexQuiet Unlocks held from (Halted misuse) kept to → GivesUp old held from (Halted misuse) old kept to
    unlocked : (kept : MutexPass N) (between : Front) (answer : Answer (Result Unit Misuse)) (new : CondPass N) (again : MutexPass N) (to : Front) → MutexQuiet Unlocks held from (Done (Ok tt)) kept between → Returns old kept between answer new again to
        → GivesUp old held from answer new again to

  -- `wait`: a ticket, then the mutex's `unlock`, the leaving, and the events of the mutex's `lock`, each with the front that the one before it left
  pub data Waits (old : CondPass N) (held : MutexPass N) (from : Front) : Answer (Result Unit Misuse) → CondPass N → MutexPass N → Front → Type 0 where
    no_ticket : (misuse : Misuse) (new : CondPass N) (to : Front) → CondQuiet cond (Makes Ticket) old from (Halted misuse) new to → Waits old held from (Halted misuse) new held to
    ticket : (mid : CondPass N) (between : Front) (answer : Answer (Result Unit Misuse)) (new : CondPass N) (again : MutexPass N) (to : Front) → CondQuiet cond (Makes Ticket) old from (Done tt) mid between → GivesUp mid held between answer new again to
        → Waits old held from answer new again to
