-- The calls of a reader/writer mutex, stage by stage.
use Rattle.std.specs.Prelude.{◌≡◌, ℕ, Bool, true, false, not, Option, Some, None, Result, Ok, Err}
use Rattle.sync_types.specs.declared.misuse.Misuse.{Misuse}
use Rattle.sync_types.specs.declared.lock_call.LockReply.{LockReply}
use Rattle.sync_types.specs.declared.lock_call.LockReply.TheVariants as outcome
use Rattle.rw_core.specs.declared.event.RwEvent.{RwEvent}
use Rattle.rw_core.specs.declared.event.RwEvent.TheVariants as event
use Rattle.rw_core.specs.declared.reply.RwReply.{RwReply}
use Rattle.rw_core.specs.declared.reply.RwReply.TheVariants.{Arrived, Tried, Unlocked, Resumed, Left, Still}
use Rattle.rw_core.specs.declared.reply.Arrival.TheVariants as arrival
use Rattle.rw_core.specs.declared.reply.Resumption.TheVariants as resumption
use Rattle.rw_core.specs.declared.reply.Unlocking.TheVariants as unlocking
use Rattle.rw_core.specs.RwMachine.{State, start}
use Rattle.rw_core.specs.Standing.{waits_after}
use Rattle.protocols.specs.declared.step.Step.{Step}
use Rattle.protocols.specs.declared.step.Step.TheVariants.{Finished, Misused, Waits, Next, Never}
use Rattle.protocols.specs.declared.rw_mutex.RwMutexStage.{RwMutexStage}
use Rattle.protocols.specs.declared.rw_mutex.RwMutexStage.TheVariants as stage

-- the event that a stage makes
abbrev pub rw_event : RwMutexStage → ℕ → RwEvent
rw_event stage.Lock now = event.WriteArrive now
rw_event stage.TryLock now = event.WriteTry
rw_event stage.Unlock now = event.WriteUnlock
rw_event stage.Resume now = event.WriteWoken now
rw_event stage.LeaveWriting now = event.Leave
rw_event stage.Inner now = event.WriteWoken now
rw_event stage.Behind now = event.Leave
rw_event stage.RLock now = event.ReadArrive
rw_event stage.TryRLock now = event.ReadTry
rw_event stage.RUnlock now = event.ReadUnlock
rw_event stage.LeaveReading now = event.Leave

-- the moment that an event carries: a writer's arrival, and a writer's that goes on
abbrev pub rw_moment : RwEvent → Option ℕ
rw_moment event.ReadArrive = None
rw_moment event.ReadTry = None
rw_moment event.ReadUnlock = None
rw_moment (event.WriteArrive now) = Some now
rw_moment event.WriteTry = None
rw_moment (event.WriteWoken now) = Some now
rw_moment event.WriteUnlock = None
rw_moment event.Leave = None

-- an arrival has the lock, or waits and goes on by this stage
abbrev pub arrive_meaning : RwMutexStage → RwReply → Step RwMutexStage LockReply
arrive_meaning later (Arrived arrival.Acquired) = Finished outcome.Done
arrive_meaning later (Arrived arrival.Queued) = Waits later
arrive_meaning later (Tried acquired) = Never
arrive_meaning later (Unlocked unlocking) = Never
arrive_meaning later (Resumed resumption) = Never
arrive_meaning later Left = Never
arrive_meaning later Still = Never

-- a try is one event
abbrev pub try_meaning : RwReply → Step RwMutexStage LockReply
try_meaning (Tried acquired) = Finished (outcome.Tried acquired)
try_meaning (Arrived arrival) = Never
try_meaning (Unlocked unlocking) = Never
try_meaning (Resumed resumption) = Never
try_meaning Left = Never
try_meaning Still = Never

-- an unlock is one event, and a misuse where nobody holds the lock so
abbrev pub unlock_meaning : RwReply → Step RwMutexStage LockReply
unlock_meaning (Unlocked unlocking.Done) = Finished outcome.Done
unlock_meaning (Unlocked (unlocking.Misuse misuse)) = Misused misuse
unlock_meaning (Arrived arrival) = Never
unlock_meaning (Tried acquired) = Never
unlock_meaning (Resumed resumption) = Never
unlock_meaning Left = Never
unlock_meaning Still = Never

-- A writer that was queued goes on at the inner mutex: it acquires the lock, or waits on behind readers, where it has that mutex, or at that mutex, where it lost it against a newcomer. Where it wasn't told to go on there, it may have been granted the lock, and leaves at once.
abbrev pub resume_meaning : RwReply → Step RwMutexStage LockReply
resume_meaning (Resumed resumption.Acquired) = Finished outcome.Done
resume_meaning (Resumed resumption.Queued) = Waits stage.Behind
resume_meaning (Resumed resumption.Requeued) = Waits stage.Inner
resume_meaning Still = Next stage.LeaveWriting
resume_meaning (Arrived arrival) = Never
resume_meaning (Tried acquired) = Never
resume_meaning (Unlocked unlocking) = Never
resume_meaning Left = Never

-- a writer that is known to wait at the inner mutex goes on so, and only there
abbrev pub inner_meaning : RwReply → Step RwMutexStage LockReply
inner_meaning Still = Waits stage.Inner
inner_meaning (Resumed resumption) = resume_meaning (Resumed resumption)
inner_meaning (Arrived arrival) = Never
inner_meaning (Tried acquired) = Never
inner_meaning (Unlocked unlocking) = Never
inner_meaning Left = Never

-- a caller leaves where it was granted the lock or admitted, and else waits on, and goes on by this stage
abbrev pub leave_meaning : RwMutexStage → RwReply → Step RwMutexStage LockReply
leave_meaning later Left = Finished outcome.Done
leave_meaning later Still = Waits later
leave_meaning later (Arrived arrival) = Never
leave_meaning later (Tried acquired) = Never
leave_meaning later (Unlocked unlocking) = Never
leave_meaning later (Resumed resumption) = Never

abbrev pub rw_meaning : RwMutexStage → RwReply → Step RwMutexStage LockReply
rw_meaning stage.Lock reply = arrive_meaning stage.Resume reply
rw_meaning stage.TryLock reply = try_meaning reply
rw_meaning stage.Unlock reply = unlock_meaning reply
rw_meaning stage.Resume reply = resume_meaning reply
rw_meaning stage.LeaveWriting reply = leave_meaning stage.Resume reply
rw_meaning stage.Inner reply = inner_meaning reply
rw_meaning stage.Behind reply = leave_meaning stage.Behind reply
rw_meaning stage.RLock reply = arrive_meaning stage.LeaveReading reply
rw_meaning stage.TryRLock reply = try_meaning reply
rw_meaning stage.RUnlock reply = unlock_meaning reply
rw_meaning stage.LeaveReading reply = leave_meaning stage.LeaveReading reply

-- whether a caller waits after an answer of its own
abbrev pub rw_stands : Bool → RwEvent → RwReply → Bool
rw_stands waits event reply = waits_after waits reply

-- a stage that goes on with a lock
abbrev pub goes_on : RwMutexStage → Bool
goes_on stage.Lock = false
goes_on stage.TryLock = false
goes_on stage.Unlock = false
goes_on stage.Resume = true
goes_on stage.LeaveWriting = true
goes_on stage.Inner = true
goes_on stage.Behind = true
goes_on stage.RLock = false
goes_on stage.TryRLock = false
goes_on stage.RUnlock = false
goes_on stage.LeaveReading = true

-- a caller that waits goes on, and does nothing else
abbrev pub rw_allows : State → Bool → RwMutexStage → Bool
rw_allows start true stage = goes_on stage
rw_allows start false stage = not (goes_on stage)

-- what a lock, a try and an unlock may give
abbrev pub lock_gives : Result LockReply Misuse → Bool
lock_gives (Ok outcome.Done) = true
lock_gives (Ok (outcome.Tried acquired)) = false
lock_gives (Err misuse) = false

abbrev pub try_gives : Result LockReply Misuse → Bool
try_gives (Ok (outcome.Tried acquired)) = true
try_gives (Ok outcome.Done) = false
try_gives (Err misuse) = false

abbrev pub unlock_gives : Result LockReply Misuse → Bool
unlock_gives (Ok outcome.Done) = true
unlock_gives (Ok (outcome.Tried acquired)) = false
unlock_gives (Err misuse) = true

abbrev pub rw_gives : RwMutexStage → Result LockReply Misuse → Bool
rw_gives stage.Lock given = lock_gives given
rw_gives stage.TryLock given = try_gives given
rw_gives stage.Unlock given = unlock_gives given
rw_gives stage.Resume given = lock_gives given
rw_gives stage.LeaveWriting given = lock_gives given
rw_gives stage.Inner given = lock_gives given
rw_gives stage.Behind given = lock_gives given
rw_gives stage.RLock given = lock_gives given
rw_gives stage.TryRLock given = try_gives given
rw_gives stage.RUnlock given = unlock_gives given
rw_gives stage.LeaveReading given = lock_gives given

-- whether a try took the lock
abbrev pub has_taken : LockReply → Bool
has_taken (outcome.Tried acquired) = acquired
has_taken outcome.Done = false

-- what each earlier unlock knew is known after a lock, a reader's and a writer's, and after a try that succeeds
abbrev pub rw_gains : RwMutexStage → LockReply → Bool
rw_gains stage.Lock reply = true
rw_gains stage.TryLock reply = has_taken reply
rw_gains stage.Unlock reply = false
rw_gains stage.Resume reply = true
rw_gains stage.LeaveWriting reply = true
rw_gains stage.Inner reply = true
rw_gains stage.Behind reply = true
rw_gains stage.RLock reply = true
rw_gains stage.TryRLock reply = has_taken reply
rw_gains stage.RUnlock reply = false
rw_gains stage.LeaveReading reply = true

-- it begins unlocked
abbrev pub RwMutexBegins : ℕ → State → Type 0
RwMutexBegins callers state = state ≡ start callers
