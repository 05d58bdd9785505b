-- The calls of a mutex, stage by stage.
use Rattle.std.specs.Prelude.{◌≡◌, ℕ, Bool, true, false, Option, Some, None, Result, Ok, Err}
use Rattle.sync_types.specs.declared.misuse.Misuse.{Misuse}
use Rattle.sync_types.specs.declared.lock_call.LockReply.{LockReply}
use Rattle.sync_types.specs.declared.lock_call.LockReply.TheVariants as outcome
use Rattle.mutex_core.specs.declared.event.MutexEvent.{MutexEvent}
use Rattle.mutex_core.specs.declared.event.MutexEvent.TheVariants.{Arrive, Try, Unlock, Woken}
use Rattle.mutex_core.specs.declared.reply.MutexReply.{MutexReply}
use Rattle.mutex_core.specs.declared.reply.MutexReply.TheVariants.{Arrived, Tried, Unlocked, Resumed, Still}
use Rattle.mutex_core.specs.declared.reply.Arrival.TheVariants as arrival
use Rattle.mutex_core.specs.declared.reply.Resumption.TheVariants as resumption
use Rattle.mutex_core.specs.declared.reply.Unlocking.TheVariants as unlocking
use Rattle.mutex_core.specs.MutexMachine.{State, start}
use Rattle.mutex_core.specs.Standing.{waits_after}
use Rattle.protocols.specs.declared.step.Step.{Step}
use Rattle.protocols.specs.declared.step.Step.TheVariants.{Finished, Misused, Waits, Never}
use Rattle.protocols.specs.declared.mutex.MutexStage.{MutexStage}
use Rattle.protocols.specs.declared.mutex.MutexStage.TheVariants as stage

-- the event that a stage makes
abbrev pub mutex_event : MutexStage → ℕ → MutexEvent
mutex_event stage.Lock now = Arrive now
mutex_event stage.TryLock now = Try
mutex_event stage.Unlock now = Unlock
mutex_event stage.Resume now = Woken now

-- the moment that an event carries: an arrival's, and a waiter's that goes on
abbrev pub mutex_moment : MutexEvent → Option ℕ
mutex_moment (Arrive now) = Some now
mutex_moment Try = None
mutex_moment Unlock = None
mutex_moment (Woken now) = Some now

-- `lock` arrives, and waits where it is queued
abbrev pub lock_meaning : MutexReply → Step MutexStage LockReply
lock_meaning (Arrived arrival.Acquired) = Finished outcome.Done
lock_meaning (Arrived (arrival.Queued ticket)) = Waits stage.Resume
lock_meaning (Tried acquired) = Never
lock_meaning (Unlocked unlocking) = Never
lock_meaning (Resumed resumption) = Never
lock_meaning Still = Never

-- `try_lock` is one event
abbrev pub try_meaning : MutexReply → Step MutexStage LockReply
try_meaning (Tried acquired) = Finished (outcome.Tried acquired)
try_meaning (Arrived arrival) = Never
try_meaning (Unlocked unlocking) = Never
try_meaning (Resumed resumption) = Never
try_meaning Still = Never

-- `unlock` is one event, and a misuse where the mutex isn't locked
abbrev pub unlock_meaning : MutexReply → Step MutexStage LockReply
unlock_meaning (Unlocked unlocking.Free) = Finished outcome.Done
unlock_meaning (Unlocked (unlocking.Woke ticket)) = Finished outcome.Done
unlock_meaning (Unlocked (unlocking.Handed ticket)) = Finished outcome.Done
unlock_meaning (Unlocked (unlocking.Misuse misuse)) = Misused misuse
unlock_meaning (Arrived arrival) = Never
unlock_meaning (Tried acquired) = Never
unlock_meaning (Resumed resumption) = Never
unlock_meaning Still = Never

-- a waiter goes on: it acquires, or waits on, where a newcomer was faster or nobody had told it
abbrev pub resume_meaning : MutexReply → Step MutexStage LockReply
resume_meaning (Resumed resumption.Acquired) = Finished outcome.Done
resume_meaning (Resumed resumption.Requeued) = Waits stage.Resume
resume_meaning Still = Waits stage.Resume
resume_meaning (Arrived arrival) = Never
resume_meaning (Tried acquired) = Never
resume_meaning (Unlocked unlocking) = Never

abbrev pub mutex_meaning : MutexStage → MutexReply → Step MutexStage LockReply
mutex_meaning stage.Lock reply = lock_meaning reply
mutex_meaning stage.TryLock reply = try_meaning reply
mutex_meaning stage.Unlock reply = unlock_meaning reply
mutex_meaning stage.Resume reply = resume_meaning reply

-- whether a caller waits after an answer of its own
abbrev pub mutex_stands : Bool → MutexEvent → MutexReply → Bool
mutex_stands waits event reply = waits_after waits reply

-- a caller that waits goes on, and does nothing else
abbrev pub mutex_allows : State → Bool → MutexStage → Bool
mutex_allows start waits stage.Resume = waits
mutex_allows start true stage.Lock = false
mutex_allows start true stage.TryLock = false
mutex_allows start true stage.Unlock = false
mutex_allows start false stage.Lock = true
mutex_allows start false stage.TryLock = true
mutex_allows start false stage.Unlock = true

-- a lock gives the mutex, a try whether it is had, and an unlock may be a misuse
abbrev pub mutex_gives : MutexStage → Result LockReply Misuse → Bool
mutex_gives stage.Lock (Ok outcome.Done) = true
mutex_gives stage.Lock (Ok (outcome.Tried acquired)) = false
mutex_gives stage.Lock (Err misuse) = false
mutex_gives stage.TryLock (Ok (outcome.Tried acquired)) = true
mutex_gives stage.TryLock (Ok outcome.Done) = false
mutex_gives stage.TryLock (Err misuse) = false
mutex_gives stage.Unlock (Ok outcome.Done) = true
mutex_gives stage.Unlock (Ok (outcome.Tried acquired)) = false
mutex_gives stage.Unlock (Err misuse) = true
mutex_gives stage.Resume (Ok outcome.Done) = true
mutex_gives stage.Resume (Ok (outcome.Tried acquired)) = false
mutex_gives stage.Resume (Err misuse) = false

-- what each earlier unlock knew is known after a lock, and after a try that succeeds
abbrev pub mutex_gains : MutexStage → LockReply → Bool
mutex_gains stage.Lock reply = true
mutex_gains stage.TryLock (outcome.Tried acquired) = acquired
mutex_gains stage.TryLock outcome.Done = false
mutex_gains stage.Unlock reply = false
mutex_gains stage.Resume reply = true

-- it begins unlocked
abbrev pub MutexBegins : ℕ → State → Type 0
MutexBegins callers state = state ≡ start callers
