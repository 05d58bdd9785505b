-- The calls of a mutex and its journal in a record.
use Rattle.std.specs.Prelude.{ℕ, List}
use Rattle.script_calls.specs.declared.call.Reply.{Reply}
use Rattle.script_calls.specs.declared.call.Reply.TheVariants as replies
use Rattle.sync_types.specs.declared.lock_call.LockReply.{LockReply}
use Rattle.sync_types.specs.declared.lock_call.MutexCall.{MutexCall}
use Rattle.sync_types.specs.declared.lock_call.MutexCall.TheVariants as calls
use Rattle.mutex_core.specs.MutexMachine.{next, start}
use Rattle.mutex_core.specs.Edges.{acquires, releases}
use Rattle.protocols.specs.declared.mutex.MutexStage.{MutexStage}
use Rattle.protocols.specs.declared.mutex.MutexStage.TheVariants as stage
use Rattle.protocols.specs.MutexStages.{mutex_event, mutex_meaning}
use Rattle.run_record.specs.declared.entered.ObjectEvent.TheVariants as event
use Rattle.run_record.specs.declared.entered.ObjectReply.TheVariants as reply
use Rattle.run_record.specs.Journals.{FollowsFrom}
use Rattle.run_record.specs.Parts.{Part, read_as, stages}
use Rattle.run_record.specs.Record.{ObjectEntry}

-- a call of the protocol on the mutex that is this object
abbrev pub mutex_part : ℕ → MutexStage → Part LockReply
mutex_part object from = stages event.Mutex reply.Mutex mutex_event mutex_meaning object from

-- the stage that a call begins with
abbrev pub mutex_stage : MutexCall → MutexStage
mutex_stage calls.Lock = stage.Lock
mutex_stage calls.Unlock = stage.Unlock
mutex_stage calls.TryLock = stage.TryLock

abbrev pub mutex_call : ℕ → MutexCall → Part (Reply ℕ)
mutex_call object call = read_as replies.Lock (mutex_part object (mutex_stage call))

-- it begins unlocked
abbrev pub IsMutexJournal : ℕ → List ObjectEntry → Type 0
IsMutexJournal workers journal = FollowsFrom event.Mutex reply.Mutex next (λ event reply. releases reply) (λ event reply. acquires reply) (start workers) journal
