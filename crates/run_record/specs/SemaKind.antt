-- The calls of a weighted semaphore and its journal in a record.
use Rattle.std.specs.Prelude.{ℕ, List}
use Rattle.script_calls.specs.declared.call.Reply.{Reply}
use Rattle.script_calls.specs.declared.call.Reply.TheVariants as replies
use Rattle.sync_types.specs.declared.lock_call.LockReply.{LockReply}
use Rattle.sync_types.specs.declared.sema_call.SemaCall.{SemaCall}
use Rattle.sync_types.specs.declared.sema_call.SemaCall.TheVariants as calls
use Rattle.sema_core.specs.SemaMachine.{next, start}
use Rattle.sema_core.specs.SemaEdges.{sema_releases, sema_acquires}
use Rattle.sema_core.specs.declared.calls.SemaStage.{SemaStage}
use Rattle.sema_core.specs.declared.calls.SemaStage.TheVariants as stage
use Rattle.sema_core.specs.SemaStages.{sema_event, sema_meaning}
use Rattle.run_record.specs.declared.entered.ObjectEvent.TheVariants as event
use Rattle.run_record.specs.declared.entered.ObjectReply.TheVariants as reply
use Rattle.run_record.specs.Journals.{FollowsFrom}
use Rattle.run_record.specs.Parts.{Part, read_as, stages}
use Rattle.run_record.specs.Record.{ObjectEntry}

-- the stage that a call begins with
abbrev pub sema_stage : SemaCall → SemaStage
sema_stage (calls.Acquire weight) = stage.Acquire weight
sema_stage (calls.TryAcquire weight) = stage.Try weight
sema_stage (calls.Release weight) = stage.Release weight

-- a call on a semaphore, from a stage on
abbrev pub sema_part : ℕ → SemaStage → Part LockReply
sema_part object from = stages event.Sema reply.Sema sema_event sema_meaning object from

abbrev pub sema_call : ℕ → SemaCall → Part (Reply ℕ)
sema_call object call = read_as replies.Lock (sema_part object (sema_stage call))

-- nothing of the declared size is held, and nobody waits
abbrev pub IsSemaJournal : (workers size : ℕ) → List ObjectEntry → Type 0
IsSemaJournal workers size journal = FollowsFrom event.Sema reply.Sema next sema_releases sema_acquires (start workers size) journal
