-- The calls of a cond and its journal in a record.
use Rattle.std.specs.Prelude.{ℕ, List}
use Rattle.script_calls.specs.declared.call.Reply.{Reply}
use Rattle.script_calls.specs.declared.call.Reply.TheVariants as replies
use Rattle.sync_types.specs.declared.wait_call.CondCall.{CondCall}
use Rattle.sync_types.specs.declared.wait_call.CondCall.TheVariants as calls
use Rattle.wait_cores.specs.NotifyMachine.{next, start}
use Rattle.wait_cores.specs.NotifyEdges.{notify_releases, notify_acquires}
use Rattle.protocols.specs.declared.cond.CondStage.{CondStage}
use Rattle.protocols.specs.declared.cond.CondStage.TheVariants as stage
use Rattle.protocols.specs.declared.mutex.MutexStage.TheVariants as mutex_stage
use Rattle.protocols.specs.CondStages.{cond_event, cond_meaning}
use Rattle.run_record.specs.declared.entered.ObjectEvent.TheVariants as event
use Rattle.run_record.specs.declared.entered.ObjectReply.TheVariants as reply
use Rattle.run_record.specs.Journals.{FollowsFrom}
use Rattle.run_record.specs.MutexKind.{mutex_part}
use Rattle.run_record.specs.Parts.{Part, and_then, read_as, stages}
use Rattle.run_record.specs.Record.{ObjectEntry}

-- a call of the protocol on the cond that is this object
abbrev pub cond_part : ℕ → CondStage → Part (Unit {0})
cond_part object from = stages event.Cond reply.Cond cond_event cond_meaning object from

-- a wait takes a ticket, unlocks the mutex, leaves the cond once its ticket is notified, and locks the mutex again
abbrev pub wait_part : ℕ → ℕ → Part (Reply ℕ)
wait_part object mutex =
    and_then (cond_part object stage.Ticket) (λ ticket.
    and_then (mutex_part mutex mutex_stage.Unlock) (λ unlocked.
    and_then (cond_part object stage.Leave) (λ left.
    read_as (λ locked. replies.Returned) (mutex_part mutex mutex_stage.Lock))))

-- of the cond that is this object, whose mutex is that one
abbrev pub cond_call : ℕ → ℕ → CondCall → Part (Reply ℕ)
cond_call object mutex calls.Wait = wait_part object mutex
cond_call object mutex calls.Signal = read_as (λ done. replies.Returned) (cond_part object stage.Signal)
cond_call object mutex calls.Broadcast = read_as (λ done. replies.Returned) (cond_part object stage.Broadcast)

-- nobody has a ticket at the start
abbrev pub IsCondJournal : ℕ → List ObjectEntry → Type 0
IsCondJournal workers journal = FollowsFrom event.Cond reply.Cond next notify_releases notify_acquires (start workers) journal
