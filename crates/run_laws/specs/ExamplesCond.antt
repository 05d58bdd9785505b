-- Worker 0 locks a mutex `m` and waits on its cond `c`, and worker 1 signals.
use Rattle.std.specs.Prelude.{List, [], ◌∷◌}
use Rattle.mutex_core.specs.declared.event.MutexEvent.TheVariants as on_mutex
use Rattle.mutex_core.specs.declared.reply.MutexReply.TheVariants.{Arrived, Unlocked}
use Rattle.mutex_core.specs.declared.reply.Arrival.TheVariants.{Acquired}
use Rattle.mutex_core.specs.declared.reply.Unlocking.TheVariants.{Free}
use Rattle.script_calls.specs.declared.call.Operation.TheVariants as operations
use Rattle.script_calls.specs.declared.call.Reply.TheVariants as replies
use Rattle.script_calls.specs.declared.outcome.Outcome.{Outcome}
use Rattle.sync_types.specs.declared.lock_call.LockReply.TheVariants as locked
use Rattle.sync_types.specs.declared.lock_call.MutexCall.TheVariants.{Lock}
use Rattle.sync_types.specs.declared.wait_call.CondCall.TheVariants as calls
use Rattle.wait_cores.specs.declared.notify.NotifyEvent.TheVariants.{Ticket, Signal, Leave}
use Rattle.wait_cores.specs.declared.notify.NotifyReply.TheVariants.{Done}
use Rattle.workload.specs.declared.object.ObjectKind.TheVariants as kinds
use Rattle.workload.specs.Plan.{Plan}
use Rattle.run_record.specs.declared.entered.ObjectEvent.TheVariants as event
use Rattle.run_record.specs.declared.entered.ObjectReply.TheVariants as reply
use Rattle.run_record.specs.declared.made.Made.TheVariants.{Entered}
use Rattle.run_record.specs.Record.{Record, ObjectEntry}
use Rattle.run_laws.specs.Examples.{declared, on, plan_of, returned, entry, record_of}

abbrev pub plan : Plan
plan = plan_of (declared 109 kinds.Mutex ∷ declared 99 (kinds.Cond 0) ∷ []) (on 0 (operations.Mutex Lock) ∷ on 1 (operations.Cond calls.Wait) ∷ []) (on 1 (operations.Cond calls.Signal) ∷ [])

abbrev pub outcome : Outcome
outcome = returned (replies.Lock locked.Done ∷ replies.Returned ∷ []) (replies.Returned ∷ [])

-- worker 0 has the mutex at once, and unlocks it
abbrev pub locks : ObjectEntry
locks = entry 0 (event.Mutex (on_mutex.Arrive 0)) (reply.Mutex (Arrived Acquired))

abbrev pub unlocks : ObjectEntry
unlocks = entry 0 (event.Mutex on_mutex.Unlock) (reply.Mutex (Unlocked Free))

-- worker 0 takes a ticket, and leaves, since it was notified
abbrev pub takes_a_ticket : ObjectEntry
takes_a_ticket = entry 0 (event.Cond Ticket) (reply.Cond Done)

abbrev pub leaves : ObjectEntry
leaves = entry 0 (event.Cond Leave) (reply.Cond Done)

-- worker 1 signals
abbrev pub signals : ObjectEntry
signals = entry 1 (event.Cond Signal) (reply.Cond Done)

-- what the two workers made, and in which order it came to the cond
abbrev pub in_order : List ObjectEntry → Record
in_order journal =
    record_of ((locks ∷ unlocks ∷ locks ∷ []) ∷ journal ∷ [])
    (Entered 1 locks ∷ Entered 2 takes_a_ticket ∷ Entered 1 unlocks ∷ Entered 2 leaves ∷ Entered 1 locks ∷ [])
    (Entered 2 signals ∷ [])

-- the signal notifies the one that waits
abbrev pub notified : Record
notified = in_order (takes_a_ticket ∷ signals ∷ leaves ∷ [])

-- the signal comes first, and notifies nobody
abbrev pub notified_too_early : Record
notified_too_early = in_order (signals ∷ takes_a_ticket ∷ leaves ∷ [])
