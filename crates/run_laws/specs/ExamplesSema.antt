-- A weighted semaphore `s` has the size 1. Worker 0 acquires it and releases it, and worker 1 acquires it.
use Rattle.std.specs.Prelude.{ℕ, List, [], ◌∷◌}
use Rattle.script_calls.specs.declared.call.Operation.TheVariants as operations
use Rattle.script_calls.specs.declared.call.Reply.{Reply}
use Rattle.script_calls.specs.declared.call.Reply.TheVariants as replies
use Rattle.script_calls.specs.declared.outcome.Outcome.{Outcome}
use Rattle.sema_core.specs.declared.event.SemaEvent.TheVariants.{Acquire, Release, Leave}
use Rattle.sema_core.specs.declared.event.SemaReply.TheVariants.{Done, Queued}
use Rattle.sync_types.specs.declared.lock_call.LockReply.TheVariants as lock_reply
use Rattle.sync_types.specs.declared.sema_call.SemaCall.TheVariants as calls
use Rattle.workload.specs.declared.object.ObjectKind.TheVariants.{Sema}
use Rattle.workload.specs.Plan.{Plan}
use Rattle.run_record.specs.declared.entered.ObjectEvent.TheVariants as event
use Rattle.run_record.specs.declared.entered.ObjectReply.TheVariants as reply
use Rattle.run_record.specs.declared.made.Made.TheVariants.{Entered}
use Rattle.run_record.specs.Record.{Record, ObjectEntry}
use Rattle.run_laws.specs.Examples.{declared, on, plan_of, returned, entry, record_of}

abbrev pub plan : Plan
plan = plan_of (declared 115 (Sema 1) ∷ []) (on 0 (operations.Sema (calls.Acquire 1)) ∷ on 0 (operations.Sema (calls.Release 1)) ∷ []) (on 0 (operations.Sema (calls.Acquire 1)) ∷ [])

abbrev pub done : Reply ℕ
done = replies.Lock lock_reply.Done

abbrev pub outcome : Outcome
outcome = returned (done ∷ done ∷ []) (done ∷ [])

-- worker 0 has its weight at once, and gives it back
abbrev pub acquires : ObjectEntry
acquires = entry 0 (event.Sema (Acquire 1)) (reply.Sema Done)

abbrev pub releases : ObjectEntry
releases = entry 0 (event.Sema (Release 1)) (reply.Sema Done)

-- worker 1 waits behind worker 0, and leaves
abbrev pub waits : ObjectEntry
waits = entry 1 (event.Sema (Acquire 1)) (reply.Sema Queued)

abbrev pub leaves : ObjectEntry
leaves = entry 1 (event.Sema Leave) (reply.Sema Done)

-- what the two workers made, and in which order it came to the semaphore
abbrev pub in_order : List ObjectEntry → Record
in_order journal = record_of (journal ∷ []) (Entered 1 acquires ∷ Entered 1 releases ∷ []) (Entered 1 waits ∷ Entered 1 leaves ∷ [])

-- worker 1 leaves behind the release, which grants it its weight
abbrev pub granted : Record
granted = in_order (acquires ∷ waits ∷ releases ∷ leaves ∷ [])

-- before that release
abbrev pub left_too_early : Record
left_too_early = in_order (acquires ∷ waits ∷ leaves ∷ releases ∷ [])

-- or worker 1 has its weight at once
abbrev pub acquires_too : ObjectEntry
acquires_too = entry 1 (event.Sema (Acquire 1)) (reply.Sema Done)

-- while worker 0 has all that there is
abbrev pub held_by_two : Record
held_by_two = record_of ((acquires ∷ acquires_too ∷ releases ∷ []) ∷ []) (Entered 1 acquires ∷ Entered 1 releases ∷ []) (Entered 1 acquires_too ∷ [])
