-- A mutex `m` is locked and unlocked by worker 0, and locked by worker 1.
use Rattle.std.specs.Prelude.{ℕ, List, [], ◌∷◌}
use Rattle.mutex_core.specs.declared.event.MutexEvent.TheVariants.{Arrive, Unlock}
use Rattle.mutex_core.specs.declared.reply.MutexReply.TheVariants.{Arrived, Unlocked}
use Rattle.mutex_core.specs.declared.reply.Arrival.TheVariants.{Acquired}
use Rattle.mutex_core.specs.declared.reply.Unlocking.TheVariants.{Free}
use Rattle.script_calls.specs.declared.call.Operation.TheVariants as operations
use Rattle.script_calls.specs.declared.call.Reply.{Reply}
use Rattle.script_calls.specs.declared.call.Reply.TheVariants as replies
use Rattle.script_calls.specs.declared.outcome.Outcome.{Outcome}
use Rattle.sync_types.specs.declared.lock_call.LockReply.TheVariants.{Done}
use Rattle.sync_types.specs.declared.lock_call.MutexCall.TheVariants as calls
use Rattle.workload.specs.declared.object.ObjectKind.TheVariants.{Mutex}
use Rattle.workload.specs.Plan.{Plan}
use Rattle.run_record.specs.declared.entered.ObjectEvent.TheVariants as event
use Rattle.run_record.specs.declared.entered.ObjectReply.TheVariants as reply
use Rattle.run_record.specs.declared.made.Made.TheVariants.{Entered}
use Rattle.run_record.specs.Record.{Record, ObjectEntry}
use Rattle.run_laws.specs.Examples.{declared, on, plan_of, returned, entry, record_of}

abbrev pub plan : Plan
plan = plan_of (declared 109 Mutex ∷ []) (on 0 (operations.Mutex calls.Lock) ∷ on 0 (operations.Mutex calls.Unlock) ∷ []) (on 0 (operations.Mutex calls.Lock) ∷ [])

abbrev pub done : Reply ℕ
done = replies.Lock Done

abbrev pub outcome : Outcome
outcome = returned (done ∷ done ∷ []) (done ∷ [])

-- a worker has the mutex at once
abbrev pub locks : ℕ → ObjectEntry
locks worker = entry worker (event.Mutex (Arrive 0)) (reply.Mutex (Arrived Acquired))

-- a worker unlocks it, and nobody waits
abbrev pub unlocks : ℕ → ObjectEntry
unlocks worker = entry worker (event.Mutex Unlock) (reply.Mutex (Unlocked Free))

-- what the two workers made, and in which order it came to the mutex
abbrev pub in_order : List ObjectEntry → Record
in_order journal = record_of (journal ∷ []) (Entered 1 (locks 0) ∷ Entered 1 (unlocks 0) ∷ []) (Entered 1 (locks 1) ∷ [])

-- worker 1 has it behind the unlock
abbrev pub one_after_the_other : Record
one_after_the_other = in_order (locks 0 ∷ unlocks 0 ∷ locks 1 ∷ [])

-- worker 1 has it before the unlock, while worker 0 has it
abbrev pub held_by_two : Record
held_by_two = in_order (locks 0 ∷ locks 1 ∷ unlocks 0 ∷ [])
