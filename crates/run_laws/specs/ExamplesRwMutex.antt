-- A reader/writer mutex `w` is locked for reading and unlocked by worker 0, and locked for writing by worker 1.
use Rattle.std.specs.Prelude.{ℕ, List, [], ◌∷◌}
use Rattle.rw_core.specs.declared.event.RwEvent.TheVariants.{ReadArrive, ReadUnlock, WriteArrive, Leave}
use Rattle.rw_core.specs.declared.reply.RwReply.TheVariants.{Arrived, Unlocked, Left}
use Rattle.rw_core.specs.declared.reply.Arrival.TheVariants.{Acquired, Queued}
use Rattle.rw_core.specs.declared.reply.Unlocking.TheVariants as unlocking
use Rattle.script_calls.specs.declared.call.Operation.TheVariants as operations
use Rattle.script_calls.specs.declared.call.Reply.{Reply}
use Rattle.script_calls.specs.declared.call.Reply.TheVariants as replies
use Rattle.script_calls.specs.declared.outcome.Outcome.{Outcome}
use Rattle.sync_types.specs.declared.lock_call.LockReply.TheVariants.{Done}
use Rattle.sync_types.specs.declared.lock_call.RwMutexCall.TheVariants as calls
use Rattle.workload.specs.declared.object.ObjectKind.TheVariants.{RwMutex}
use Rattle.workload.specs.Plan.{Plan}
use Rattle.run_record.specs.declared.entered.ObjectEvent.TheVariants as event
use Rattle.run_record.specs.declared.entered.ObjectReply.TheVariants as reply
use Rattle.run_record.specs.declared.made.Made.TheVariants.{Entered}
use Rattle.run_record.specs.Record.{Record, ObjectEntry}
use Rattle.run_laws.specs.Examples.{declared, on, plan_of, returned, entry, record_of}

abbrev pub plan : Plan
plan = plan_of (declared 119 RwMutex ∷ []) (on 0 (operations.RwMutex calls.RLock) ∷ on 0 (operations.RwMutex calls.RUnlock) ∷ []) (on 0 (operations.RwMutex calls.Lock) ∷ [])

abbrev pub done : Reply ℕ
done = replies.Lock Done

abbrev pub outcome : Outcome
outcome = returned (done ∷ done ∷ []) (done ∷ [])

-- worker 0 has it for reading at once, and unlocks it
abbrev pub reads : ObjectEntry
reads = entry 0 (event.RwMutex ReadArrive) (reply.RwMutex (Arrived Acquired))

abbrev pub read_unlocks : ObjectEntry
read_unlocks = entry 0 (event.RwMutex ReadUnlock) (reply.RwMutex (Unlocked unlocking.Done))

-- worker 1 has it for writing at once
abbrev pub writes : ObjectEntry
writes = entry 1 (event.RwMutex (WriteArrive 0)) (reply.RwMutex (Arrived Acquired))

-- what the two workers made, and in which order it came to the mutex
abbrev pub in_order : List ObjectEntry → Record
in_order journal = record_of (journal ∷ []) (Entered 1 reads ∷ Entered 1 read_unlocks ∷ []) (Entered 1 writes ∷ [])

-- the writer has it behind the reader's unlock
abbrev pub one_after_the_other : Record
one_after_the_other = in_order (reads ∷ read_unlocks ∷ writes ∷ [])

-- the writer has it before that unlock, while the reader has it
abbrev pub beside_a_reader : Record
beside_a_reader = in_order (reads ∷ writes ∷ read_unlocks ∷ [])

-- worker 1 waits behind worker 0, and leaves
abbrev pub waits : ObjectEntry
waits = entry 1 (event.RwMutex (WriteArrive 0)) (reply.RwMutex (Arrived Queued))

abbrev pub leaves : ObjectEntry
leaves = entry 1 (event.RwMutex Leave) (reply.RwMutex Left)

abbrev pub waiting : List ObjectEntry → Record
waiting journal = record_of (journal ∷ []) (Entered 1 reads ∷ Entered 1 read_unlocks ∷ []) (Entered 1 waits ∷ Entered 1 leaves ∷ [])

-- behind the reader's unlock, which grants it the lock
abbrev pub granted : Record
granted = waiting (reads ∷ waits ∷ read_unlocks ∷ leaves ∷ [])

-- before that unlock
abbrev pub left_too_early : Record
left_too_early = waiting (reads ∷ waits ∷ leaves ∷ read_unlocks ∷ [])
