-- Worker 0 stores 1 in an int64 `x`, and then tries a mutex `m`, which worker 1 has. Worker 1 unlocks it and loads `x`.
use Rattle.std.specs.Prelude.{ℕ, pos, true, false, List, [], ◌∷◌}
use Rattle.mutex_core.specs.declared.event.MutexEvent.TheVariants.{Arrive, Try, Unlock}
use Rattle.mutex_core.specs.declared.reply.MutexReply.TheVariants.{Arrived, Tried, Unlocked}
use Rattle.mutex_core.specs.declared.reply.Arrival.TheVariants.{Acquired}
use Rattle.mutex_core.specs.declared.reply.Unlocking.TheVariants.{Free}
use Rattle.script_calls.specs.declared.call.Operation.TheVariants as operations
use Rattle.script_calls.specs.declared.call.Reply.TheVariants as replies
use Rattle.script_calls.specs.declared.outcome.Outcome.{Outcome}
use Rattle.script_calls.specs.declared.outcome.Outcome.TheVariants as outcomes
use Rattle.sync_model.specs.declared.item.Item.{Item}
use Rattle.sync_model.specs.declared.item.SharedCall.TheVariants as shared
use Rattle.sync_model.specs.declared.item.SharedEntry.{SharedEntry}
use Rattle.sync_model.specs.declared.item.SharedReply.TheVariants as shared_replies
use Rattle.sync_types.specs.declared.atomic_object.AtomicCall.TheVariants.{Load, Store}
use Rattle.sync_types.specs.declared.atomic_object.AtomicKind.TheVariants as kinds
use Rattle.sync_types.specs.declared.atomic_object.AtomicReply.TheVariants as answers
use Rattle.sync_types.specs.declared.atomic_object.Number.{Number}
use Rattle.sync_types.specs.declared.atomic_object.Number.TheVariants.{Int64}
use Rattle.sync_types.specs.declared.end.End.TheVariants as ends
use Rattle.sync_types.specs.declared.lock_call.LockReply.TheVariants as lock_replies
use Rattle.sync_types.specs.declared.lock_call.MutexCall.TheVariants as calls
use Rattle.workload.specs.declared.object.ObjectKind.TheVariants.{Mutex, Atomic}
use Rattle.workload.specs.Plan.{Plan}
use Rattle.run_record.specs.declared.entered.ObjectEvent.TheVariants as event
use Rattle.run_record.specs.declared.entered.ObjectReply.TheVariants as reply
use Rattle.run_record.specs.declared.made.Made.TheVariants.{Shared, Entered}
use Rattle.run_record.specs.Record.{Record, ObjectEntry}
use Rattle.run_laws.specs.Examples.{declared, on, plan_of, none_known, entry}

abbrev pub number : ℕ → Number
number n = Int64 (pos n)

abbrev pub plan : Plan
plan = plan_of (declared 109 Mutex ∷ declared 120 (Atomic kinds.Int64) ∷ [])
    (on 1 (operations.Atomic (Store (number 1))) ∷ on 0 (operations.Mutex calls.TryLock) ∷ [])
    (on 0 (operations.Mutex calls.Lock) ∷ on 0 (operations.Mutex calls.Unlock) ∷ on 1 (operations.Atomic Load) ∷ [])

-- the try fails and the load finds this number; at the end `x` has 1
abbrev pub outcome : ℕ → Outcome
outcome value = outcomes.Done (record {
  replies = (replies.Atomic answers.Done ∷ replies.Lock (lock_replies.Tried false) ∷ []) ∷ (replies.Lock lock_replies.Done ∷ replies.Lock lock_replies.Done ∷ replies.Atomic (answers.Held (number value)) ∷ []) ∷ [];
  ends = ends.Number 1 (number 1) ∷ [];
})

-- the store is the one entry of the history, and the load of this number has the same number as its place: 0 before the store, and 1 behind it
abbrev pub stores : Item
stores = record { call = shared.Atomic 0 (Store (number 1)); reply = shared_replies.Atomic answers.Done; place = 0; entry = true; front = none_known }

abbrev pub loads : ℕ → Item
loads value = record { call = shared.Atomic 0 Load; reply = shared_replies.Atomic (answers.Held (number value)); place = value; entry = false; front = none_known }

abbrev pub stored : SharedEntry
stored = record { caller = 0; call = shared.Atomic 0 (Store (number 1)); reply = shared_replies.Atomic answers.Done }

-- worker 1 has the mutex, worker 0, who knows its own store, doesn't get it, and worker 1 unlocks it, with these numbers
abbrev pub has_it : ℕ → ObjectEntry
has_it time = record (entry 1 (event.Mutex (Arrive 0)) (reply.Mutex (Arrived Acquired))) { time = time }

abbrev pub fails : ℕ → ObjectEntry
fails time = record (entry 0 (event.Mutex Try) (reply.Mutex (Tried false))) { front = 1 ∷ 0 ∷ []; time = time }

abbrev pub gives_up : ℕ → ObjectEntry
gives_up time = record (entry 1 (event.Mutex Unlock) (reply.Mutex (Unlocked Free))) { time = time }

abbrev pub journal : (locks tries unlocks : ℕ) → List ObjectEntry
journal locks tries unlocks = has_it locks ∷ fails tries ∷ gives_up unlocks ∷ []

-- the load finds this number
abbrev pub found : (value locks tries unlocks : ℕ) → Record
found value locks tries unlocks = record {
  history = stored ∷ [];
  journals = [] ∷ journal locks tries unlocks ∷ [] ∷ [];
  lists = (Shared stores ∷ Entered 1 (fails tries) ∷ []) ∷ (Entered 1 (has_it locks) ∷ Entered 1 (gives_up unlocks) ∷ Shared (loads value) ∷ []) ∷ [];
}
