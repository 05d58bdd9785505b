-- A small run, and the record that is kept of it: two workers, a map and a mutex. Worker 1 comes while worker 0 has the mutex, waits, and finds what worker 0 stored.
use Rattle.std.specs.Prelude.{ℕ, true, false, List, [], ◌∷◌, Some}
use Rattle.sync_types.specs.declared.map_object.MapCall.TheVariants as map_calls
use Rattle.sync_types.specs.declared.map_object.MapReply.TheVariants as map_replies
use Rattle.sync_model.specs.declared.item.Item.{Item}
use Rattle.sync_model.specs.declared.item.SharedCall.{SharedCall}
use Rattle.sync_model.specs.declared.item.SharedCall.TheVariants as calls
use Rattle.sync_model.specs.declared.item.SharedReply.{SharedReply}
use Rattle.sync_model.specs.declared.item.SharedReply.TheVariants as replies
use Rattle.sync_model.specs.declared.journal.Deed.TheVariants.{Event}
use Rattle.mutex_core.specs.declared.event.MutexEvent.{MutexEvent}
use Rattle.mutex_core.specs.declared.event.MutexEvent.TheVariants as events
use Rattle.mutex_core.specs.declared.reply.MutexReply.{MutexReply}
use Rattle.mutex_core.specs.declared.reply.MutexReply.TheVariants as answers
use Rattle.mutex_core.specs.declared.reply.Arrival.TheVariants as arrivals
use Rattle.mutex_core.specs.declared.reply.Resumption.TheVariants as resumptions
use Rattle.mutex_core.specs.declared.reply.Unlocking.TheVariants as unlockings
use Rattle.workload.specs.declared.object.ObjectKind.TheVariants as kinds
use Rattle.workload.specs.Plan.{Plan}
use Rattle.run_record.specs.declared.entered.ObjectEvent.TheVariants as object_events
use Rattle.run_record.specs.declared.entered.ObjectReply.TheVariants as object_replies
use Rattle.run_record.specs.declared.made.Made.TheVariants.{Shared, Entered}
use Rattle.run_record.specs.Record.{Record, ObjectEntry}
use Rattle.kept_record.specs.Keeping.{Act}

-- map `t`, which is object 1, and mutex `m`, which is object 2; scripts are of no account here
abbrev pub plan : Plan
plan = record {
  workers = 2;
  objects = record { name = 116 ∷ []; kind = kinds.Map } ∷ record { name = 109 ∷ []; kind = kinds.Mutex } ∷ [];
  dormant = false ∷ false ∷ [];
  scripts = [] ∷ [] ∷ [];
  schedule = [];
}

abbrev pub store : SharedCall
store = calls.Map 0 (map_calls.Store 0 5)

abbrev pub load : SharedCall
load = calls.Map 0 (map_calls.Load 0)

abbrev pub stored : SharedReply
stored = replies.Map map_replies.Done

abbrev pub found : SharedReply
found = replies.Map (map_replies.Found (Some 5))

-- ---- what was made, with no word on places, fronts and numbers

abbrev pub called : (worker : ℕ) → SharedCall → SharedReply → Act
called worker call reply = record { worker = worker; made = Shared (record { call = call; reply = reply; place = 0; entry = false; front = [] }) }

abbrev pub on_mutex : (worker : ℕ) → MutexEvent → MutexReply → Act
on_mutex worker event answer =
    record { worker = worker; made = Entered 2 (record { caller = worker; deed = Event (object_events.Mutex event) (object_replies.Mutex answer); front = []; knew = 0; time = 0 }) }

abbrev pub acts : List Act
acts =
    on_mutex 0 (events.Arrive 0) (answers.Arrived arrivals.Acquired)
    ∷ on_mutex 1 (events.Arrive 0) (answers.Arrived (arrivals.Queued 1))
    ∷ called 0 store stored
    ∷ on_mutex 0 events.Unlock (answers.Unlocked (unlockings.Woke 1))
    ∷ on_mutex 1 (events.Woken 0) (answers.Resumed resumptions.Acquired)
    ∷ called 1 load found
    ∷ on_mutex 1 events.Unlock (answers.Unlocked unlockings.Free)
    ∷ []

-- ---- the record

-- the entry with a number along the journal, its number among all that was made, and what its worker knew behind it
abbrev pub entry : (worker number time : ℕ) → List ℕ → MutexEvent → MutexReply → ObjectEntry
entry worker number time front event answer = record { caller = worker; deed = Event (object_events.Mutex event) (object_replies.Mutex answer); front = front; knew = number; time = time }

abbrev pub arrived : ObjectEntry
arrived = entry 0 0 0 (0 ∷ 0 ∷ []) (events.Arrive 0) (answers.Arrived arrivals.Acquired)

abbrev pub queued : ObjectEntry
queued = entry 1 1 1 (0 ∷ 0 ∷ []) (events.Arrive 0) (answers.Arrived (arrivals.Queued 1))

-- it releases what worker 0 knows: its own call
abbrev pub unlocked : ObjectEntry
unlocked = entry 0 2 3 (1 ∷ 0 ∷ []) events.Unlock (answers.Unlocked (unlockings.Woke 1))

-- it acquires, so worker 1 knows that call from here on
abbrev pub resumed : ObjectEntry
resumed = entry 1 3 4 (1 ∷ 0 ∷ []) (events.Woken 0) (answers.Resumed resumptions.Acquired)

abbrev pub freed : ObjectEntry
freed = entry 1 4 6 (1 ∷ 1 ∷ []) events.Unlock (answers.Unlocked unlockings.Free)

abbrev pub storing : Item
storing = record { call = store; reply = stored; place = 0; entry = true; front = 0 ∷ 0 ∷ [] }

abbrev pub loading : Item
loading = record { call = load; reply = found; place = 1; entry = false; front = 1 ∷ 0 ∷ [] }

abbrev pub kept : Record
kept = record {
  history = record { caller = 0; call = store; reply = stored } ∷ [];
  journals = [] ∷ [] ∷ (arrived ∷ queued ∷ unlocked ∷ resumed ∷ freed ∷ []) ∷ [];
  lists = (Entered 2 arrived ∷ Shared storing ∷ Entered 2 unlocked ∷ []) ∷ (Entered 2 queued ∷ Entered 2 resumed ∷ Shared loading ∷ Entered 2 freed ∷ []) ∷ [];
}
