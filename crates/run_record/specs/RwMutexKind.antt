-- The calls of a reader/writer mutex and its journal in a record.
use Rattle.std.specs.Prelude.{◌≡◌, ℕ, Bool, true, false, ◌&&◌, if◌then◌else◌, List, [], ◌∷◌, map, Ok}
use Rattle.script_calls.specs.declared.call.Reply.{Reply}
use Rattle.script_calls.specs.declared.call.Reply.TheVariants as replies
use Rattle.sync_types.specs.declared.lock_call.LockReply.{LockReply}
use Rattle.sync_types.specs.declared.lock_call.LockReply.TheVariants as outcome
use Rattle.sync_types.specs.declared.lock_call.RwMutexCall.{RwMutexCall}
use Rattle.sync_types.specs.declared.lock_call.RwMutexCall.TheVariants as calls
use Rattle.sync_model.specs.declared.answer.Answer.TheVariants.{Done, Halted}
use Rattle.sync_model.specs.declared.journal.Deed.{Deed}
use Rattle.sync_model.specs.declared.journal.Deed.TheVariants.{Event, Refused, Halt}
use Rattle.sync_model.specs.declared.journal.Entry.{Entry}
use Rattle.rw_core.specs.declared.event.RwEvent.{RwEvent}
use Rattle.rw_core.specs.declared.event.RwEvent.TheVariants as rw_events
use Rattle.rw_core.specs.declared.reply.RwReply.{RwReply}
use Rattle.rw_core.specs.declared.reply.RwReply.TheVariants.{Still}
use Rattle.rw_core.specs.RwMachine.{next, start}
use Rattle.rw_core.specs.Edges.{acquires, releases}
use Rattle.protocols.specs.declared.rw_mutex.RwMutexStage.{RwMutexStage}
use Rattle.protocols.specs.declared.rw_mutex.RwMutexStage.TheVariants as stage
use Rattle.protocols.specs.RwMutexStages.{rw_event, rw_meaning}
use Rattle.protocols.specs.Spelling.{CallAnswer, Spells}
use Rattle.run_record.specs.declared.entered.ObjectEvent.TheVariants as event
use Rattle.run_record.specs.declared.entered.ObjectReply.TheVariants as reply
use Rattle.run_record.specs.Journals.{FollowsFrom}
use Rattle.run_record.specs.Parts.{Part, lifted, read_as, stages}
use Rattle.run_record.specs.Record.{ObjectEntry}
use Rattle.run_record.specs.declared.made.Made.TheVariants.{Entered}

-- the stage that a call begins with
abbrev pub rw_mutex_stage : RwMutexCall → RwMutexStage
rw_mutex_stage calls.Lock = stage.Lock
rw_mutex_stage calls.Unlock = stage.Unlock
rw_mutex_stage calls.TryLock = stage.TryLock
rw_mutex_stage calls.RLock = stage.RLock
rw_mutex_stage calls.RUnlock = stage.RUnlock
rw_mutex_stage calls.TryRLock = stage.TryRLock

-- ---- a writer's lock

abbrev pub RwDeed : Type 0
RwDeed = Deed RwEvent RwReply

-- by these events a writer that waits asks whether it goes on, and leaves where it was granted the lock
abbrev pub asks : RwEvent → Bool
asks (rw_events.WriteWoken now) = true
asks rw_events.Leave = true
asks event = false

abbrev pub says_still : RwReply → Bool
says_still Still = true
says_still reply = false

-- it asked, and waits on: nothing changed
abbrev pub is_still : RwDeed → Bool
is_still (Event event reply) = says_still reply && asks event
is_still (Refused event misuse) = false
is_still (Halt misuse) = false

-- the deeds but for each such one before the last
abbrev pub up_to_the_last : List RwDeed → List RwDeed
up_to_the_last [] = []
up_to_the_last (last ∷ []) = last ∷ []
up_to_the_last (deed ∷ (next ∷ rest)) = if is_still deed then up_to_the_last (next ∷ rest) else deed ∷ up_to_the_last (next ∷ rest)

-- the deeds but for each such one between the first and the last
abbrev pub without_stills : List RwDeed → List RwDeed
without_stills [] = []
without_stills (first ∷ rest) = first ∷ up_to_the_last rest

-- But for those, the deeds are the ones of a lock by the protocol. A writer may ask at any time, and needn't ask before it goes on: so any number of them may stand between the first and the last deed, whatever the protocol's own stages ask.
abbrev pub WriteLocks : List RwDeed → CallAnswer LockReply → Type 0
WriteLocks deeds answer = (spelt : List RwDeed) × (without_stills deeds ≡ without_stills spelt) × Spells rw_event rw_meaning stage.Lock spelt answer

-- the items are entries of the object's journal, and their deeds are those of a writer's lock
abbrev pub write_part : ℕ → Part LockReply
write_part object items answer =
    (entries : List (Entry RwEvent RwReply)) × (items ≡ map (λ entry. Entered object (lifted event.RwMutex reply.RwMutex entry)) entries) × WriteLocks (map (λ entry. entry.deed) entries) answer

-- a deed that acquires is the last, and the call has the lock; behind any other this goes on
abbrev pub IsLastWhere : Bool → List RwDeed → CallAnswer LockReply → Type 0 → Type 0
IsLastWhere true rest answer on = (rest ≡ []) × (answer ≡ Done (Ok outcome.Done))
IsLastWhere false rest answer on = on

-- the deeds end at the first that acquires, or that a halt refused
abbrev pub EndsAtFirst : List RwDeed → CallAnswer LockReply → Type 0
EndsAtFirst [] answer = ⊥
EndsAtFirst (Event event reply ∷ rest) answer = IsLastWhere (acquires reply) rest answer (EndsAtFirst rest answer)
EndsAtFirst (Refused event misuse ∷ rest) answer = (rest ≡ []) × (answer ≡ Halted misuse)
EndsAtFirst (Halt misuse ∷ rest) answer = ⊥

-- ---- each call

-- every other call is spelt by the protocol as it is
abbrev pub rw_part : ℕ → RwMutexCall → Part LockReply
rw_part object calls.Lock = write_part object
rw_part object call = stages event.RwMutex reply.RwMutex rw_event rw_meaning object (rw_mutex_stage call)

abbrev pub rw_mutex_call : ℕ → RwMutexCall → Part (Reply ℕ)
rw_mutex_call object call = read_as replies.Lock (rw_part object call)

-- it begins unlocked
abbrev pub IsRwMutexJournal : ℕ → List ObjectEntry → Type 0
IsRwMutexJournal workers journal = FollowsFrom event.RwMutex reply.RwMutex next (λ event reply. releases reply) (λ event reply. acquires reply) (start workers) journal
