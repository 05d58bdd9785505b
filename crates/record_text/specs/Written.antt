-- The line that an item of a record is written as. It is a function of the record, so that the text says what it says of any record.
use Rattle.std.specs.Prelude.{ℕ, ◌+◌, ℤ, pos, negsuc, true, List, Option, Some, None}
use Rattle.std.specs.Option.{option_map}
use Rattle.sync_types.specs.declared.atomic_object.AtomicReply.{AtomicReply}
use Rattle.sync_types.specs.declared.atomic_object.AtomicReply.TheVariants as atomic_replies
use Rattle.sync_types.specs.declared.atomic_object.Number.{Number}
use Rattle.sync_types.specs.declared.atomic_object.Number.TheVariants as numbers
use Rattle.sync_types.specs.declared.map_object.MapReply.{MapReply}
use Rattle.sync_types.specs.declared.map_object.MapReply.TheVariants as map_replies
use Rattle.sync_model.specs.declared.item.SharedCall.{SharedCall}
use Rattle.sync_model.specs.declared.item.SharedCall.TheVariants as calls
use Rattle.sync_model.specs.declared.item.SharedReply.{SharedReply}
use Rattle.sync_model.specs.declared.item.SharedReply.TheVariants as answers
use Rattle.sync_model.specs.declared.journal.Deed.{Deed}
use Rattle.sync_model.specs.declared.journal.Deed.TheVariants as deeds
use Rattle.mutex_core.specs.declared.event.MutexEvent.{MutexEvent}
use Rattle.mutex_core.specs.declared.event.MutexEvent.TheVariants as mutex_events
use Rattle.mutex_core.specs.declared.reply.MutexReply.{MutexReply}
use Rattle.mutex_core.specs.declared.reply.MutexReply.TheVariants as mutex_replies
use Rattle.rw_core.specs.declared.event.RwEvent.{RwEvent}
use Rattle.rw_core.specs.declared.event.RwEvent.TheVariants as rw_events
use Rattle.rw_core.specs.declared.reply.RwReply.{RwReply}
use Rattle.rw_core.specs.declared.reply.RwReply.TheVariants as rw_replies
use Rattle.wait_cores.specs.declared.notify.NotifyEvent.{NotifyEvent}
use Rattle.wait_cores.specs.declared.notify.NotifyEvent.TheVariants as cond_events
use Rattle.wait_cores.specs.declared.notify.NotifyReply.{NotifyReply}
use Rattle.wait_cores.specs.declared.notify.NotifyReply.TheVariants as cond_replies
use Rattle.wait_cores.specs.declared.group.GroupEvent.{GroupEvent}
use Rattle.wait_cores.specs.declared.group.GroupEvent.TheVariants as group_events
use Rattle.wait_cores.specs.declared.group.GroupReply.{GroupReply}
use Rattle.wait_cores.specs.declared.group.GroupReply.TheVariants as group_replies
use Rattle.wait_cores.specs.declared.once.OnceEvent.{OnceEvent}
use Rattle.wait_cores.specs.declared.once.OnceEvent.TheVariants as once_events
use Rattle.wait_cores.specs.declared.once.OnceReply.{OnceReply}
use Rattle.wait_cores.specs.declared.once.OnceReply.TheVariants as once_replies
use Rattle.pool_core.specs.declared.pool_event.PoolEvent.{PoolEvent}
use Rattle.pool_core.specs.declared.pool_event.PoolEvent.TheVariants as pool_events
use Rattle.pool_core.specs.declared.pool_event.PoolReply.{PoolReply}
use Rattle.pool_core.specs.declared.pool_event.PoolReply.TheVariants as pool_replies
use Rattle.sema_core.specs.declared.event.SemaEvent.{SemaEvent}
use Rattle.sema_core.specs.declared.event.SemaEvent.TheVariants as sema_events
use Rattle.sema_core.specs.declared.event.SemaReply.{SemaReply}
use Rattle.sema_core.specs.declared.event.SemaReply.TheVariants as sema_replies
use Rattle.flight_core.specs.declared.event.FlightEvent.{FlightEvent}
use Rattle.flight_core.specs.declared.event.FlightEvent.TheVariants as flight_events
use Rattle.flight_core.specs.declared.event.FlightReply.{FlightReply}
use Rattle.flight_core.specs.declared.event.FlightReply.TheVariants as flight_replies
use Rattle.starts_core.specs.declared.starts.StartEvent.{StartEvent}
use Rattle.starts_core.specs.declared.starts.StartEvent.TheVariants as start_events
use Rattle.starts_core.specs.declared.starts.StartReply.{StartReply}
use Rattle.starts_core.specs.declared.starts.StartReply.TheVariants as start_replies
use Rattle.run_record.specs.declared.entered.ObjectEvent.{ObjectEvent}
use Rattle.run_record.specs.declared.entered.ObjectEvent.TheVariants as object_events
use Rattle.run_record.specs.declared.entered.ObjectReply.{ObjectReply}
use Rattle.run_record.specs.declared.entered.ObjectReply.TheVariants as object_replies
use Rattle.run_record.specs.declared.made.Made.{Made}
use Rattle.run_record.specs.declared.made.Made.TheVariants as made
use Rattle.record_text.specs.declared.event.EventWord.{EventWord}
use Rattle.record_text.specs.declared.event.EventWord.TheVariants as events
use Rattle.record_text.specs.declared.answer.AnswerWord.{AnswerWord}
use Rattle.record_text.specs.declared.answer.AnswerWord.TheVariants as words
use Rattle.record_text.specs.declared.item_line.ItemLine.{ItemLine}
use Rattle.record_text.specs.declared.item_line.PlacedReply.{PlacedReply}
use Rattle.record_text.specs.declared.item_line.PlacedReply.TheVariants as replies
use Rattle.record_text.specs.declared.item_line.Said.{Said}
use Rattle.record_text.specs.declared.item_line.Said.TheVariants as said
use Rattle.record_text.specs.declared.item_line.Whole.{Whole}
use Rattle.record_text.specs.declared.item_line.Whole.TheVariants as wholes
use Rattle.mutex_core.specs.declared.reply.Arrival.TheVariants as mutex_arrivals
use Rattle.mutex_core.specs.declared.reply.Unlocking.TheVariants as mutex_unlockings
use Rattle.mutex_core.specs.declared.reply.Resumption.TheVariants as mutex_resumptions
use Rattle.rw_core.specs.declared.reply.Arrival.TheVariants as rw_arrivals
use Rattle.rw_core.specs.declared.reply.Unlocking.TheVariants as rw_unlockings
use Rattle.rw_core.specs.declared.reply.Resumption.TheVariants as rw_resumptions

-- ---- a call on a map or an atomic, and a step of a cursor

-- a number below 0 is -1, or one less than a number below 0
abbrev pub whole_of : ℤ → Whole
whole_of (pos n) = wholes.Natural n
whole_of (negsuc n) = wholes.Below (n + 1)

abbrev pub number_reply : Number → PlacedReply
number_reply (numbers.Int32 z) = replies.Number (whole_of z)
number_reply (numbers.Int64 z) = replies.Number (whole_of z)
number_reply (numbers.Uint32 n) = replies.Number (wholes.Natural n)
number_reply (numbers.Uint64 n) = replies.Number (wholes.Natural n)
number_reply (numbers.Bool truth) = replies.Truth truth

abbrev pub atomic_reply : AtomicReply → PlacedReply
atomic_reply atomic_replies.Done = replies.Done
atomic_reply (atomic_replies.Held number) = number_reply number
atomic_reply (atomic_replies.Compared is_old) = replies.Truth is_old

abbrev pub map_reply : MapReply → PlacedReply
map_reply map_replies.Done = replies.Done
map_reply (map_replies.Found None) = replies.Absent
map_reply (map_replies.Found (Some value)) = replies.Valued value true
map_reply (map_replies.Settled value loaded) = replies.Valued value loaded
map_reply (map_replies.Compared is_old) = replies.Truth is_old

-- what is said of a shared call at its place; nothing, where the reply isn't one to such a call
abbrev pub shared_said : ℕ → SharedCall → SharedReply → Option Said
shared_said place (calls.Map map call) (answers.Map reply) = Some (said.Call place (map_reply reply))
shared_said place (calls.Atomic atomic call) (answers.Atomic reply) = Some (said.Call place (atomic_reply reply))
shared_said place (calls.Begin map) answers.Begun = Some (said.Begin place)
shared_said place (calls.Next begin) (answers.Shown shown) = Some (said.Next place shown)
shared_said place call reply = None

-- ---- an event on an object. What the function of a once came to isn't said, nor the part of a pool, which is the object

abbrev pub mutex_event : MutexEvent → EventWord
mutex_event (mutex_events.Arrive now) = events.Arrive now
mutex_event mutex_events.Try = events.Try
mutex_event mutex_events.Unlock = events.Unlock
mutex_event (mutex_events.Woken now) = events.Woken now

abbrev pub rw_event : RwEvent → EventWord
rw_event rw_events.ReadArrive = events.ReadArrive
rw_event rw_events.ReadTry = events.ReadTry
rw_event rw_events.ReadUnlock = events.ReadUnlock
rw_event (rw_events.WriteArrive now) = events.WriteArrive now
rw_event rw_events.WriteTry = events.WriteTry
rw_event (rw_events.WriteWoken now) = events.WriteWoken now
rw_event rw_events.WriteUnlock = events.WriteUnlock
rw_event rw_events.Leave = events.Leave

abbrev pub cond_event : NotifyEvent → EventWord
cond_event cond_events.Ticket = events.Ticket
cond_event cond_events.Signal = events.Signal
cond_event cond_events.Broadcast = events.Broadcast
cond_event cond_events.Leave = events.Leave

abbrev pub group_event : GroupEvent → EventWord
group_event (group_events.Add delta) = events.Add (whole_of delta)
group_event group_events.Wait = events.Wait
group_event group_events.Leave = events.Leave

abbrev pub once_event : {T : Type 0} → OnceEvent T → EventWord
once_event once_events.Begin = events.Begin
once_event (once_events.End came_to) = events.End
once_event once_events.Leave = events.Leave

abbrev pub pool_event : PoolEvent ℕ → EventWord
pool_event (pool_events.Put item) = events.Put item
pool_event pool_events.LookOwn = events.LookOwn
pool_event (pool_events.LookOther part) = events.LookOther
pool_event (pool_events.LookVictim part) = events.LookVictim
pool_event pool_events.Sweep = events.Sweep

abbrev pub sema_event : SemaEvent → EventWord
sema_event (sema_events.Acquire weight) = events.Acquire weight
sema_event (sema_events.Try weight) = events.TryAcquire weight
sema_event (sema_events.Release weight) = events.Release weight
sema_event sema_events.Leave = events.Leave

abbrev pub flight_event : FlightEvent → EventWord
flight_event (flight_events.Join key) = events.Join key
flight_event (flight_events.Land value) = events.Land value
flight_event flight_events.Leave = events.Leave

abbrev pub start_event : StartEvent → EventWord
start_event (start_events.Start worker) = events.Start worker
start_event start_events.End = events.End
start_event start_events.Leave = events.Leave

abbrev pub event_of : ObjectEvent → EventWord
event_of (object_events.Mutex event) = mutex_event event
event_of (object_events.RwMutex event) = rw_event event
event_of (object_events.Cond event) = cond_event event
event_of (object_events.WaitGroup event) = group_event event
event_of (object_events.Once event) = once_event event
event_of (object_events.OnceFunc event) = once_event event
event_of (object_events.OnceValue event) = once_event event
event_of (object_events.Pool event) = pool_event event
event_of (object_events.Sema event) = sema_event event
event_of (object_events.Flight event) = flight_event event
event_of (object_events.Starts event) = start_event event

-- ---- the answer

-- a mutex's ticket is the number of the worker that has it
abbrev pub mutex_answer : MutexReply → AnswerWord
mutex_answer (mutex_replies.Arrived mutex_arrivals.Acquired) = words.Acquired
mutex_answer (mutex_replies.Arrived (mutex_arrivals.Queued ticket)) = words.Queued
mutex_answer (mutex_replies.Tried taken) = words.Tried taken
mutex_answer (mutex_replies.Unlocked mutex_unlockings.Free) = words.Free
mutex_answer (mutex_replies.Unlocked (mutex_unlockings.Woke ticket)) = words.Woke ticket
mutex_answer (mutex_replies.Unlocked (mutex_unlockings.Handed ticket)) = words.Handed ticket
mutex_answer (mutex_replies.Unlocked (mutex_unlockings.Misuse misuse)) = words.Misused misuse
mutex_answer (mutex_replies.Resumed mutex_resumptions.Acquired) = words.Acquired
mutex_answer (mutex_replies.Resumed mutex_resumptions.Requeued) = words.Requeued
mutex_answer mutex_replies.Still = words.Still

abbrev pub rw_answer : RwReply → AnswerWord
rw_answer (rw_replies.Arrived rw_arrivals.Acquired) = words.Acquired
rw_answer (rw_replies.Arrived rw_arrivals.Queued) = words.Queued
rw_answer (rw_replies.Tried taken) = words.Tried taken
rw_answer (rw_replies.Unlocked rw_unlockings.Done) = words.Done
rw_answer (rw_replies.Unlocked (rw_unlockings.Misuse misuse)) = words.Misused misuse
rw_answer (rw_replies.Resumed rw_resumptions.Acquired) = words.Acquired
rw_answer (rw_replies.Resumed rw_resumptions.Queued) = words.Queued
rw_answer (rw_replies.Resumed rw_resumptions.Requeued) = words.Requeued
rw_answer rw_replies.Left = words.Done
rw_answer rw_replies.Still = words.Still

abbrev pub cond_answer : NotifyReply → AnswerWord
cond_answer cond_replies.Done = words.Done
cond_answer cond_replies.Still = words.Still

abbrev pub group_answer : GroupReply → AnswerWord
group_answer group_replies.Done = words.Done
group_answer group_replies.Queued = words.Queued
group_answer (group_replies.Misused misuse) = words.Misused misuse
group_answer group_replies.Still = words.Still

abbrev pub once_answer : {T : Type 0} → OnceReply T → AnswerWord
once_answer once_replies.Run = words.Run
once_answer once_replies.Queued = words.Queued
once_answer (once_replies.Done came_to) = words.Ran
once_answer once_replies.Ended = words.Done
once_answer (once_replies.Left came_to) = words.Done
once_answer once_replies.Still = words.Still

-- that an item was dropped has no word: a part has room for all items that are put into it
abbrev pub pool_answer : PoolReply ℕ → Option AnswerWord
pool_answer pool_replies.Kept = Some words.Done
pool_answer (pool_replies.Dropped item) = None
pool_answer (pool_replies.Item item) = Some (words.Item item)
pool_answer pool_replies.Nothing = Some words.Nothing
pool_answer pool_replies.Swept = Some words.Done
pool_answer pool_replies.Still = Some words.Still

abbrev pub sema_answer : SemaReply → AnswerWord
sema_answer sema_replies.Done = words.Done
sema_answer sema_replies.Queued = words.Queued
sema_answer sema_replies.Refused = words.Refused
sema_answer (sema_replies.Misused misuse) = words.Misused misuse
sema_answer sema_replies.Still = words.Still

abbrev pub flight_answer : FlightReply → AnswerWord
flight_answer flight_replies.Lead = words.Lead
flight_answer flight_replies.Queued = words.Queued
flight_answer (flight_replies.Landed shared) = words.Tried shared
flight_answer (flight_replies.Left value) = words.Left value
flight_answer flight_replies.Still = words.Still

abbrev pub start_answer : StartReply → AnswerWord
start_answer start_replies.Done = words.Done
start_answer start_replies.Go = words.Go
start_answer start_replies.Never = words.Never
start_answer start_replies.Still = words.Still

abbrev pub answer_of : ObjectReply → Option AnswerWord
answer_of (object_replies.Mutex reply) = Some (mutex_answer reply)
answer_of (object_replies.RwMutex reply) = Some (rw_answer reply)
answer_of (object_replies.Cond reply) = Some (cond_answer reply)
answer_of (object_replies.WaitGroup reply) = Some (group_answer reply)
answer_of (object_replies.Once reply) = Some (once_answer reply)
answer_of (object_replies.OnceFunc reply) = Some (once_answer reply)
answer_of (object_replies.OnceValue reply) = Some (once_answer reply)
answer_of (object_replies.Pool reply) = pool_answer reply
answer_of (object_replies.Sema reply) = Some (sema_answer reply)
answer_of (object_replies.Flight reply) = Some (flight_answer reply)
answer_of (object_replies.Starts reply) = Some (start_answer reply)

-- what is said of an entry of an object's journal, by its number there
abbrev pub entry_said : (object number : ℕ) → Deed ObjectEvent ObjectReply → Option Said
entry_said object number (deeds.Event event reply) = option_map (λ answer. said.Entered object number (event_of event) answer) (answer_of reply)
entry_said object number (deeds.Refused event misuse) = Some (said.Entered object number (event_of event) (words.Halted misuse))
entry_said object number (deeds.Halt misuse) = Some (said.Entered object number (events.Halt misuse) words.Done)

-- ---- the line

-- what is said of an item of a worker's list; an entry has this number in its object's journal
abbrev pub made_said : ℕ → Made → Option Said
made_said number (made.Shared item) = shared_said item.place item.call item.reply
made_said number (made.Entered object entry) = entry_said object number entry.deed

abbrev pub front_in : Made → List ℕ
front_in (made.Shared item) = item.front
front_in (made.Entered object entry) = entry.front

-- The line of an item of a worker's list, which belongs to this call of the worker's script, or to none, and which has this number in its object's journal, if it is an entry. Its words are `item_words` of it. An item that no objects for one thread answer so has none
abbrev pub item_line : (worker : ℕ) → (index : Option ℕ) → (number : ℕ) → Made → Option ItemLine
item_line worker index number item = option_map (λ said. record { worker = worker; index = index; front = front_in item; said = said }) (made_said number item)
