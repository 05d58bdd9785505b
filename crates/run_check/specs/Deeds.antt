-- What was done on an object, and what it answered, read from their words.
use Rattle.std.specs.Prelude.{ℕ, ℤ, Option, Some, None}
use Rattle.std.specs.Option.{option_map}
use Rattle.sync_types.specs.declared.misuse.Misuse.{Misuse}
use Rattle.sync_model.specs.declared.journal.Deed.{Deed}
use Rattle.sync_model.specs.declared.journal.Deed.TheVariants as deeds
use Rattle.mutex_core.specs.declared.event.MutexEvent.TheVariants as mutex_events
use Rattle.mutex_core.specs.declared.event.MutexEvent.{MutexEvent}
use Rattle.mutex_core.specs.declared.reply.MutexReply.TheVariants as mutex_replies
use Rattle.mutex_core.specs.declared.reply.MutexReply.{MutexReply}
use Rattle.mutex_core.specs.declared.reply.Arrival.TheVariants as mutex_arrivals
use Rattle.mutex_core.specs.declared.reply.Resumption.TheVariants as mutex_resumptions
use Rattle.mutex_core.specs.declared.reply.Unlocking.TheVariants as mutex_unlockings
use Rattle.rw_core.specs.declared.event.RwEvent.TheVariants as rw_events
use Rattle.rw_core.specs.declared.event.RwEvent.{RwEvent}
use Rattle.rw_core.specs.declared.reply.RwReply.TheVariants as rw_replies
use Rattle.rw_core.specs.declared.reply.RwReply.{RwReply}
use Rattle.rw_core.specs.declared.reply.Arrival.TheVariants as rw_arrivals
use Rattle.rw_core.specs.declared.reply.Resumption.TheVariants as rw_resumptions
use Rattle.rw_core.specs.declared.reply.Unlocking.TheVariants as rw_unlockings
use Rattle.wait_cores.specs.declared.notify.NotifyEvent.TheVariants as cond_events
use Rattle.wait_cores.specs.declared.notify.NotifyEvent.{NotifyEvent}
use Rattle.wait_cores.specs.declared.notify.NotifyReply.TheVariants as cond_replies
use Rattle.wait_cores.specs.declared.notify.NotifyReply.{NotifyReply}
use Rattle.wait_cores.specs.declared.group.GroupEvent.TheVariants as group_events
use Rattle.wait_cores.specs.declared.group.GroupEvent.{GroupEvent}
use Rattle.wait_cores.specs.declared.group.GroupReply.TheVariants as group_replies
use Rattle.wait_cores.specs.declared.group.GroupReply.{GroupReply}
use Rattle.wait_cores.specs.declared.once.OnceEvent.TheVariants as once_events
use Rattle.wait_cores.specs.declared.once.OnceEvent.{OnceEvent}
use Rattle.wait_cores.specs.declared.once.OnceReply.TheVariants as once_replies
use Rattle.wait_cores.specs.declared.once.OnceReply.{OnceReply}
use Rattle.pool_core.specs.declared.pool_event.PoolEvent.TheVariants as pool_events
use Rattle.pool_core.specs.declared.pool_event.PoolEvent.{PoolEvent}
use Rattle.pool_core.specs.declared.pool_event.PoolReply.TheVariants as pool_replies
use Rattle.pool_core.specs.declared.pool_event.PoolReply.{PoolReply}
use Rattle.sema_core.specs.declared.event.SemaEvent.{SemaEvent}
use Rattle.sema_core.specs.declared.event.SemaEvent.TheVariants as sema_events
use Rattle.sema_core.specs.declared.event.SemaReply.{SemaReply}
use Rattle.sema_core.specs.declared.event.SemaReply.TheVariants as sema_replies
use Rattle.flight_core.specs.declared.event.FlightEvent.{FlightEvent}
use Rattle.flight_core.specs.declared.event.FlightEvent.TheVariants as flight_events
use Rattle.flight_core.specs.declared.event.FlightReply.{FlightReply}
use Rattle.flight_core.specs.declared.event.FlightReply.TheVariants as flight_replies
use Rattle.starts_core.specs.declared.starts.StartEvent.TheVariants as start_events
use Rattle.starts_core.specs.declared.starts.StartEvent.{StartEvent}
use Rattle.starts_core.specs.declared.starts.StartReply.TheVariants as start_replies
use Rattle.starts_core.specs.declared.starts.StartReply.{StartReply}
use Rattle.run_record.specs.declared.entered.ObjectEvent.{ObjectEvent}
use Rattle.run_record.specs.declared.entered.ObjectEvent.TheVariants as object_events
use Rattle.run_record.specs.declared.entered.ObjectReply.{ObjectReply}
use Rattle.run_record.specs.declared.entered.ObjectReply.TheVariants as object_replies
use Rattle.record_text.specs.declared.event.EventWord.{EventWord}
use Rattle.record_text.specs.declared.event.EventWord.TheVariants as events
use Rattle.record_text.specs.declared.answer.AnswerWord.{AnswerWord}
use Rattle.record_text.specs.declared.answer.AnswerWord.TheVariants as words
use Rattle.run_check.specs.Replies.{int32_told}
use Rattle.run_check.specs.declared.told.deeds.Speaker.{Speaker}
use Rattle.run_check.specs.declared.told.deeds.Speaker.TheVariants as speakers

-- ---- the events and answers of each kind; an answer belongs to an event

abbrev pub mutex_event_told : EventWord → Option MutexEvent
mutex_event_told (events.Arrive now) = Some (mutex_events.Arrive now)
mutex_event_told events.Try = Some mutex_events.Try
mutex_event_told events.Unlock = Some mutex_events.Unlock
mutex_event_told (events.Woken now) = Some (mutex_events.Woken now)
mutex_event_told event = None

-- a ticket is the number of the worker that has it
abbrev pub mutex_reply_told : ℕ → MutexEvent → AnswerWord → Option MutexReply
mutex_reply_told worker (mutex_events.Arrive now) words.Acquired = Some (mutex_replies.Arrived mutex_arrivals.Acquired)
mutex_reply_told worker (mutex_events.Arrive now) words.Queued = Some (mutex_replies.Arrived (mutex_arrivals.Queued worker))
mutex_reply_told worker mutex_events.Try (words.Tried taken) = Some (mutex_replies.Tried taken)
mutex_reply_told worker mutex_events.Unlock words.Free = Some (mutex_replies.Unlocked mutex_unlockings.Free)
mutex_reply_told worker mutex_events.Unlock (words.Woke ticket) = Some (mutex_replies.Unlocked (mutex_unlockings.Woke ticket))
mutex_reply_told worker mutex_events.Unlock (words.Handed ticket) = Some (mutex_replies.Unlocked (mutex_unlockings.Handed ticket))
mutex_reply_told worker mutex_events.Unlock (words.Misused misuse) = Some (mutex_replies.Unlocked (mutex_unlockings.Misuse misuse))
mutex_reply_told worker (mutex_events.Woken now) words.Acquired = Some (mutex_replies.Resumed mutex_resumptions.Acquired)
mutex_reply_told worker (mutex_events.Woken now) words.Requeued = Some (mutex_replies.Resumed mutex_resumptions.Requeued)
mutex_reply_told worker (mutex_events.Woken now) words.Still = Some mutex_replies.Still
mutex_reply_told worker event answer = None

abbrev pub rw_event_told : EventWord → Option RwEvent
rw_event_told events.ReadArrive = Some rw_events.ReadArrive
rw_event_told events.ReadTry = Some rw_events.ReadTry
rw_event_told events.ReadUnlock = Some rw_events.ReadUnlock
rw_event_told (events.WriteArrive now) = Some (rw_events.WriteArrive now)
rw_event_told events.WriteTry = Some rw_events.WriteTry
rw_event_told (events.WriteWoken now) = Some (rw_events.WriteWoken now)
rw_event_told events.WriteUnlock = Some rw_events.WriteUnlock
rw_event_told events.Leave = Some rw_events.Leave
rw_event_told event = None

abbrev pub rw_arrival_told : AnswerWord → Option RwReply
rw_arrival_told words.Acquired = Some (rw_replies.Arrived rw_arrivals.Acquired)
rw_arrival_told words.Queued = Some (rw_replies.Arrived rw_arrivals.Queued)
rw_arrival_told answer = None

abbrev pub rw_trial_told : AnswerWord → Option RwReply
rw_trial_told (words.Tried taken) = Some (rw_replies.Tried taken)
rw_trial_told answer = None

abbrev pub rw_unlocking_told : AnswerWord → Option RwReply
rw_unlocking_told words.Done = Some (rw_replies.Unlocked rw_unlockings.Done)
rw_unlocking_told (words.Misused misuse) = Some (rw_replies.Unlocked (rw_unlockings.Misuse misuse))
rw_unlocking_told answer = None

abbrev pub rw_resumption_told : AnswerWord → Option RwReply
rw_resumption_told words.Acquired = Some (rw_replies.Resumed rw_resumptions.Acquired)
rw_resumption_told words.Queued = Some (rw_replies.Resumed rw_resumptions.Queued)
rw_resumption_told words.Requeued = Some (rw_replies.Resumed rw_resumptions.Requeued)
rw_resumption_told words.Still = Some rw_replies.Still
rw_resumption_told answer = None

abbrev pub rw_leaving_told : AnswerWord → Option RwReply
rw_leaving_told words.Done = Some rw_replies.Left
rw_leaving_told words.Still = Some rw_replies.Still
rw_leaving_told answer = None

abbrev pub rw_reply_told : RwEvent → AnswerWord → Option RwReply
rw_reply_told rw_events.ReadArrive answer = rw_arrival_told answer
rw_reply_told (rw_events.WriteArrive now) answer = rw_arrival_told answer
rw_reply_told rw_events.ReadTry answer = rw_trial_told answer
rw_reply_told rw_events.WriteTry answer = rw_trial_told answer
rw_reply_told rw_events.ReadUnlock answer = rw_unlocking_told answer
rw_reply_told rw_events.WriteUnlock answer = rw_unlocking_told answer
rw_reply_told (rw_events.WriteWoken now) answer = rw_resumption_told answer
rw_reply_told rw_events.Leave answer = rw_leaving_told answer

abbrev pub cond_event_told : EventWord → Option NotifyEvent
cond_event_told events.Ticket = Some cond_events.Ticket
cond_event_told events.Signal = Some cond_events.Signal
cond_event_told events.Broadcast = Some cond_events.Broadcast
cond_event_told events.Leave = Some cond_events.Leave
cond_event_told event = None

abbrev pub cond_reply_told : AnswerWord → Option NotifyReply
cond_reply_told words.Done = Some cond_replies.Done
cond_reply_told words.Still = Some cond_replies.Still
cond_reply_told answer = None

abbrev pub group_event_told : EventWord → Option GroupEvent
group_event_told (events.Add amount) = option_map group_events.Add (int32_told amount)
group_event_told events.Wait = Some group_events.Wait
group_event_told events.Leave = Some group_events.Leave
group_event_told event = None

abbrev pub group_reply_told : AnswerWord → Option GroupReply
group_reply_told words.Done = Some group_replies.Done
group_reply_told words.Queued = Some group_replies.Queued
group_reply_told (words.Misused misuse) = Some (group_replies.Misused misuse)
group_reply_told words.Still = Some group_replies.Still
group_reply_told answer = None

-- of a once: its function came to `comes_to` where it ends here, and it keeps `kept`
module _ {T : Type 0} where
  abbrev pub once_event_told : T → EventWord → Option (OnceEvent T)
  once_event_told comes_to events.Begin = Some once_events.Begin
  once_event_told comes_to events.End = Some (once_events.End comes_to)
  once_event_told comes_to events.Leave = Some once_events.Leave
  once_event_told comes_to event = None

  abbrev pub once_reply_told : T → OnceEvent T → AnswerWord → Option (OnceReply T)
  once_reply_told kept once_events.Begin words.Run = Some once_replies.Run
  once_reply_told kept once_events.Begin words.Queued = Some once_replies.Queued
  once_reply_told kept once_events.Begin words.Ran = Some (once_replies.Done kept)
  once_reply_told kept (once_events.End came_to) words.Done = Some once_replies.Ended
  once_reply_told kept once_events.Leave words.Done = Some (once_replies.Left kept)
  once_reply_told kept once_events.Leave words.Still = Some once_replies.Still
  once_reply_told kept event answer = None

-- of a part of a pool
abbrev pub pool_event_told : ℕ → EventWord → Option (PoolEvent ℕ)
pool_event_told part (events.Put item) = Some (pool_events.Put item)
pool_event_told part events.LookOwn = Some pool_events.LookOwn
pool_event_told part events.LookOther = Some (pool_events.LookOther part)
pool_event_told part events.LookVictim = Some (pool_events.LookVictim part)
pool_event_told part events.Sweep = Some pool_events.Sweep
pool_event_told part event = None

abbrev pub put_reply_told : AnswerWord → Option (PoolReply ℕ)
put_reply_told words.Done = Some pool_replies.Kept
put_reply_told answer = None

abbrev pub look_reply_told : AnswerWord → Option (PoolReply ℕ)
look_reply_told (words.Item item) = Some (pool_replies.Item item)
look_reply_told words.Nothing = Some pool_replies.Nothing
look_reply_told answer = None

abbrev pub sweep_reply_told : AnswerWord → Option (PoolReply ℕ)
sweep_reply_told words.Done = Some pool_replies.Swept
sweep_reply_told answer = None

abbrev pub pool_reply_told : PoolEvent ℕ → AnswerWord → Option (PoolReply ℕ)
pool_reply_told (pool_events.Put item) answer = put_reply_told answer
pool_reply_told pool_events.LookOwn answer = look_reply_told answer
pool_reply_told (pool_events.LookOther part) answer = look_reply_told answer
pool_reply_told (pool_events.LookVictim part) answer = look_reply_told answer
pool_reply_told pool_events.Sweep answer = sweep_reply_told answer

abbrev pub sema_event_told : EventWord → Option SemaEvent
sema_event_told (events.Acquire weight) = Some (sema_events.Acquire weight)
sema_event_told (events.TryAcquire weight) = Some (sema_events.Try weight)
sema_event_told (events.Release weight) = Some (sema_events.Release weight)
sema_event_told events.Leave = Some sema_events.Leave
sema_event_told event = None

abbrev pub sema_reply_told : AnswerWord → Option SemaReply
sema_reply_told words.Done = Some sema_replies.Done
sema_reply_told words.Queued = Some sema_replies.Queued
sema_reply_told words.Refused = Some sema_replies.Refused
sema_reply_told (words.Misused misuse) = Some (sema_replies.Misused misuse)
sema_reply_told words.Still = Some sema_replies.Still
sema_reply_told answer = None

abbrev pub flight_event_told : EventWord → Option FlightEvent
flight_event_told (events.Join key) = Some (flight_events.Join key)
flight_event_told (events.Land value) = Some (flight_events.Land value)
flight_event_told events.Leave = Some flight_events.Leave
flight_event_told event = None

abbrev pub flight_reply_told : AnswerWord → Option FlightReply
flight_reply_told words.Lead = Some flight_replies.Lead
flight_reply_told words.Queued = Some flight_replies.Queued
flight_reply_told (words.Tried shared) = Some (flight_replies.Landed shared)
flight_reply_told (words.Left value) = Some (flight_replies.Left value)
flight_reply_told words.Still = Some flight_replies.Still
flight_reply_told answer = None

abbrev pub start_event_told : EventWord → Option StartEvent
start_event_told (events.Start worker) = Some (start_events.Start worker)
start_event_told events.End = Some start_events.End
start_event_told events.Leave = Some start_events.Leave
start_event_told event = None

abbrev pub start_reply_told : AnswerWord → Option StartReply
start_reply_told words.Done = Some start_replies.Done
start_reply_told words.Go = Some start_replies.Go
start_reply_told words.Never = Some start_replies.Never
start_reply_told words.Still = Some start_replies.Still
start_reply_told answer = None

-- ---- by the object

abbrev pub event_told : Speaker → EventWord → Option ObjectEvent
event_told speakers.Silent event = None
event_told (speakers.Mutex worker) event = option_map object_events.Mutex (mutex_event_told event)
event_told speakers.RwMutex event = option_map object_events.RwMutex (rw_event_told event)
event_told speakers.Cond event = option_map object_events.Cond (cond_event_told event)
event_told speakers.WaitGroup event = option_map object_events.WaitGroup (group_event_told event)
event_told (speakers.Once comes_to kept) event = option_map object_events.Once (once_event_told comes_to event)
event_told (speakers.OnceFunc code) event = option_map object_events.OnceFunc (once_event_told code event)
event_told (speakers.OnceValue value) event = option_map object_events.OnceValue (once_event_told value event)
event_told (speakers.PoolPart part) event = option_map object_events.Pool (pool_event_told part event)
event_told speakers.Sema event = option_map object_events.Sema (sema_event_told event)
event_told speakers.Flight event = option_map object_events.Flight (flight_event_told event)
event_told speakers.Starts event = option_map object_events.Starts (start_event_told event)

-- the answer to an event of that object
abbrev pub answer_told : Speaker → ObjectEvent → AnswerWord → Option ObjectReply
answer_told (speakers.Mutex worker) (object_events.Mutex event) answer = option_map object_replies.Mutex (mutex_reply_told worker event answer)
answer_told speakers.RwMutex (object_events.RwMutex event) answer = option_map object_replies.RwMutex (rw_reply_told event answer)
answer_told speakers.Cond (object_events.Cond event) answer = option_map object_replies.Cond (cond_reply_told answer)
answer_told speakers.WaitGroup (object_events.WaitGroup event) answer = option_map object_replies.WaitGroup (group_reply_told answer)
answer_told (speakers.Once comes_to kept) (object_events.Once event) answer = option_map object_replies.Once (once_reply_told kept event answer)
answer_told (speakers.OnceFunc code) (object_events.OnceFunc event) answer = option_map object_replies.OnceFunc (once_reply_told code event answer)
answer_told (speakers.OnceValue value) (object_events.OnceValue event) answer = option_map object_replies.OnceValue (once_reply_told value event answer)
answer_told (speakers.PoolPart part) (object_events.Pool event) answer = option_map object_replies.Pool (pool_reply_told event answer)
answer_told speakers.Sema (object_events.Sema event) answer = option_map object_replies.Sema (sema_reply_told answer)
answer_told speakers.Flight (object_events.Flight event) answer = option_map object_replies.Flight (flight_reply_told answer)
answer_told speakers.Starts (object_events.Starts event) answer = option_map object_replies.Starts (start_reply_told answer)
answer_told speaker event answer = None

-- the misuse of the halt that an answer tells of
abbrev pub halted_in : AnswerWord → Option Misuse
halted_in (words.Halted misuse) = Some misuse
halted_in answer = None

-- the event was refused, where a halt is answered
abbrev pub answered : Speaker → ObjectEvent → AnswerWord → Option Misuse → Option (Deed ObjectEvent ObjectReply)
answered speaker event answer (Some misuse) = Some (deeds.Refused event misuse)
answered speaker event answer None = option_map (deeds.Event event) (answer_told speaker event answer)

abbrev pub entry_told : Speaker → Option ObjectEvent → AnswerWord → Option (Deed ObjectEvent ObjectReply)
entry_told speaker None answer = None
entry_told speaker (Some event) answer = answered speaker event answer (halted_in answer)

abbrev pub deed_told : Speaker → EventWord → AnswerWord → Option (Deed ObjectEvent ObjectReply)
deed_told speaker (events.Halt misuse) answer = Some (deeds.Halt misuse)
deed_told speaker event answer = entry_told speaker (event_told speaker event) answer
