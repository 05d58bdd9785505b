-- An entry of a journal is read back from the words in which it is written.
use Rattle.std.proofs.Common.{◌≡◌, ℕ, ℤ, Option, Some, None, refl, sym, ap, ◌∙◌, subst}
use Rattle.std.specs.Option.{option_map}
use Rattle.std.proofs.lemmas.Option.{none-some, same_Some}
use Rattle.sync_types.specs.declared.misuse.Misuse.{Misuse}
use Rattle.sync_model.specs.declared.journal.Deed.{Deed}
use Rattle.sync_model.specs.declared.journal.Deed.TheVariants as deeds
use Rattle.mutex_core.specs.declared.event.MutexEvent.{MutexEvent}
use Rattle.mutex_core.specs.declared.event.MutexEvent.TheVariants as mutex_events
use Rattle.mutex_core.specs.declared.reply.MutexReply.{MutexReply}
use Rattle.mutex_core.specs.declared.reply.MutexReply.TheVariants as mutex_replies
use Rattle.mutex_core.specs.declared.reply.Arrival.TheVariants as mutex_arrivals
use Rattle.mutex_core.specs.declared.reply.Resumption.TheVariants as mutex_resumptions
use Rattle.mutex_core.specs.declared.reply.Unlocking.TheVariants as mutex_unlockings
use Rattle.rw_core.specs.declared.event.RwEvent.{RwEvent}
use Rattle.rw_core.specs.declared.event.RwEvent.TheVariants as rw_events
use Rattle.rw_core.specs.declared.reply.RwReply.{RwReply}
use Rattle.rw_core.specs.declared.reply.RwReply.TheVariants as rw_replies
use Rattle.rw_core.specs.declared.reply.Arrival.TheVariants as rw_arrivals
use Rattle.rw_core.specs.declared.reply.Resumption.TheVariants as rw_resumptions
use Rattle.rw_core.specs.declared.reply.Unlocking.TheVariants as rw_unlockings
use Rattle.wait_cores.specs.declared.notify.NotifyEvent.{NotifyEvent}
use Rattle.wait_cores.specs.declared.notify.NotifyEvent.TheVariants as cond_events
use Rattle.wait_cores.specs.declared.notify.NotifyReply.{NotifyReply}
use Rattle.wait_cores.specs.declared.notify.NotifyReply.TheVariants as cond_replies
use Rattle.wait_cores.specs.declared.group.GroupEvent.{GroupEvent}
use Rattle.wait_cores.specs.declared.group.GroupEvent.TheVariants as group_events
use Rattle.wait_cores.specs.declared.group.GroupReply.{GroupReply}
use Rattle.wait_cores.specs.declared.group.GroupReply.TheVariants as group_replies
use Rattle.wait_cores.specs.declared.once.OnceEvent.{OnceEvent}
use Rattle.wait_cores.specs.declared.once.OnceEvent.TheVariants as once_events
use Rattle.wait_cores.specs.declared.once.OnceReply.{OnceReply}
use Rattle.wait_cores.specs.declared.once.OnceReply.TheVariants as once_replies
use Rattle.pool_core.specs.declared.pool_event.PoolEvent.{PoolEvent}
use Rattle.pool_core.specs.declared.pool_event.PoolEvent.TheVariants as pool_events
use Rattle.pool_core.specs.declared.pool_event.PoolReply.{PoolReply}
use Rattle.pool_core.specs.declared.pool_event.PoolReply.TheVariants as pool_replies
use Rattle.sema_core.specs.declared.event.SemaEvent.{SemaEvent}
use Rattle.sema_core.specs.declared.event.SemaEvent.TheVariants as sema_events
use Rattle.sema_core.specs.declared.event.SemaReply.{SemaReply}
use Rattle.sema_core.specs.declared.event.SemaReply.TheVariants as sema_replies
use Rattle.flight_core.specs.declared.event.FlightEvent.{FlightEvent}
use Rattle.flight_core.specs.declared.event.FlightEvent.TheVariants as flight_events
use Rattle.flight_core.specs.declared.event.FlightReply.{FlightReply}
use Rattle.flight_core.specs.declared.event.FlightReply.TheVariants as flight_replies
use Rattle.starts_core.specs.declared.starts.StartEvent.{StartEvent}
use Rattle.starts_core.specs.declared.starts.StartEvent.TheVariants as start_events
use Rattle.starts_core.specs.declared.starts.StartReply.{StartReply}
use Rattle.starts_core.specs.declared.starts.StartReply.TheVariants as start_replies
use Rattle.protocols.specs.declared.mutex.MutexStage.{MutexStage}
use Rattle.protocols.specs.declared.mutex.MutexStage.TheVariants as mutex_stages
use Rattle.protocols.specs.declared.once.OnceStage.{OnceStage}
use Rattle.protocols.specs.declared.once.OnceStage.TheVariants as once_stages
use Rattle.protocols.specs.declared.pool.PoolStage.{PoolStage}
use Rattle.protocols.specs.declared.pool.PoolStage.TheVariants as pool_stages
use Rattle.protocols.specs.declared.rw_mutex.RwMutexStage.{RwMutexStage}
use Rattle.protocols.specs.declared.rw_mutex.RwMutexStage.TheVariants as rw_stages
use Rattle.protocols.specs.MutexStages.{mutex_event, mutex_meaning}
use Rattle.protocols.specs.OnceStages.{once_event, once_meaning}
use Rattle.protocols.specs.PoolStages.{pool_event, pool_meaning}
use Rattle.protocols.specs.RwMutexStages.{rw_event, rw_meaning}
use Rattle.run_record.specs.declared.entered.ObjectEvent.{ObjectEvent}
use Rattle.run_record.specs.declared.entered.ObjectEvent.TheVariants as object_events
use Rattle.run_record.specs.declared.entered.ObjectReply.{ObjectReply}
use Rattle.run_record.specs.declared.entered.ObjectReply.TheVariants as object_replies
use Rattle.record_text.specs.declared.answer.AnswerWord.{AnswerWord}
use Rattle.record_text.specs.declared.answer.AnswerWord.TheVariants as words
use Rattle.record_text.specs.declared.event.EventWord.{EventWord}
use Rattle.record_text.specs.declared.event.EventWord.TheVariants as events
use Rattle.record_text.specs.declared.item_line.Said.TheVariants as said
use Rattle.record_text.specs.Written as written
use Rattle.record_text.proofs.EachDeed.{IsMeantBy, IsStep}
use Rattle.record_text.proofs.MeantItems.{IsMeant}
use Rattle.run_check.specs.declared.told.deeds.Speaker.{Speaker}
use Rattle.run_check.specs.declared.told.deeds.Speaker.TheVariants as speakers
use Rattle.run_check.specs.Deeds.{answer_told, answered, cond_event_told, cond_reply_told, deed_told, entry_told, event_told, flight_event_told, flight_reply_told, group_event_told, group_reply_told, halted_in, mutex_event_told, mutex_reply_told, once_event_told, once_reply_told, pool_event_told, pool_reply_told, rw_event_told, rw_reply_told, sema_event_told, sema_reply_told, start_event_told, start_reply_told}
use Rattle.run_check.specs.Replies.{int32_told}

-- ---- what a line leaves out

-- the number is one of 32 bits with a sign
abbrev pub IsSmall : ℤ → Type 0
IsSmall z = int32_told (written.whole_of z) ≡ Some z

abbrev pub GroupEventIs : GroupEvent → Type 0
GroupEventIs (group_events.Add delta) = IsSmall delta
GroupEventIs event = Unit {0}

-- a once's function came to this
abbrev pub OnceEventIs : {T : Type 0} → T → OnceEvent T → Type 0
OnceEventIs comes_to (once_events.End came_to) = comes_to ≡ came_to
OnceEventIs comes_to event = Unit {0}

-- a look is at this part
abbrev pub PoolEventIs : ℕ → PoolEvent ℕ → Type 0
PoolEventIs part (pool_events.LookOther other) = part ≡ other
PoolEventIs part (pool_events.LookVictim other) = part ≡ other
PoolEventIs part event = Unit {0}

-- the event is of the object's kind, and what its words leave out is what the object's place in the list says
abbrev pub EventIs : Speaker → ObjectEvent → Type 0
EventIs (speakers.Mutex worker) (object_events.Mutex event) = Unit {0}
EventIs speakers.RwMutex (object_events.RwMutex event) = Unit {0}
EventIs speakers.Cond (object_events.Cond event) = Unit {0}
EventIs speakers.WaitGroup (object_events.WaitGroup event) = GroupEventIs event
EventIs (speakers.Once comes_to kept) (object_events.Once event) = OnceEventIs comes_to event
EventIs (speakers.OnceFunc code) (object_events.OnceFunc event) = OnceEventIs code event
EventIs (speakers.OnceValue value) (object_events.OnceValue event) = OnceEventIs value event
EventIs (speakers.PoolPart part) (object_events.Pool event) = PoolEventIs part event
EventIs speakers.Sema (object_events.Sema event) = Unit {0}
EventIs speakers.Flight (object_events.Flight event) = Unit {0}
EventIs speakers.Starts (object_events.Starts event) = Unit {0}
EventIs speaker event = ⊥

-- who is queued has a ticket of its own number
abbrev pub MutexReplyIs : ℕ → MutexReply → Type 0
MutexReplyIs worker (mutex_replies.Arrived (mutex_arrivals.Queued ticket)) = worker ≡ ticket
MutexReplyIs worker reply = Unit {0}

-- a once keeps this
abbrev pub OnceReplyIs : {T : Type 0} → T → OnceReply T → Type 0
OnceReplyIs kept (once_replies.Done came_to) = kept ≡ came_to
OnceReplyIs kept (once_replies.Left came_to) = kept ≡ came_to
OnceReplyIs kept reply = Unit {0}

abbrev pub ReplyIs : Speaker → ObjectReply → Type 0
ReplyIs (speakers.Mutex worker) (object_replies.Mutex reply) = MutexReplyIs worker reply
ReplyIs (speakers.Once comes_to kept) (object_replies.Once reply) = OnceReplyIs kept reply
ReplyIs (speakers.OnceFunc code) (object_replies.OnceFunc reply) = OnceReplyIs code reply
ReplyIs (speakers.OnceValue value) (object_replies.OnceValue reply) = OnceReplyIs value reply
ReplyIs speaker reply = Unit {0}

-- ---- events

mutex_event_back : (event : MutexEvent) → mutex_event_told (written.mutex_event event) ≡ Some event
mutex_event_back (mutex_events.Arrive now) = refl
mutex_event_back mutex_events.Try = refl
mutex_event_back mutex_events.Unlock = refl
mutex_event_back (mutex_events.Woken now) = refl

rw_event_back : (event : RwEvent) → rw_event_told (written.rw_event event) ≡ Some event
rw_event_back rw_events.ReadArrive = refl
rw_event_back rw_events.ReadTry = refl
rw_event_back rw_events.ReadUnlock = refl
rw_event_back (rw_events.WriteArrive now) = refl
rw_event_back rw_events.WriteTry = refl
rw_event_back (rw_events.WriteWoken now) = refl
rw_event_back rw_events.WriteUnlock = refl
rw_event_back rw_events.Leave = refl

cond_event_back : (event : NotifyEvent) → cond_event_told (written.cond_event event) ≡ Some event
cond_event_back cond_events.Ticket = refl
cond_event_back cond_events.Signal = refl
cond_event_back cond_events.Broadcast = refl
cond_event_back cond_events.Leave = refl

group_event_back : (event : GroupEvent) → GroupEventIs event → group_event_told (written.group_event event) ≡ Some event
group_event_back (group_events.Add delta) small = ap (option_map group_events.Add) small
group_event_back group_events.Wait small = refl
group_event_back group_events.Leave small = refl

once_event_back : {T : Type 0} (comes_to : T) (event : OnceEvent T) → OnceEventIs comes_to event → once_event_told comes_to (written.once_event event) ≡ Some event
once_event_back comes_to once_events.Begin is = refl
once_event_back comes_to (once_events.End came_to) is = ap (λ v. Some (once_events.End v)) is
once_event_back comes_to once_events.Leave is = refl

pool_event_back : (part : ℕ) (event : PoolEvent ℕ) → PoolEventIs part event → pool_event_told part (written.pool_event event) ≡ Some event
pool_event_back part (pool_events.Put item) is = refl
pool_event_back part pool_events.LookOwn is = refl
pool_event_back part (pool_events.LookOther other) is = ap (λ p. Some (pool_events.LookOther p)) is
pool_event_back part (pool_events.LookVictim other) is = ap (λ p. Some (pool_events.LookVictim p)) is
pool_event_back part pool_events.Sweep is = refl

sema_event_back : (event : SemaEvent) → sema_event_told (written.sema_event event) ≡ Some event
sema_event_back (sema_events.Acquire weight) = refl
sema_event_back (sema_events.Try weight) = refl
sema_event_back (sema_events.Release weight) = refl
sema_event_back sema_events.Leave = refl

flight_event_back : (event : FlightEvent) → flight_event_told (written.flight_event event) ≡ Some event
flight_event_back (flight_events.Join key) = refl
flight_event_back (flight_events.Land value) = refl
flight_event_back flight_events.Leave = refl

start_event_back : (event : StartEvent) → start_event_told (written.start_event event) ≡ Some event
start_event_back (start_events.Start worker) = refl
start_event_back start_events.End = refl
start_event_back start_events.Leave = refl

pub event_back : (speaker : Speaker) (event : ObjectEvent) → EventIs speaker event → event_told speaker (written.event_of event) ≡ Some event
event_back (speakers.Mutex worker) (object_events.Mutex e) is = ap (option_map object_events.Mutex) (mutex_event_back e)
event_back speakers.RwMutex (object_events.RwMutex e) is = ap (option_map object_events.RwMutex) (rw_event_back e)
event_back speakers.Cond (object_events.Cond e) is = ap (option_map object_events.Cond) (cond_event_back e)
event_back speakers.WaitGroup (object_events.WaitGroup e) is = ap (option_map object_events.WaitGroup) (group_event_back e is)
event_back (speakers.Once comes_to kept) (object_events.Once e) is = ap (option_map object_events.Once) (once_event_back comes_to e is)
event_back (speakers.OnceFunc code) (object_events.OnceFunc e) is = ap (option_map object_events.OnceFunc) (once_event_back code e is)
event_back (speakers.OnceValue value) (object_events.OnceValue e) is = ap (option_map object_events.OnceValue) (once_event_back value e is)
event_back (speakers.PoolPart part) (object_events.Pool e) is = ap (option_map object_events.Pool) (pool_event_back part e is)
event_back speakers.Sema (object_events.Sema e) is = ap (option_map object_events.Sema) (sema_event_back e)
event_back speakers.Flight (object_events.Flight e) is = ap (option_map object_events.Flight) (flight_event_back e)
event_back speakers.Starts (object_events.Starts e) is = ap (option_map object_events.Starts) (start_event_back e)
event_back speaker event is = absurd is

-- ---- answers, each to an event at which it means something

mutex_reply_at : (worker : ℕ) (stage : MutexStage) (now : ℕ) (reply : MutexReply) → IsStep (mutex_meaning stage reply) → MutexReplyIs worker reply → mutex_reply_told worker (mutex_event stage now) (written.mutex_answer reply) ≡ Some reply
mutex_reply_at worker mutex_stages.Lock now (mutex_replies.Arrived mutex_arrivals.Acquired) step is = refl
mutex_reply_at worker mutex_stages.Lock now (mutex_replies.Arrived (mutex_arrivals.Queued ticket)) step is = ap (λ t. Some (mutex_replies.Arrived (mutex_arrivals.Queued t))) is
mutex_reply_at worker mutex_stages.TryLock now (mutex_replies.Tried taken) step is = refl
mutex_reply_at worker mutex_stages.Unlock now (mutex_replies.Unlocked mutex_unlockings.Free) step is = refl
mutex_reply_at worker mutex_stages.Unlock now (mutex_replies.Unlocked (mutex_unlockings.Woke ticket)) step is = refl
mutex_reply_at worker mutex_stages.Unlock now (mutex_replies.Unlocked (mutex_unlockings.Handed ticket)) step is = refl
mutex_reply_at worker mutex_stages.Unlock now (mutex_replies.Unlocked (mutex_unlockings.Misuse misuse)) step is = refl
mutex_reply_at worker mutex_stages.Resume now (mutex_replies.Resumed mutex_resumptions.Acquired) step is = refl
mutex_reply_at worker mutex_stages.Resume now (mutex_replies.Resumed mutex_resumptions.Requeued) step is = refl
mutex_reply_at worker mutex_stages.Resume now mutex_replies.Still step is = refl
mutex_reply_at worker stage now reply step is = absurd step

rw_reply_at : (stage : RwMutexStage) (now : ℕ) (reply : RwReply) → IsStep (rw_meaning stage reply) → rw_reply_told (rw_event stage now) (written.rw_answer reply) ≡ Some reply
rw_reply_at rw_stages.Lock now (rw_replies.Arrived rw_arrivals.Acquired) step = refl
rw_reply_at rw_stages.Lock now (rw_replies.Arrived rw_arrivals.Queued) step = refl
rw_reply_at rw_stages.RLock now (rw_replies.Arrived rw_arrivals.Acquired) step = refl
rw_reply_at rw_stages.RLock now (rw_replies.Arrived rw_arrivals.Queued) step = refl
rw_reply_at rw_stages.TryLock now (rw_replies.Tried taken) step = refl
rw_reply_at rw_stages.TryRLock now (rw_replies.Tried taken) step = refl
rw_reply_at rw_stages.Unlock now (rw_replies.Unlocked rw_unlockings.Done) step = refl
rw_reply_at rw_stages.Unlock now (rw_replies.Unlocked (rw_unlockings.Misuse misuse)) step = refl
rw_reply_at rw_stages.RUnlock now (rw_replies.Unlocked rw_unlockings.Done) step = refl
rw_reply_at rw_stages.RUnlock now (rw_replies.Unlocked (rw_unlockings.Misuse misuse)) step = refl
rw_reply_at rw_stages.Resume now (rw_replies.Resumed rw_resumptions.Acquired) step = refl
rw_reply_at rw_stages.Resume now (rw_replies.Resumed rw_resumptions.Queued) step = refl
rw_reply_at rw_stages.Resume now (rw_replies.Resumed rw_resumptions.Requeued) step = refl
rw_reply_at rw_stages.Resume now rw_replies.Still step = refl
rw_reply_at rw_stages.Inner now (rw_replies.Resumed rw_resumptions.Acquired) step = refl
rw_reply_at rw_stages.Inner now (rw_replies.Resumed rw_resumptions.Queued) step = refl
rw_reply_at rw_stages.Inner now (rw_replies.Resumed rw_resumptions.Requeued) step = refl
rw_reply_at rw_stages.Inner now rw_replies.Still step = refl
rw_reply_at rw_stages.LeaveWriting now rw_replies.Left step = refl
rw_reply_at rw_stages.LeaveWriting now rw_replies.Still step = refl
rw_reply_at rw_stages.Behind now rw_replies.Left step = refl
rw_reply_at rw_stages.Behind now rw_replies.Still step = refl
rw_reply_at rw_stages.LeaveReading now rw_replies.Left step = refl
rw_reply_at rw_stages.LeaveReading now rw_replies.Still step = refl
rw_reply_at stage now reply step = absurd step

cond_reply_back : (reply : NotifyReply) → cond_reply_told (written.cond_answer reply) ≡ Some reply
cond_reply_back cond_replies.Done = refl
cond_reply_back cond_replies.Still = refl

group_reply_back : (reply : GroupReply) → group_reply_told (written.group_answer reply) ≡ Some reply
group_reply_back group_replies.Done = refl
group_reply_back group_replies.Queued = refl
group_reply_back (group_replies.Misused misuse) = refl
group_reply_back group_replies.Still = refl

once_reply_at : {T : Type 0} (kept : T) (stage : OnceStage T) (now : ℕ) (reply : OnceReply T) → IsStep (once_meaning stage reply) → OnceReplyIs kept reply → once_reply_told kept (once_event stage now) (written.once_answer reply) ≡ Some reply
once_reply_at kept once_stages.Begin now once_replies.Run step is = refl
once_reply_at kept once_stages.Begin now once_replies.Queued step is = refl
once_reply_at kept once_stages.Begin now (once_replies.Done came_to) step is = ap (λ v. Some (once_replies.Done v)) is
once_reply_at kept (once_stages.End value) now once_replies.Ended step is = refl
once_reply_at kept once_stages.Leave now (once_replies.Left came_to) step is = ap (λ v. Some (once_replies.Left v)) is
once_reply_at kept once_stages.Leave now once_replies.Still step is = refl
once_reply_at kept stage now reply step is = absurd step

pool_reply_at : (stage : PoolStage) (now : ℕ) (reply : PoolReply ℕ) (word : AnswerWord) → IsStep (pool_meaning stage reply) → written.pool_answer reply ≡ Some word → pool_reply_told (pool_event stage now) word ≡ Some reply
pool_reply_at (pool_stages.Put put) now pool_replies.Kept word step is = ap (pool_reply_told (pool_events.Put put)) (sym (same_Some words.Done word is))
pool_reply_at (pool_stages.Put put) now (pool_replies.Dropped item) word step is = absurd (none-some word is)
pool_reply_at pool_stages.LookOwn now (pool_replies.Item item) word step is = ap (pool_reply_told pool_events.LookOwn) (sym (same_Some (words.Item item) word is))
pool_reply_at pool_stages.LookOwn now pool_replies.Nothing word step is = ap (pool_reply_told pool_events.LookOwn) (sym (same_Some words.Nothing word is))
pool_reply_at (pool_stages.LookOther part) now (pool_replies.Item item) word step is = ap (pool_reply_told (pool_events.LookOther part)) (sym (same_Some (words.Item item) word is))
pool_reply_at (pool_stages.LookOther part) now pool_replies.Nothing word step is = ap (pool_reply_told (pool_events.LookOther part)) (sym (same_Some words.Nothing word is))
pool_reply_at (pool_stages.LookVictim part) now (pool_replies.Item item) word step is = ap (pool_reply_told (pool_events.LookVictim part)) (sym (same_Some (words.Item item) word is))
pool_reply_at (pool_stages.LookVictim part) now pool_replies.Nothing word step is = ap (pool_reply_told (pool_events.LookVictim part)) (sym (same_Some words.Nothing word is))
pool_reply_at pool_stages.Sweep now pool_replies.Swept word step is = ap (pool_reply_told pool_events.Sweep) (sym (same_Some words.Done word is))
pool_reply_at stage now reply word step is = absurd step

sema_reply_back : (reply : SemaReply) → sema_reply_told (written.sema_answer reply) ≡ Some reply
sema_reply_back sema_replies.Done = refl
sema_reply_back sema_replies.Queued = refl
sema_reply_back sema_replies.Refused = refl
sema_reply_back (sema_replies.Misused misuse) = refl
sema_reply_back sema_replies.Still = refl

flight_reply_back : (reply : FlightReply) → flight_reply_told (written.flight_answer reply) ≡ Some reply
flight_reply_back flight_replies.Lead = refl
flight_reply_back flight_replies.Queued = refl
flight_reply_back (flight_replies.Landed shared) = refl
flight_reply_back (flight_replies.Left value) = refl
flight_reply_back flight_replies.Still = refl

start_reply_back : (reply : StartReply) → start_reply_told (written.start_answer reply) ≡ Some reply
start_reply_back start_replies.Done = refl
start_reply_back start_replies.Go = refl
start_reply_back start_replies.Never = refl
start_reply_back start_replies.Still = refl

mutex_reply_back : (worker : ℕ) (event : MutexEvent) (reply : MutexReply) → IsMeantBy mutex_event mutex_meaning event reply → MutexReplyIs worker reply → mutex_reply_told worker event (written.mutex_answer reply) ≡ Some reply
mutex_reply_back worker event reply (stage, now, same, step) is = subst (λ e. mutex_reply_told worker e (written.mutex_answer reply) ≡ Some reply) (sym same) (mutex_reply_at worker stage now reply step is)

rw_reply_back : (event : RwEvent) (reply : RwReply) → IsMeantBy rw_event rw_meaning event reply → rw_reply_told event (written.rw_answer reply) ≡ Some reply
rw_reply_back event reply (stage, now, same, step) = subst (λ e. rw_reply_told e (written.rw_answer reply) ≡ Some reply) (sym same) (rw_reply_at stage now reply step)

once_reply_back : {T : Type 0} (kept : T) (event : OnceEvent T) (reply : OnceReply T) → IsMeantBy once_event once_meaning event reply → OnceReplyIs kept reply → once_reply_told kept event (written.once_answer reply) ≡ Some reply
once_reply_back kept event reply (stage, now, same, step) is = subst (λ e. once_reply_told kept e (written.once_answer reply) ≡ Some reply) (sym same) (once_reply_at kept stage now reply step is)

pool_reply_back : (event : PoolEvent ℕ) (reply : PoolReply ℕ) (word : AnswerWord) → IsMeantBy pool_event pool_meaning event reply → written.pool_answer reply ≡ Some word → pool_reply_told event word ≡ Some reply
pool_reply_back event reply word (stage, now, same, step) is = subst (λ e. pool_reply_told e word ≡ Some reply) (sym same) (pool_reply_at stage now reply word step is)

-- the answer's word is that of the reply
at_word : {X : Type 0} (told : AnswerWord → Option X) (own word : AnswerWord) (x : X) → Some own ≡ Some word → told own ≡ Some x → told word ≡ Some x
at_word told own word x same is = sym (ap told (same_Some own word same)) ∙ is

answer_back : (speaker : Speaker) (event : ObjectEvent) (reply : ObjectReply) (word : AnswerWord) → EventIs speaker event → IsMeant event reply → ReplyIs speaker reply → written.answer_of reply ≡ Some word → answer_told speaker event word ≡ Some reply
answer_back (speakers.Mutex worker) (object_events.Mutex e) (object_replies.Mutex r) word of meant is says = ap (option_map object_replies.Mutex) (at_word (mutex_reply_told worker e) (written.mutex_answer r) word r says (mutex_reply_back worker e r meant is))
answer_back (speakers.Mutex worker) (object_events.Mutex e) reply word of meant is says = absurd meant
answer_back speakers.RwMutex (object_events.RwMutex e) (object_replies.RwMutex r) word of meant is says = ap (option_map object_replies.RwMutex) (at_word (rw_reply_told e) (written.rw_answer r) word r says (rw_reply_back e r meant))
answer_back speakers.RwMutex (object_events.RwMutex e) reply word of meant is says = absurd meant
answer_back speakers.Cond (object_events.Cond e) (object_replies.Cond r) word of meant is says = ap (option_map object_replies.Cond) (at_word cond_reply_told (written.cond_answer r) word r says (cond_reply_back r))
answer_back speakers.Cond (object_events.Cond e) reply word of meant is says = absurd meant
answer_back speakers.WaitGroup (object_events.WaitGroup e) (object_replies.WaitGroup r) word of meant is says = ap (option_map object_replies.WaitGroup) (at_word group_reply_told (written.group_answer r) word r says (group_reply_back r))
answer_back speakers.WaitGroup (object_events.WaitGroup e) reply word of meant is says = absurd meant
answer_back (speakers.Once comes_to kept) (object_events.Once e) (object_replies.Once r) word of meant is says = ap (option_map object_replies.Once) (at_word (once_reply_told kept e) (written.once_answer r) word r says (once_reply_back kept e r meant is))
answer_back (speakers.Once comes_to kept) (object_events.Once e) reply word of meant is says = absurd meant
answer_back (speakers.OnceFunc code) (object_events.OnceFunc e) (object_replies.OnceFunc r) word of meant is says = ap (option_map object_replies.OnceFunc) (at_word (once_reply_told code e) (written.once_answer r) word r says (once_reply_back code e r meant is))
answer_back (speakers.OnceFunc code) (object_events.OnceFunc e) reply word of meant is says = absurd meant
answer_back (speakers.OnceValue value) (object_events.OnceValue e) (object_replies.OnceValue r) word of meant is says = ap (option_map object_replies.OnceValue) (at_word (once_reply_told value e) (written.once_answer r) word r says (once_reply_back value e r meant is))
answer_back (speakers.OnceValue value) (object_events.OnceValue e) reply word of meant is says = absurd meant
answer_back (speakers.PoolPart part) (object_events.Pool e) (object_replies.Pool r) word of meant is says = ap (option_map object_replies.Pool) (pool_reply_back e r word meant says)
answer_back (speakers.PoolPart part) (object_events.Pool e) reply word of meant is says = absurd meant
answer_back speakers.Sema (object_events.Sema e) (object_replies.Sema r) word of meant is says = ap (option_map object_replies.Sema) (at_word sema_reply_told (written.sema_answer r) word r says (sema_reply_back r))
answer_back speakers.Sema (object_events.Sema e) reply word of meant is says = absurd meant
answer_back speakers.Flight (object_events.Flight e) (object_replies.Flight r) word of meant is says = ap (option_map object_replies.Flight) (at_word flight_reply_told (written.flight_answer r) word r says (flight_reply_back r))
answer_back speakers.Flight (object_events.Flight e) reply word of meant is says = absurd meant
answer_back speakers.Starts (object_events.Starts e) (object_replies.Starts r) word of meant is says = ap (option_map object_replies.Starts) (at_word start_reply_told (written.start_answer r) word r says (start_reply_back r))
answer_back speakers.Starts (object_events.Starts e) reply word of meant is says = absurd meant
answer_back speaker event reply word of meant is says = absurd of

-- ---- deeds

pub no_halt : (speaker : Speaker) (misuse : Misuse) (event : ObjectEvent) → event_told speaker (events.Halt misuse) ≡ Some event → ⊥
no_halt speakers.Silent misuse event is = none-some event is
no_halt (speakers.Mutex worker) misuse event is = none-some event is
no_halt speakers.RwMutex misuse event is = none-some event is
no_halt speakers.Cond misuse event is = none-some event is
no_halt speakers.WaitGroup misuse event is = none-some event is
no_halt (speakers.Once comes_to kept) misuse event is = none-some event is
no_halt (speakers.OnceFunc code) misuse event is = none-some event is
no_halt (speakers.OnceValue value) misuse event is = none-some event is
no_halt (speakers.PoolPart part) misuse event is = none-some event is
no_halt speakers.Sema misuse event is = none-some event is
no_halt speakers.Flight misuse event is = none-some event is
no_halt speakers.Starts misuse event is = none-some event is

-- an event is told by its word
told_event : (speaker : Speaker) (word : EventWord) (answer : AnswerWord) (event : ObjectEvent) → event_told speaker word ≡ Some event → deed_told speaker word answer ≡ answered speaker event answer (halted_in answer)
told_event speaker (events.Halt misuse) answer event is = absurd (no_halt speaker misuse event is)
told_event speaker word answer event is = ap (λ found. entry_told speaker found answer) is

-- no reply has the word of a halt
abbrev IsNoHalt : Option AnswerWord → Type 0
IsNoHalt None = Unit {0}
IsNoHalt (Some word) = halted_in word ≡ None

mutex_no_halt : (reply : MutexReply) → halted_in (written.mutex_answer reply) ≡ None
mutex_no_halt (mutex_replies.Arrived mutex_arrivals.Acquired) = refl
mutex_no_halt (mutex_replies.Arrived (mutex_arrivals.Queued ticket)) = refl
mutex_no_halt (mutex_replies.Tried taken) = refl
mutex_no_halt (mutex_replies.Unlocked mutex_unlockings.Free) = refl
mutex_no_halt (mutex_replies.Unlocked (mutex_unlockings.Woke ticket)) = refl
mutex_no_halt (mutex_replies.Unlocked (mutex_unlockings.Handed ticket)) = refl
mutex_no_halt (mutex_replies.Unlocked (mutex_unlockings.Misuse misuse)) = refl
mutex_no_halt (mutex_replies.Resumed mutex_resumptions.Acquired) = refl
mutex_no_halt (mutex_replies.Resumed mutex_resumptions.Requeued) = refl
mutex_no_halt mutex_replies.Still = refl

rw_no_halt : (reply : RwReply) → halted_in (written.rw_answer reply) ≡ None
rw_no_halt (rw_replies.Arrived rw_arrivals.Acquired) = refl
rw_no_halt (rw_replies.Arrived rw_arrivals.Queued) = refl
rw_no_halt (rw_replies.Tried taken) = refl
rw_no_halt (rw_replies.Unlocked rw_unlockings.Done) = refl
rw_no_halt (rw_replies.Unlocked (rw_unlockings.Misuse misuse)) = refl
rw_no_halt (rw_replies.Resumed rw_resumptions.Acquired) = refl
rw_no_halt (rw_replies.Resumed rw_resumptions.Queued) = refl
rw_no_halt (rw_replies.Resumed rw_resumptions.Requeued) = refl
rw_no_halt rw_replies.Left = refl
rw_no_halt rw_replies.Still = refl

cond_no_halt : (reply : NotifyReply) → halted_in (written.cond_answer reply) ≡ None
cond_no_halt cond_replies.Done = refl
cond_no_halt cond_replies.Still = refl

group_no_halt : (reply : GroupReply) → halted_in (written.group_answer reply) ≡ None
group_no_halt group_replies.Done = refl
group_no_halt group_replies.Queued = refl
group_no_halt (group_replies.Misused misuse) = refl
group_no_halt group_replies.Still = refl

once_no_halt : {T : Type 0} (reply : OnceReply T) → halted_in (written.once_answer reply) ≡ None
once_no_halt once_replies.Run = refl
once_no_halt once_replies.Queued = refl
once_no_halt (once_replies.Done came_to) = refl
once_no_halt once_replies.Ended = refl
once_no_halt (once_replies.Left came_to) = refl
once_no_halt once_replies.Still = refl

pool_no_halt : (reply : PoolReply ℕ) → IsNoHalt (written.pool_answer reply)
pool_no_halt pool_replies.Kept = refl
pool_no_halt (pool_replies.Dropped item) = tt
pool_no_halt (pool_replies.Item item) = refl
pool_no_halt pool_replies.Nothing = refl
pool_no_halt pool_replies.Swept = refl
pool_no_halt pool_replies.Still = refl

sema_no_halt : (reply : SemaReply) → halted_in (written.sema_answer reply) ≡ None
sema_no_halt sema_replies.Done = refl
sema_no_halt sema_replies.Queued = refl
sema_no_halt sema_replies.Refused = refl
sema_no_halt (sema_replies.Misused misuse) = refl
sema_no_halt sema_replies.Still = refl

flight_no_halt : (reply : FlightReply) → halted_in (written.flight_answer reply) ≡ None
flight_no_halt flight_replies.Lead = refl
flight_no_halt flight_replies.Queued = refl
flight_no_halt (flight_replies.Landed shared) = refl
flight_no_halt (flight_replies.Left value) = refl
flight_no_halt flight_replies.Still = refl

start_no_halt : (reply : StartReply) → halted_in (written.start_answer reply) ≡ None
start_no_halt start_replies.Done = refl
start_no_halt start_replies.Go = refl
start_no_halt start_replies.Never = refl
start_no_halt start_replies.Still = refl

answer_no_halt : (reply : ObjectReply) → IsNoHalt (written.answer_of reply)
answer_no_halt (object_replies.Mutex r) = mutex_no_halt r
answer_no_halt (object_replies.RwMutex r) = rw_no_halt r
answer_no_halt (object_replies.Cond r) = cond_no_halt r
answer_no_halt (object_replies.WaitGroup r) = group_no_halt r
answer_no_halt (object_replies.Once r) = once_no_halt r
answer_no_halt (object_replies.OnceFunc r) = once_no_halt r
answer_no_halt (object_replies.OnceValue r) = once_no_halt r
answer_no_halt (object_replies.Pool r) = pool_no_halt r
answer_no_halt (object_replies.Sema r) = sema_no_halt r
answer_no_halt (object_replies.Flight r) = flight_no_halt r
answer_no_halt (object_replies.Starts r) = start_no_halt r

-- what the deed's words leave out is what the object's place in the list says
abbrev pub DeedIs : Speaker → Deed ObjectEvent ObjectReply → Type 0
DeedIs speaker (deeds.Event event reply) = EventIs speaker event × IsMeant event reply × ReplyIs speaker reply
DeedIs speaker (deeds.Refused event misuse) = EventIs speaker event
DeedIs speaker (deeds.Halt misuse) = Unit {0}

-- so it is read back as the deed
pub deed_back : (speaker : Speaker) (object number : ℕ) (deed : Deed ObjectEvent ObjectReply) (word : EventWord) (answer : AnswerWord) → DeedIs speaker deed → written.entry_said object number deed ≡ Some (said.Entered object number word answer)
    → deed_told speaker word answer ≡ Some deed
deed_back speaker object number (deeds.Event event reply) word answer (of, meant, is) says = by (written.answer_of reply) refl says where
  by : (own : Option AnswerWord) → written.answer_of reply ≡ own → option_map (λ a. said.Entered object number (written.event_of event) a) own ≡ Some (said.Entered object number word answer) → deed_told speaker word answer ≡ Some (deeds.Event event reply)
  by None has same = absurd (none-some (said.Entered object number word answer) same)
  by (Some own) has same =
      let words_are : said.Entered object number (written.event_of event) own ≡ said.Entered object number word answer = same_Some (said.Entered object number (written.event_of event) own) (said.Entered object number word answer) same in
      let event_is : written.event_of event ≡ word = cc in
      let answer_is : own ≡ answer = cc in
      let told : event_told speaker word ≡ Some event = sym (ap (event_told speaker) event_is) ∙ event_back speaker event of in
      let no_halted : halted_in answer ≡ None = sym (ap halted_in answer_is) ∙ subst IsNoHalt has (answer_no_halt reply) in
      told_event speaker word answer event told ∙ ap (answered speaker event answer) no_halted
      ∙ ap (option_map (deeds.Event event)) (answer_back speaker event reply answer of meant is (has ∙ ap Some answer_is))
deed_back speaker object number (deeds.Refused event misuse) word answer of says =
    let words_are : said.Entered object number (written.event_of event) (words.Halted misuse) ≡ said.Entered object number word answer = same_Some (said.Entered object number (written.event_of event) (words.Halted misuse)) (said.Entered object number word answer) says in
    let event_is : written.event_of event ≡ word = cc in
    let answer_is : words.Halted misuse ≡ answer = cc in
    told_event speaker word answer event (sym (ap (event_told speaker) event_is) ∙ event_back speaker event of) ∙ sym (ap (λ a. answered speaker event a (halted_in a)) answer_is)
deed_back speaker object number (deeds.Halt misuse) word answer of says =
    let words_are : said.Entered object number (events.Halt misuse) words.Done ≡ said.Entered object number word answer = same_Some (said.Entered object number (events.Halt misuse) words.Done) (said.Entered object number word answer) says in
    let event_is : events.Halt misuse ≡ word = cc in
    sym (ap (λ w. deed_told speaker w answer) event_is)
