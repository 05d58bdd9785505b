-- What a line's words are read as, of an entry of a journal, is written in those words.
use Rattle.std.proofs.Common.{◌≡◌, ℕ, Option, Some, None, refl, sym, ap, ◌∙◌}
use Rattle.std.specs.Option.{option_map}
use Rattle.std.proofs.lemmas.Option.{same_Some}
use Rattle.sync_model.specs.declared.journal.Deed.{Deed}
use Rattle.sync_model.specs.declared.journal.Deed.TheVariants as deeds
use Rattle.mutex_core.specs.declared.event.MutexEvent.{MutexEvent}
use Rattle.mutex_core.specs.declared.event.MutexEvent.TheVariants as mutex_events
use Rattle.mutex_core.specs.declared.reply.MutexReply.{MutexReply}
use Rattle.rw_core.specs.declared.event.RwEvent.{RwEvent}
use Rattle.rw_core.specs.declared.event.RwEvent.TheVariants as rw_events
use Rattle.rw_core.specs.declared.reply.RwReply.{RwReply}
use Rattle.wait_cores.specs.declared.notify.NotifyEvent.{NotifyEvent}
use Rattle.wait_cores.specs.declared.notify.NotifyReply.{NotifyReply}
use Rattle.wait_cores.specs.declared.group.GroupEvent.{GroupEvent}
use Rattle.wait_cores.specs.declared.group.GroupEvent.TheVariants as group_events
use Rattle.wait_cores.specs.declared.group.GroupReply.{GroupReply}
use Rattle.wait_cores.specs.declared.once.OnceEvent.{OnceEvent}
use Rattle.wait_cores.specs.declared.once.OnceEvent.TheVariants as once_events
use Rattle.wait_cores.specs.declared.once.OnceReply.{OnceReply}
use Rattle.pool_core.specs.declared.pool_event.PoolEvent.{PoolEvent}
use Rattle.pool_core.specs.declared.pool_event.PoolEvent.TheVariants as pool_events
use Rattle.pool_core.specs.declared.pool_event.PoolReply.{PoolReply}
use Rattle.sema_core.specs.declared.event.SemaEvent.{SemaEvent}
use Rattle.sema_core.specs.declared.event.SemaEvent.TheVariants as sema_events
use Rattle.sema_core.specs.declared.event.SemaReply.{SemaReply}
use Rattle.sema_core.specs.declared.event.SemaReply.TheVariants as sema_replies
use Rattle.flight_core.specs.declared.event.FlightEvent.{FlightEvent}
use Rattle.flight_core.specs.declared.event.FlightEvent.TheVariants as flight_events
use Rattle.flight_core.specs.declared.event.FlightReply.{FlightReply}
use Rattle.flight_core.specs.declared.event.FlightReply.TheVariants as flight_replies
use Rattle.starts_core.specs.declared.starts.StartEvent.{StartEvent}
use Rattle.starts_core.specs.declared.starts.StartReply.{StartReply}
use Rattle.run_record.specs.declared.entered.ObjectEvent.{ObjectEvent}
use Rattle.run_record.specs.declared.entered.ObjectEvent.TheVariants as object_events
use Rattle.run_record.specs.declared.entered.ObjectReply.{ObjectReply}
use Rattle.record_text.specs.declared.answer.AnswerWord.{AnswerWord}
use Rattle.record_text.specs.declared.answer.AnswerWord.TheVariants as words
use Rattle.record_text.specs.declared.event.EventWord.{EventWord}
use Rattle.record_text.specs.declared.event.EventWord.TheVariants as events
use Rattle.record_text.specs.declared.item_line.Said.TheVariants as said
use Rattle.record_text.specs.Written.{answer_of, cond_answer, cond_event, entry_said, event_of, group_answer, group_event, flight_answer, flight_event, mutex_answer, mutex_event, once_answer, once_event, pool_answer, pool_event, rw_answer, rw_event, sema_answer, sema_event, start_answer, start_event}
use Rattle.run_check.specs.declared.told.deeds.Speaker.{Speaker}
use Rattle.run_check.specs.declared.told.deeds.Speaker.TheVariants as speakers
use Rattle.run_check.specs.Deeds.{answer_told, answered, halted_in, cond_event_told, cond_reply_told, deed_told, entry_told, event_told, flight_event_told, flight_reply_told, group_event_told, group_reply_told, look_reply_told, mutex_event_told, mutex_reply_told, once_event_told, once_reply_told, pool_event_told, pool_reply_told, put_reply_told, rw_arrival_told, rw_event_told, rw_leaving_told, rw_reply_told, rw_resumption_told, rw_trial_told, rw_unlocking_told, sema_event_told, sema_reply_told, start_event_told, start_reply_told, sweep_reply_told}
use Rattle.run_check.specs.Replies.{int32_told}
use Rattle.sync_types.specs.declared.misuse.Misuse.{Misuse}
use Rattle.mutex_core.specs.declared.reply.MutexReply.TheVariants as mutex_replies
use Rattle.mutex_core.specs.declared.reply.Arrival.TheVariants as mutex_arrivals
use Rattle.mutex_core.specs.declared.reply.Resumption.TheVariants as mutex_resumptions
use Rattle.mutex_core.specs.declared.reply.Unlocking.TheVariants as mutex_unlockings
use Rattle.rw_core.specs.declared.reply.RwReply.TheVariants as rw_replies
use Rattle.rw_core.specs.declared.reply.Arrival.TheVariants as rw_arrivals
use Rattle.rw_core.specs.declared.reply.Resumption.TheVariants as rw_resumptions
use Rattle.rw_core.specs.declared.reply.Unlocking.TheVariants as rw_unlockings
use Rattle.wait_cores.specs.declared.notify.NotifyEvent.TheVariants as cond_events
use Rattle.wait_cores.specs.declared.notify.NotifyReply.TheVariants as cond_replies
use Rattle.wait_cores.specs.declared.group.GroupReply.TheVariants as group_replies
use Rattle.wait_cores.specs.declared.once.OnceReply.TheVariants as once_replies
use Rattle.pool_core.specs.declared.pool_event.PoolReply.TheVariants as pool_replies
use Rattle.starts_core.specs.declared.starts.StartEvent.TheVariants as start_events
use Rattle.starts_core.specs.declared.starts.StartReply.TheVariants as start_replies
use Rattle.run_record.specs.declared.entered.ObjectReply.TheVariants as object_replies
use Rattle.run_check.proofs.ReplyRoundTrip.{int32_again}
use Rattle.run_check.proofs.ToldLists.{mapped}

-- ---- events

mutex_event_again : (word : EventWord) (event : MutexEvent) → mutex_event_told word ≡ Some event → mutex_event event ≡ word
mutex_event_again (events.Arrive now) event is = sym (ap mutex_event (same_Some (mutex_events.Arrive now) event is))
mutex_event_again events.Try event is = sym (ap mutex_event (same_Some mutex_events.Try event is))
mutex_event_again events.Unlock event is = sym (ap mutex_event (same_Some mutex_events.Unlock event is))
mutex_event_again (events.Woken now) event is = sym (ap mutex_event (same_Some (mutex_events.Woken now) event is))
mutex_event_again word event is = absurd cc

rw_event_again : (word : EventWord) (event : RwEvent) → rw_event_told word ≡ Some event → rw_event event ≡ word
rw_event_again events.ReadArrive event is = sym (ap rw_event (same_Some rw_events.ReadArrive event is))
rw_event_again events.ReadTry event is = sym (ap rw_event (same_Some rw_events.ReadTry event is))
rw_event_again events.ReadUnlock event is = sym (ap rw_event (same_Some rw_events.ReadUnlock event is))
rw_event_again (events.WriteArrive now) event is = sym (ap rw_event (same_Some (rw_events.WriteArrive now) event is))
rw_event_again events.WriteTry event is = sym (ap rw_event (same_Some rw_events.WriteTry event is))
rw_event_again (events.WriteWoken now) event is = sym (ap rw_event (same_Some (rw_events.WriteWoken now) event is))
rw_event_again events.WriteUnlock event is = sym (ap rw_event (same_Some rw_events.WriteUnlock event is))
rw_event_again events.Leave event is = sym (ap rw_event (same_Some rw_events.Leave event is))
rw_event_again word event is = absurd cc

cond_event_again : (word : EventWord) (event : NotifyEvent) → cond_event_told word ≡ Some event → cond_event event ≡ word
cond_event_again events.Ticket event is = sym (ap cond_event (same_Some cond_events.Ticket event is))
cond_event_again events.Signal event is = sym (ap cond_event (same_Some cond_events.Signal event is))
cond_event_again events.Broadcast event is = sym (ap cond_event (same_Some cond_events.Broadcast event is))
cond_event_again events.Leave event is = sym (ap cond_event (same_Some cond_events.Leave event is))
cond_event_again word event is = absurd cc

group_event_again : (word : EventWord) (event : GroupEvent) → group_event_told word ≡ Some event → group_event event ≡ word
group_event_again (events.Add amount) event is = let (delta, found, same) = mapped group_events.Add (int32_told amount) event is in sym (ap group_event same) ∙ ap events.Add (int32_again amount delta found)
group_event_again events.Wait event is = sym (ap group_event (same_Some group_events.Wait event is))
group_event_again events.Leave event is = sym (ap group_event (same_Some group_events.Leave event is))
group_event_again word event is = absurd cc

once_event_again : {T : Type 0} (comes_to : T) (word : EventWord) (event : OnceEvent T) → once_event_told comes_to word ≡ Some event → once_event event ≡ word
once_event_again comes_to events.Begin event is = sym (ap once_event (same_Some once_events.Begin event is))
once_event_again comes_to events.End event is = sym (ap once_event (same_Some (once_events.End comes_to) event is))
once_event_again comes_to events.Leave event is = sym (ap once_event (same_Some once_events.Leave event is))
once_event_again comes_to word event is = absurd cc

pool_event_again : (part : ℕ) (word : EventWord) (event : PoolEvent ℕ) → pool_event_told part word ≡ Some event → pool_event event ≡ word
pool_event_again part (events.Put item) event is = sym (ap pool_event (same_Some (pool_events.Put item) event is))
pool_event_again part events.LookOwn event is = sym (ap pool_event (same_Some pool_events.LookOwn event is))
pool_event_again part events.LookOther event is = sym (ap pool_event (same_Some (pool_events.LookOther part) event is))
pool_event_again part events.LookVictim event is = sym (ap pool_event (same_Some (pool_events.LookVictim part) event is))
pool_event_again part events.Sweep event is = sym (ap pool_event (same_Some pool_events.Sweep event is))
pool_event_again part word event is = absurd cc

sema_event_again : (word : EventWord) (event : SemaEvent) → sema_event_told word ≡ Some event → sema_event event ≡ word
sema_event_again (events.Acquire weight) event is = sym (ap sema_event (same_Some (sema_events.Acquire weight) event is))
sema_event_again (events.TryAcquire weight) event is = sym (ap sema_event (same_Some (sema_events.Try weight) event is))
sema_event_again (events.Release weight) event is = sym (ap sema_event (same_Some (sema_events.Release weight) event is))
sema_event_again events.Leave event is = sym (ap sema_event (same_Some sema_events.Leave event is))
sema_event_again word event is = absurd cc

flight_event_again : (word : EventWord) (event : FlightEvent) → flight_event_told word ≡ Some event → flight_event event ≡ word
flight_event_again (events.Join key) event is = sym (ap flight_event (same_Some (flight_events.Join key) event is))
flight_event_again (events.Land value) event is = sym (ap flight_event (same_Some (flight_events.Land value) event is))
flight_event_again events.Leave event is = sym (ap flight_event (same_Some flight_events.Leave event is))
flight_event_again word event is = absurd cc

start_event_again : (word : EventWord) (event : StartEvent) → start_event_told word ≡ Some event → start_event event ≡ word
start_event_again (events.Start worker) event is = sym (ap start_event (same_Some (start_events.Start worker) event is))
start_event_again events.End event is = sym (ap start_event (same_Some start_events.End event is))
start_event_again events.Leave event is = sym (ap start_event (same_Some start_events.Leave event is))
start_event_again word event is = absurd cc

-- ---- answers

mutex_reply_again : (worker : ℕ) (event : MutexEvent) (word : AnswerWord) (reply : MutexReply) → mutex_reply_told worker event word ≡ Some reply → mutex_answer reply ≡ word
mutex_reply_again worker (mutex_events.Arrive now) words.Acquired reply is = sym (ap mutex_answer (same_Some (mutex_replies.Arrived mutex_arrivals.Acquired) reply is))
mutex_reply_again worker (mutex_events.Arrive now) words.Queued reply is = sym (ap mutex_answer (same_Some (mutex_replies.Arrived (mutex_arrivals.Queued worker)) reply is))
mutex_reply_again worker mutex_events.Try (words.Tried taken) reply is = sym (ap mutex_answer (same_Some (mutex_replies.Tried taken) reply is))
mutex_reply_again worker mutex_events.Unlock words.Free reply is = sym (ap mutex_answer (same_Some (mutex_replies.Unlocked mutex_unlockings.Free) reply is))
mutex_reply_again worker mutex_events.Unlock (words.Woke ticket) reply is = sym (ap mutex_answer (same_Some (mutex_replies.Unlocked (mutex_unlockings.Woke ticket)) reply is))
mutex_reply_again worker mutex_events.Unlock (words.Handed ticket) reply is = sym (ap mutex_answer (same_Some (mutex_replies.Unlocked (mutex_unlockings.Handed ticket)) reply is))
mutex_reply_again worker mutex_events.Unlock (words.Misused misuse) reply is = sym (ap mutex_answer (same_Some (mutex_replies.Unlocked (mutex_unlockings.Misuse misuse)) reply is))
mutex_reply_again worker (mutex_events.Woken now) words.Acquired reply is = sym (ap mutex_answer (same_Some (mutex_replies.Resumed mutex_resumptions.Acquired) reply is))
mutex_reply_again worker (mutex_events.Woken now) words.Requeued reply is = sym (ap mutex_answer (same_Some (mutex_replies.Resumed mutex_resumptions.Requeued) reply is))
mutex_reply_again worker (mutex_events.Woken now) words.Still reply is = sym (ap mutex_answer (same_Some mutex_replies.Still reply is))
mutex_reply_again worker event word reply is = absurd cc

rw_arrival_again : (word : AnswerWord) (reply : RwReply) → rw_arrival_told word ≡ Some reply → rw_answer reply ≡ word
rw_arrival_again words.Acquired reply is = sym (ap rw_answer (same_Some (rw_replies.Arrived rw_arrivals.Acquired) reply is))
rw_arrival_again words.Queued reply is = sym (ap rw_answer (same_Some (rw_replies.Arrived rw_arrivals.Queued) reply is))
rw_arrival_again word reply is = absurd cc

rw_trial_again : (word : AnswerWord) (reply : RwReply) → rw_trial_told word ≡ Some reply → rw_answer reply ≡ word
rw_trial_again (words.Tried taken) reply is = sym (ap rw_answer (same_Some (rw_replies.Tried taken) reply is))
rw_trial_again word reply is = absurd cc

rw_unlocking_again : (word : AnswerWord) (reply : RwReply) → rw_unlocking_told word ≡ Some reply → rw_answer reply ≡ word
rw_unlocking_again words.Done reply is = sym (ap rw_answer (same_Some (rw_replies.Unlocked rw_unlockings.Done) reply is))
rw_unlocking_again (words.Misused misuse) reply is = sym (ap rw_answer (same_Some (rw_replies.Unlocked (rw_unlockings.Misuse misuse)) reply is))
rw_unlocking_again word reply is = absurd cc

rw_resumption_again : (word : AnswerWord) (reply : RwReply) → rw_resumption_told word ≡ Some reply → rw_answer reply ≡ word
rw_resumption_again words.Acquired reply is = sym (ap rw_answer (same_Some (rw_replies.Resumed rw_resumptions.Acquired) reply is))
rw_resumption_again words.Queued reply is = sym (ap rw_answer (same_Some (rw_replies.Resumed rw_resumptions.Queued) reply is))
rw_resumption_again words.Requeued reply is = sym (ap rw_answer (same_Some (rw_replies.Resumed rw_resumptions.Requeued) reply is))
rw_resumption_again words.Still reply is = sym (ap rw_answer (same_Some rw_replies.Still reply is))
rw_resumption_again word reply is = absurd cc

rw_leaving_again : (word : AnswerWord) (reply : RwReply) → rw_leaving_told word ≡ Some reply → rw_answer reply ≡ word
rw_leaving_again words.Done reply is = sym (ap rw_answer (same_Some rw_replies.Left reply is))
rw_leaving_again words.Still reply is = sym (ap rw_answer (same_Some rw_replies.Still reply is))
rw_leaving_again word reply is = absurd cc

rw_reply_again : (event : RwEvent) (word : AnswerWord) (reply : RwReply) → rw_reply_told event word ≡ Some reply → rw_answer reply ≡ word
rw_reply_again rw_events.ReadArrive word reply is = rw_arrival_again word reply is
rw_reply_again (rw_events.WriteArrive now) word reply is = rw_arrival_again word reply is
rw_reply_again rw_events.ReadTry word reply is = rw_trial_again word reply is
rw_reply_again rw_events.WriteTry word reply is = rw_trial_again word reply is
rw_reply_again rw_events.ReadUnlock word reply is = rw_unlocking_again word reply is
rw_reply_again rw_events.WriteUnlock word reply is = rw_unlocking_again word reply is
rw_reply_again (rw_events.WriteWoken now) word reply is = rw_resumption_again word reply is
rw_reply_again rw_events.Leave word reply is = rw_leaving_again word reply is

cond_reply_again : (word : AnswerWord) (reply : NotifyReply) → cond_reply_told word ≡ Some reply → cond_answer reply ≡ word
cond_reply_again words.Done reply is = sym (ap cond_answer (same_Some cond_replies.Done reply is))
cond_reply_again words.Still reply is = sym (ap cond_answer (same_Some cond_replies.Still reply is))
cond_reply_again word reply is = absurd cc

group_reply_again : (word : AnswerWord) (reply : GroupReply) → group_reply_told word ≡ Some reply → group_answer reply ≡ word
group_reply_again words.Done reply is = sym (ap group_answer (same_Some group_replies.Done reply is))
group_reply_again words.Queued reply is = sym (ap group_answer (same_Some group_replies.Queued reply is))
group_reply_again (words.Misused misuse) reply is = sym (ap group_answer (same_Some (group_replies.Misused misuse) reply is))
group_reply_again words.Still reply is = sym (ap group_answer (same_Some group_replies.Still reply is))
group_reply_again word reply is = absurd cc

once_reply_again : {T : Type 0} (kept : T) (event : OnceEvent T) (word : AnswerWord) (reply : OnceReply T) → once_reply_told kept event word ≡ Some reply → once_answer reply ≡ word
once_reply_again kept once_events.Begin words.Run reply is = sym (ap once_answer (same_Some once_replies.Run reply is))
once_reply_again kept once_events.Begin words.Queued reply is = sym (ap once_answer (same_Some once_replies.Queued reply is))
once_reply_again kept once_events.Begin words.Ran reply is = sym (ap once_answer (same_Some (once_replies.Done kept) reply is))
once_reply_again kept (once_events.End came_to) words.Done reply is = sym (ap once_answer (same_Some once_replies.Ended reply is))
once_reply_again kept once_events.Leave words.Done reply is = sym (ap once_answer (same_Some (once_replies.Left kept) reply is))
once_reply_again kept once_events.Leave words.Still reply is = sym (ap once_answer (same_Some once_replies.Still reply is))
once_reply_again kept event word reply is = absurd cc

put_reply_again : (word : AnswerWord) (reply : PoolReply ℕ) → put_reply_told word ≡ Some reply → pool_answer reply ≡ Some word
put_reply_again words.Done reply is = sym (ap pool_answer (same_Some pool_replies.Kept reply is))
put_reply_again word reply is = absurd cc

look_reply_again : (word : AnswerWord) (reply : PoolReply ℕ) → look_reply_told word ≡ Some reply → pool_answer reply ≡ Some word
look_reply_again (words.Item item) reply is = sym (ap pool_answer (same_Some (pool_replies.Item item) reply is))
look_reply_again words.Nothing reply is = sym (ap pool_answer (same_Some pool_replies.Nothing reply is))
look_reply_again word reply is = absurd cc

sweep_reply_again : (word : AnswerWord) (reply : PoolReply ℕ) → sweep_reply_told word ≡ Some reply → pool_answer reply ≡ Some word
sweep_reply_again words.Done reply is = sym (ap pool_answer (same_Some pool_replies.Swept reply is))
sweep_reply_again word reply is = absurd cc

pool_reply_again : (event : PoolEvent ℕ) (word : AnswerWord) (reply : PoolReply ℕ) → pool_reply_told event word ≡ Some reply → pool_answer reply ≡ Some word
pool_reply_again (pool_events.Put item) word reply is = put_reply_again word reply is
pool_reply_again pool_events.LookOwn word reply is = look_reply_again word reply is
pool_reply_again (pool_events.LookOther part) word reply is = look_reply_again word reply is
pool_reply_again (pool_events.LookVictim part) word reply is = look_reply_again word reply is
pool_reply_again pool_events.Sweep word reply is = sweep_reply_again word reply is

sema_reply_again : (word : AnswerWord) (reply : SemaReply) → sema_reply_told word ≡ Some reply → sema_answer reply ≡ word
sema_reply_again words.Done reply is = sym (ap sema_answer (same_Some sema_replies.Done reply is))
sema_reply_again words.Queued reply is = sym (ap sema_answer (same_Some sema_replies.Queued reply is))
sema_reply_again words.Refused reply is = sym (ap sema_answer (same_Some sema_replies.Refused reply is))
sema_reply_again (words.Misused misuse) reply is = sym (ap sema_answer (same_Some (sema_replies.Misused misuse) reply is))
sema_reply_again words.Still reply is = sym (ap sema_answer (same_Some sema_replies.Still reply is))
sema_reply_again word reply is = absurd cc

flight_reply_again : (word : AnswerWord) (reply : FlightReply) → flight_reply_told word ≡ Some reply → flight_answer reply ≡ word
flight_reply_again words.Lead reply is = sym (ap flight_answer (same_Some flight_replies.Lead reply is))
flight_reply_again words.Queued reply is = sym (ap flight_answer (same_Some flight_replies.Queued reply is))
flight_reply_again (words.Tried shared) reply is = sym (ap flight_answer (same_Some (flight_replies.Landed shared) reply is))
flight_reply_again (words.Left value) reply is = sym (ap flight_answer (same_Some (flight_replies.Left value) reply is))
flight_reply_again words.Still reply is = sym (ap flight_answer (same_Some flight_replies.Still reply is))
flight_reply_again word reply is = absurd cc

start_reply_again : (word : AnswerWord) (reply : StartReply) → start_reply_told word ≡ Some reply → start_answer reply ≡ word
start_reply_again words.Done reply is = sym (ap start_answer (same_Some start_replies.Done reply is))
start_reply_again words.Go reply is = sym (ap start_answer (same_Some start_replies.Go reply is))
start_reply_again words.Never reply is = sym (ap start_answer (same_Some start_replies.Never reply is))
start_reply_again words.Still reply is = sym (ap start_answer (same_Some start_replies.Still reply is))
start_reply_again word reply is = absurd cc

-- ---- by the object

event_again : (speaker : Speaker) (word : EventWord) (event : ObjectEvent) → event_told speaker word ≡ Some event → event_of event ≡ word
event_again speakers.Silent word event is = absurd cc
event_again (speakers.Mutex worker) word event is = let (e, found, same) = mapped object_events.Mutex (mutex_event_told word) event is in sym (ap event_of same) ∙ mutex_event_again word e found
event_again speakers.RwMutex word event is = let (e, found, same) = mapped object_events.RwMutex (rw_event_told word) event is in sym (ap event_of same) ∙ rw_event_again word e found
event_again speakers.Cond word event is = let (e, found, same) = mapped object_events.Cond (cond_event_told word) event is in sym (ap event_of same) ∙ cond_event_again word e found
event_again speakers.WaitGroup word event is = let (e, found, same) = mapped object_events.WaitGroup (group_event_told word) event is in sym (ap event_of same) ∙ group_event_again word e found
event_again (speakers.Once comes_to kept) word event is = let (e, found, same) = mapped object_events.Once (once_event_told comes_to word) event is in sym (ap event_of same) ∙ once_event_again comes_to word e found
event_again (speakers.OnceFunc code) word event is = let (e, found, same) = mapped object_events.OnceFunc (once_event_told code word) event is in sym (ap event_of same) ∙ once_event_again code word e found
event_again (speakers.OnceValue value) word event is = let (e, found, same) = mapped object_events.OnceValue (once_event_told value word) event is in sym (ap event_of same) ∙ once_event_again value word e found
event_again (speakers.PoolPart part) word event is = let (e, found, same) = mapped object_events.Pool (pool_event_told part word) event is in sym (ap event_of same) ∙ pool_event_again part word e found
event_again speakers.Sema word event is = let (e, found, same) = mapped object_events.Sema (sema_event_told word) event is in sym (ap event_of same) ∙ sema_event_again word e found
event_again speakers.Flight word event is = let (e, found, same) = mapped object_events.Flight (flight_event_told word) event is in sym (ap event_of same) ∙ flight_event_again word e found
event_again speakers.Starts word event is = let (e, found, same) = mapped object_events.Starts (start_event_told word) event is in sym (ap event_of same) ∙ start_event_again word e found

answer_again : (speaker : Speaker) (event : ObjectEvent) (word : AnswerWord) (reply : ObjectReply) → answer_told speaker event word ≡ Some reply → answer_of reply ≡ Some word
answer_again (speakers.Mutex worker) (object_events.Mutex e) word reply is = let (r, found, same) = mapped object_replies.Mutex (mutex_reply_told worker e word) reply is in sym (ap answer_of same) ∙ ap Some (mutex_reply_again worker e word r found)
answer_again speakers.RwMutex (object_events.RwMutex e) word reply is = let (r, found, same) = mapped object_replies.RwMutex (rw_reply_told e word) reply is in sym (ap answer_of same) ∙ ap Some (rw_reply_again e word r found)
answer_again speakers.Cond (object_events.Cond e) word reply is = let (r, found, same) = mapped object_replies.Cond (cond_reply_told word) reply is in sym (ap answer_of same) ∙ ap Some (cond_reply_again word r found)
answer_again speakers.WaitGroup (object_events.WaitGroup e) word reply is = let (r, found, same) = mapped object_replies.WaitGroup (group_reply_told word) reply is in sym (ap answer_of same) ∙ ap Some (group_reply_again word r found)
answer_again (speakers.Once comes_to kept) (object_events.Once e) word reply is = let (r, found, same) = mapped object_replies.Once (once_reply_told kept e word) reply is in sym (ap answer_of same) ∙ ap Some (once_reply_again kept e word r found)
answer_again (speakers.OnceFunc code) (object_events.OnceFunc e) word reply is = let (r, found, same) = mapped object_replies.OnceFunc (once_reply_told code e word) reply is in sym (ap answer_of same) ∙ ap Some (once_reply_again code e word r found)
answer_again (speakers.OnceValue value) (object_events.OnceValue e) word reply is = let (r, found, same) = mapped object_replies.OnceValue (once_reply_told value e word) reply is in sym (ap answer_of same) ∙ ap Some (once_reply_again value e word r found)
answer_again (speakers.PoolPart part) (object_events.Pool e) word reply is = let (r, found, same) = mapped object_replies.Pool (pool_reply_told e word) reply is in sym (ap answer_of same) ∙ pool_reply_again e word r found
answer_again speakers.Sema (object_events.Sema e) word reply is = let (r, found, same) = mapped object_replies.Sema (sema_reply_told word) reply is in sym (ap answer_of same) ∙ ap Some (sema_reply_again word r found)
answer_again speakers.Flight (object_events.Flight e) word reply is = let (r, found, same) = mapped object_replies.Flight (flight_reply_told word) reply is in sym (ap answer_of same) ∙ ap Some (flight_reply_again word r found)
answer_again speakers.Starts (object_events.Starts e) word reply is = let (r, found, same) = mapped object_replies.Starts (start_reply_told word) reply is in sym (ap answer_of same) ∙ ap Some (start_reply_again word r found)
answer_again speaker event word reply is = absurd cc

halted_again : (word : AnswerWord) (misuse : Misuse) → halted_in word ≡ Some misuse → words.Halted misuse ≡ word
halted_again (words.Halted met) misuse is = sym (ap words.Halted (same_Some met misuse is))
halted_again word misuse is = absurd cc

-- the answer to a halt is `ok`
abbrev pub IsAnswered : EventWord → AnswerWord → Type 0
IsAnswered (events.Halt misuse) word = word ≡ words.Done
IsAnswered event word = Unit {0}

module _ (object number : ℕ) (speaker : Speaker) (word : EventWord) (answer : AnswerWord) (deed : Deed ObjectEvent ObjectReply) where
  answered_again : (event : ObjectEvent) → event_of event ≡ word → (halted : Option Misuse) → halted_in answer ≡ halted → answered speaker event answer halted ≡ Some deed → entry_said object number deed ≡ Some (said.Entered object number word answer)
  answered_again event same (Some misuse) met is =
      sym (ap (entry_said object number) (same_Some (deeds.Refused event misuse) deed is))
      ∙ ap (λ w. Some (said.Entered object number w (words.Halted misuse))) same ∙ ap (λ a. Some (said.Entered object number word a)) (halted_again answer misuse met)
  answered_again event same None met is =
      let (reply, found, made) = mapped (deeds.Event event) (answer_told speaker event answer) deed is in
      sym (ap (entry_said object number) made)
      ∙ ap (option_map (λ a. said.Entered object number (event_of event) a)) (answer_again speaker event answer reply found)
      ∙ ap (λ w. Some (said.Entered object number w answer)) same

  entry_again : (event : Option ObjectEvent) → event_told speaker word ≡ event → entry_told speaker event answer ≡ Some deed → entry_said object number deed ≡ Some (said.Entered object number word answer)
  entry_again None told is = absurd cc
  entry_again (Some event) told is = answered_again event (event_again speaker word event told) (halted_in answer) refl is

pub deed_again : (object number : ℕ) (speaker : Speaker) (word : EventWord) (answer : AnswerWord) (deed : Deed ObjectEvent ObjectReply) → IsAnswered word answer → deed_told speaker word answer ≡ Some deed
    → entry_said object number deed ≡ Some (said.Entered object number word answer)
deed_again object number speaker (events.Halt misuse) answer deed done is = sym (ap (entry_said object number) (same_Some (deeds.Halt misuse) deed is)) ∙ ap (λ a. Some (said.Entered object number (events.Halt misuse) a)) (sym done)
deed_again object number speaker word answer deed done is = entry_again object number speaker word answer deed (event_told speaker word) refl is
