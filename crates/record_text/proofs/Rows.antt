-- The answer of an object to an event is one of the event's row: its call's protocol says of which sort, and its machine which misuse, and which worker.
use Rattle.std.proofs.Common.{◌≡◌, ℕ, zero, suc, ◌-◌, ◌^◌, ◌<◌, ℤ, pos, negsuc, Bool, true, false, List, [], ◌∷◌, ◌++◌, length, Option, Some, None, slice_get, refl, sym, ap, ◌∙◌, subst}
use Rattle.std.specs.Prelude.{nat_lt, if◌then◌else◌, ◌==◌, ◌+ℤ◌}
use Rattle.std.specs.List.{AllByRecursion}
use Rattle.std.proofs.lemmas.Bool.{lt-ltb}
use Rattle.sync_types.specs.declared.misuse.Misuse.{Misuse}
use Rattle.sync_types.specs.declared.misuse.Misuse.TheVariants.{UnlockOfUnlockedMutex, RUnlockOfUnlockedRwMutex, UnlockOfUnlockedRwMutex, NegativeWaitGroupCounter, WaitGroupReused, SemaphoreOverReleased}
use Rattle.sync_model.specs.declared.journal.Deed.{Deed}
use Rattle.sync_model.specs.declared.journal.Deed.TheVariants.{Event, Refused, Halt}
use Rattle.sync_model.specs.declared.journal.Entry.{Entry}
use Rattle.sync_model.specs.Journal.{Follows, Right, halt_next, state_next}
use Rattle.mutex_core.specs.declared.event.MutexEvent.{MutexEvent}
use Rattle.mutex_core.specs.declared.event.MutexEvent.TheVariants as mutex_events
use Rattle.mutex_core.specs.declared.reply.MutexReply.{MutexReply}
use Rattle.mutex_core.specs.declared.reply.MutexReply.TheVariants as mutex_replies
use Rattle.mutex_core.specs.declared.reply.Arrival.TheVariants as mutex_arrivals
use Rattle.mutex_core.specs.declared.reply.Resumption.TheVariants as mutex_resumptions
use Rattle.mutex_core.specs.declared.reply.Unlocking.TheVariants as mutex_unlockings
use Rattle.mutex_core.specs.declared.waiter.Flight.{Flight}
use Rattle.mutex_core.specs.declared.waiter.Flight.TheVariants as flights
use Rattle.mutex_core.specs.declared.waiter.Waiter.{Waiter}
use Rattle.mutex_core.specs.MutexMachine as mutex
use Rattle.rw_core.specs.declared.event.RwEvent.{RwEvent}
use Rattle.rw_core.specs.declared.event.RwEvent.TheVariants as rw_events
use Rattle.rw_core.specs.declared.reply.RwReply.{RwReply}
use Rattle.rw_core.specs.declared.reply.RwReply.TheVariants as rw_replies
use Rattle.rw_core.specs.declared.reply.Arrival.TheVariants as rw_arrivals
use Rattle.rw_core.specs.declared.reply.Resumption.TheVariants as rw_resumptions
use Rattle.rw_core.specs.declared.reply.Unlocking.TheVariants as rw_unlockings
use Rattle.rw_core.specs.declared.writer.Writer.TheVariants as writers
use Rattle.rw_core.specs.RwMachine as rw
use Rattle.wait_cores.specs.declared.group.GroupEvent.{GroupEvent}
use Rattle.wait_cores.specs.declared.group.GroupEvent.TheVariants as group_events
use Rattle.wait_cores.specs.declared.group.GroupPlace.{GroupPlace}
use Rattle.wait_cores.specs.declared.group.GroupPlace.TheVariants as group_places
use Rattle.wait_cores.specs.declared.group.GroupReply.{GroupReply}
use Rattle.wait_cores.specs.declared.group.GroupReply.TheVariants as group_replies
use Rattle.wait_cores.specs.declared.notify.NotifyEvent.{NotifyEvent}
use Rattle.wait_cores.specs.declared.notify.NotifyReply.{NotifyReply}
use Rattle.wait_cores.specs.declared.notify.NotifyReply.TheVariants as cond_replies
use Rattle.wait_cores.specs.declared.once.OnceEvent.{OnceEvent}
use Rattle.wait_cores.specs.declared.once.OnceReply.{OnceReply}
use Rattle.wait_cores.specs.declared.once.OnceReply.TheVariants as once_replies
use Rattle.wait_cores.specs.GroupMachine as group
use Rattle.pool_core.specs.declared.pool_event.PoolEvent.{PoolEvent}
use Rattle.pool_core.specs.declared.pool_event.PoolReply.{PoolReply}
use Rattle.pool_core.specs.declared.pool_event.PoolReply.TheVariants as pool_replies
use Rattle.sema_core.specs.declared.calls.SemaStage.{SemaStage}
use Rattle.sema_core.specs.declared.calls.SemaStage.TheVariants as sema_stage
use Rattle.sema_core.specs.declared.event.SemaEvent.{SemaEvent}
use Rattle.sema_core.specs.declared.event.SemaEvent.TheVariants as sema_events
use Rattle.sema_core.specs.declared.event.SemaReply.{SemaReply}
use Rattle.sema_core.specs.declared.event.SemaReply.TheVariants as sema_replies
use Rattle.sema_core.specs.SemaMachine as sema
use Rattle.sema_core.specs.SemaStages.{release_meaning, sema_event, sema_meaning}
use Rattle.flight_core.specs.declared.calls.FlightStage.{FlightStage}
use Rattle.flight_core.specs.declared.calls.FlightStage.TheVariants as flight_stage
use Rattle.flight_core.specs.declared.event.FlightEvent.{FlightEvent}
use Rattle.flight_core.specs.declared.event.FlightReply.{FlightReply}
use Rattle.flight_core.specs.declared.event.FlightReply.TheVariants as flight_replies
use Rattle.flight_core.specs.FlightStages.{flight_event, flight_meaning}
use Rattle.starts_core.specs.declared.protocol.StartsStage.{StartsStage}
use Rattle.starts_core.specs.declared.protocol.StartsStage.TheVariants as starts_stage
use Rattle.starts_core.specs.declared.starts.StartEvent.{StartEvent}
use Rattle.starts_core.specs.declared.starts.StartReply.{StartReply}
use Rattle.starts_core.specs.declared.starts.StartReply.TheVariants as start_replies
use Rattle.starts_core.specs.StartsStages.{starts_event, starts_meaning}
use Rattle.protocols.specs.declared.cond.CondStage.{CondStage}
use Rattle.protocols.specs.declared.cond.CondStage.TheVariants as cond_stage
use Rattle.protocols.specs.declared.mutex.MutexStage.{MutexStage}
use Rattle.protocols.specs.declared.mutex.MutexStage.TheVariants as mutex_stage
use Rattle.protocols.specs.declared.once.OnceStage.{OnceStage}
use Rattle.protocols.specs.declared.once.OnceStage.TheVariants as once_stage
use Rattle.protocols.specs.declared.pool.PoolStage.{PoolStage}
use Rattle.protocols.specs.declared.pool.PoolStage.TheVariants as pool_stage
use Rattle.protocols.specs.declared.rw_mutex.RwMutexStage.{RwMutexStage}
use Rattle.protocols.specs.declared.rw_mutex.RwMutexStage.TheVariants as rw_stage
use Rattle.protocols.specs.declared.wait_group.GroupStage.{GroupStage}
use Rattle.protocols.specs.declared.wait_group.GroupStage.TheVariants as group_stage
use Rattle.protocols.specs.CondStages.{cond_event, cond_meaning}
use Rattle.protocols.specs.GroupStages.{add_meaning, group_event, group_meaning}
use Rattle.protocols.specs.MutexStages.{mutex_event, mutex_meaning}
use Rattle.protocols.specs.OnceStages.{once_event, once_meaning}
use Rattle.protocols.specs.PoolStages.{look_meaning, pool_event, pool_meaning}
use Rattle.protocols.specs.RwMutexStages.{arrive_meaning, leave_meaning, rw_event, rw_meaning}
use Rattle.record_text.specs.declared.answer.AnswerWord.{AnswerWord}
use Rattle.record_text.specs.declared.answer.AnswerWord.TheVariants as answers
use Rattle.record_text.specs.declared.event.EventWord.{EventWord}
use Rattle.record_text.specs.declared.event.EventWord.TheVariants as events
use Rattle.record_text.specs.declared.event.JournalKind.{JournalKind}
use Rattle.record_text.specs.declared.event.JournalKind.TheVariants as kinds
use Rattle.record_text.specs.declared.item_line.Whole.{Whole}
use Rattle.record_text.specs.AnswerWords.{has_answer, is_answer}
use Rattle.record_text.specs.Written as written
use Rattle.record_text.proofs.EachDeed.{IsMeantBy, IsStep}
use Rattle.record_text.proofs.OneItem.{same_some}

-- ---- a reply is the machine's, in some state that the machine comes to

module _ {S E R : Type 0} (next : S → ℕ → E → S × R) (Keeps : S → Type 0) where
  abbrev pub IsAnswered : ℕ → Deed E R → Type 0
  IsAnswered caller (Event event reply) = (state : S) × Keeps state × (reply ≡ (next state caller event).1)
  IsAnswered caller (Refused event misuse) = Unit {0}
  IsAnswered caller (Halt misuse) = Unit {0}

  module _ (keeps : (state : S) (caller : ℕ) (event : E) → Keeps state → Keeps (next state caller event).0) where
    answered : (halts : Bool) (state : S) (halt : Option Misuse) (caller : ℕ) (deed : Deed E R) → Keeps state → Right next halts state halt caller deed → IsAnswered caller deed
    answered halts state halt caller (Event event reply) kept right = (state, kept, right.1)
    answered halts state halt caller (Refused event misuse) kept right = tt
    answered halts state halt caller (Halt misuse) kept right = tt

    keeps_on : (state : S) (caller : ℕ) (deed : Deed E R) → Keeps state → Keeps (state_next next state caller deed)
    keeps_on state caller (Event event reply) kept = keeps state caller event kept
    keeps_on state caller (Refused event misuse) kept = kept
    keeps_on state caller (Halt misuse) kept = kept

    pub answered_at : (halts : Bool) (state : S) (halt : Option Misuse) (entries : List (Entry E R)) (i : ℕ) (entry : Entry E R) → Keeps state → Follows next halts state halt entries → slice_get entries i ≡ Some entry → IsAnswered entry.caller entry.deed
    answered_at halts state halt [] i entry kept follows at = absurd cc
    answered_at halts state halt (first ∷ entries) zero entry kept follows at =
        let same : first ≡ entry = cc in
        subst (λ (x : Entry E R). IsAnswered x.caller x.deed) same (answered halts state halt first.caller first.deed kept follows.0)
    answered_at halts state halt (first ∷ entries) (suc i) entry kept follows at =
        answered_at halts (state_next next state first.caller first.deed) (halt_next halt first.deed) entries i entry (keeps_on state first.caller first.deed kept) follows.1 at

-- ---- mutexes

-- a misuse is that of an unlock, and who is told to go on is one of so many
abbrev pub TellsMutex : ℕ → MutexReply → Type 0
TellsMutex workers (mutex_replies.Unlocked (mutex_unlockings.Misuse misuse)) = misuse ≡ UnlockOfUnlockedMutex
TellsMutex workers (mutex_replies.Unlocked (mutex_unlockings.Woke ticket)) = ticket < workers
TellsMutex workers (mutex_replies.Unlocked (mutex_unlockings.Handed ticket)) = ticket < workers
TellsMutex workers reply = Unit {0}

front_below : (workers : ℕ) (flight : Flight) (front : Waiter) (rest : List Waiter) → AllByRecursion (λ (caller : ℕ). caller < workers) (mutex.waiting_by flight (front ∷ rest)) → front.caller < workers
front_below workers flights.Nobody front rest each = each.0
front_below workers (flights.Woken waiter) front rest each = each.1.0
front_below workers flights.Handed front rest each = each.0

released_tells : (workers : ℕ) (flight : Flight) (queue : List Waiter) (starving woken : Bool) (s : mutex.State) → AllByRecursion (λ (caller : ℕ). caller < workers) (mutex.waiting_by flight queue) → TellsMutex workers (mutex.released queue starving woken s).1
released_tells workers flight [] true true s each = tt
released_tells workers flight [] true false s each = tt
released_tells workers flight [] false true s each = tt
released_tells workers flight [] false false s each = tt
released_tells workers flight (front ∷ rest) true woken s each = front_below workers flight front rest each
released_tells workers flight (front ∷ rest) false true s each = tt
released_tells workers flight (front ∷ rest) false false s each = front_below workers flight front rest each

unlock_tells : (workers : ℕ) (s : mutex.State) (caller : ℕ) → s.callers ≡ workers → mutex.IsValid s → TellsMutex workers (mutex.next s caller mutex_events.Unlock).1
unlock_tells workers s caller same valid = by (nat_lt caller s.callers) where
  each : AllByRecursion (λ (c : ℕ). c < workers) (mutex.waiting_by s.flight s.queue)
  each = subst (λ (n : ℕ). AllByRecursion (λ (c : ℕ). c < n) (mutex.waiting_by s.flight s.queue)) same valid.callers

  unlocked : (b : Bool) → TellsMutex workers (if b then mutex.released s.queue s.starving s.woken s else (s, mutex_replies.Unlocked (mutex_unlockings.Misuse UnlockOfUnlockedMutex))).1
  unlocked true = released_tells workers s.flight s.queue s.starving s.woken s each
  unlocked false = refl

  by : (b : Bool) → TellsMutex workers (if b then mutex.at_place mutex_events.Unlock (mutex.place_of s caller) caller s else mutex.still s).1
  by true = unlocked s.locked
  by false = tt

-- the answer is one of the event's row, and names one of so many workers
abbrev pub HasRow : ℕ → JournalKind → EventWord → AnswerWord → Type 0
HasRow workers kind event answer = (has_answer kind event answer ≡ true) × (is_answer (2 ^ 64) answer ≡ true → is_answer workers answer ≡ true)

unlock_row : (workers : ℕ) (r : MutexReply) → IsStep (mutex_meaning mutex_stage.Unlock r) → TellsMutex workers r → HasRow workers kinds.Mutex events.Unlock (written.mutex_answer r)
unlock_row workers (mutex_replies.Unlocked mutex_unlockings.Free) means tells = (refl, λ h. refl)
unlock_row workers (mutex_replies.Unlocked (mutex_unlockings.Woke ticket)) means tells = (refl, λ h. lt-ltb ticket workers tells)
unlock_row workers (mutex_replies.Unlocked (mutex_unlockings.Handed ticket)) means tells = (refl, λ h. lt-ltb ticket workers tells)
unlock_row workers (mutex_replies.Unlocked (mutex_unlockings.Misuse misuse)) means tells = subst (λ (m : Misuse). HasRow workers kinds.Mutex events.Unlock (answers.Misused m)) (sym tells) (refl, λ h. refl)
unlock_row workers r means tells = absurd means

mutex_row : (workers now : ℕ) (stage : MutexStage) (r : MutexReply) → IsStep (mutex_meaning stage r) → (mutex_event stage now ≡ mutex_events.Unlock → TellsMutex workers r) → HasRow workers kinds.Mutex (written.mutex_event (mutex_event stage now)) (written.mutex_answer r)
mutex_row workers now mutex_stage.Unlock r means tells = unlock_row workers r means (tells refl)
mutex_row workers now mutex_stage.Lock (mutex_replies.Arrived mutex_arrivals.Acquired) means tells = (refl, λ h. refl)
mutex_row workers now mutex_stage.Lock (mutex_replies.Arrived (mutex_arrivals.Queued ticket)) means tells = (refl, λ h. refl)
mutex_row workers now mutex_stage.TryLock (mutex_replies.Tried taken) means tells = (refl, λ h. refl)
mutex_row workers now mutex_stage.Resume (mutex_replies.Resumed mutex_resumptions.Acquired) means tells = (refl, λ h. refl)
mutex_row workers now mutex_stage.Resume (mutex_replies.Resumed mutex_resumptions.Requeued) means tells = (refl, λ h. refl)
mutex_row workers now mutex_stage.Resume mutex_replies.Still means tells = (refl, λ h. refl)
mutex_row workers now stage r means tells = absurd means

pub mutex_has : (workers caller : ℕ) (s : mutex.State) (e : MutexEvent) (r : MutexReply) → s.callers ≡ workers → mutex.IsValid s → r ≡ (mutex.next s caller e).1 → IsMeantBy mutex_event mutex_meaning e r
    → HasRow workers kinds.Mutex (written.mutex_event e) (written.mutex_answer r)
mutex_has workers caller s e r same valid is (stage, now, at, means) =
    subst (λ (x : MutexEvent). HasRow workers kinds.Mutex (written.mutex_event x) (written.mutex_answer r)) (sym at)
    (mutex_row workers now stage r means (λ unlock. subst (TellsMutex workers) (sym (is ∙ ap (λ (x : MutexEvent). (mutex.next s caller x).1) (at ∙ unlock))) (unlock_tells workers s caller same valid)))

-- ---- reader/writer mutexes

-- a misuse is this one
abbrev TellsRw : Misuse → RwReply → Type 0
TellsRw which (rw_replies.Unlocked (rw_unlockings.Misuse misuse)) = misuse ≡ which
TellsRw which reply = Unit {0}

read_tells : (s : rw.State) (caller : ℕ) → TellsRw RUnlockOfUnlockedRwMutex (rw.next s caller rw_events.ReadUnlock).1
read_tells s caller = by (nat_lt caller s.callers) where
  more : (b : Bool) → TellsRw RUnlockOfUnlockedRwMutex (if◌then◌else◌ {A = rw.State × RwReply} b (rw.last_read s.writer s, rw_replies.Unlocked rw_unlockings.Done) (record s { readers = s.readers - 1 }, rw_replies.Unlocked rw_unlockings.Done)).1
  more true = tt
  more false = tt

  none : (b : Bool) → TellsRw RUnlockOfUnlockedRwMutex (if◌then◌else◌ {A = rw.State × RwReply} b (s, rw_replies.Unlocked (rw_unlockings.Misuse RUnlockOfUnlockedRwMutex)) (if s.readers == 1 then (rw.last_read s.writer s, rw_replies.Unlocked rw_unlockings.Done) else (record s { readers = s.readers - 1 }, rw_replies.Unlocked rw_unlockings.Done))).1
  none true = refl
  none false = more (s.readers == 1)

  by : (b : Bool) → TellsRw RUnlockOfUnlockedRwMutex (if b then rw.at_place rw_events.ReadUnlock (rw.place_of s caller) caller s else rw.still s).1
  by true = none (s.readers == 0)
  by false = tt

write_tells : (s : rw.State) (caller : ℕ) → TellsRw UnlockOfUnlockedRwMutex (rw.next s caller rw_events.WriteUnlock).1
write_tells s caller = by (nat_lt caller s.callers) where
  holds : (inner : mutex.State × MutexReply) (b : Bool) → TellsRw UnlockOfUnlockedRwMutex (if◌then◌else◌ {A = rw.State × RwReply} b (record s { readers = length s.queue; writer = writers.Nobody; queue = []; admitted = s.admitted ++ s.queue; inner = inner.0 }, rw_replies.Unlocked rw_unlockings.Done) (s, rw_replies.Unlocked (rw_unlockings.Misuse UnlockOfUnlockedRwMutex))).1
  holds inner true = tt
  holds inner false = refl

  by : (b : Bool) → TellsRw UnlockOfUnlockedRwMutex (if b then rw.at_place rw_events.WriteUnlock (rw.place_of s caller) caller s else rw.still s).1
  by true = holds (mutex.next s.inner caller mutex_events.Unlock) (rw.is_holding s.writer)
  by false = tt

-- an unlock's answer
rw_unlock_row : (workers : ℕ) (which : Misuse) (event : EventWord) (r : RwReply) → HasRow workers kinds.RwMutex event answers.Done → HasRow workers kinds.RwMutex event (answers.Misused which) → IsStep (rw_meaning rw_stage.Unlock r) → TellsRw which r
    → HasRow workers kinds.RwMutex event (written.rw_answer r)
rw_unlock_row workers which event (rw_replies.Unlocked rw_unlockings.Done) done misused means tells = done
rw_unlock_row workers which event (rw_replies.Unlocked (rw_unlockings.Misuse misuse)) done misused means tells = subst (λ (m : Misuse). HasRow workers kinds.RwMutex event (answers.Misused m)) (sym tells) misused
rw_unlock_row workers which event r done misused means tells = absurd means

rw_arrive_row : (workers : ℕ) (event : EventWord) (later : RwMutexStage) (r : RwReply) → HasRow workers kinds.RwMutex event answers.Acquired → HasRow workers kinds.RwMutex event answers.Queued → IsStep (arrive_meaning later r) → HasRow workers kinds.RwMutex event (written.rw_answer r)
rw_arrive_row workers event later (rw_replies.Arrived rw_arrivals.Acquired) acquired queued means = acquired
rw_arrive_row workers event later (rw_replies.Arrived rw_arrivals.Queued) acquired queued means = queued
rw_arrive_row workers event later r acquired queued means = absurd means

rw_leave_row : (workers : ℕ) (later : RwMutexStage) (r : RwReply) → IsStep (leave_meaning later r) → HasRow workers kinds.RwMutex events.Leave (written.rw_answer r)
rw_leave_row workers later rw_replies.Left means = (refl, λ h. refl)
rw_leave_row workers later rw_replies.Still means = (refl, λ h. refl)
rw_leave_row workers later r means = absurd means

rw_row : (workers now : ℕ) (stage : RwMutexStage) (r : RwReply) → IsStep (rw_meaning stage r) → (rw_event stage now ≡ rw_events.ReadUnlock → TellsRw RUnlockOfUnlockedRwMutex r) → (rw_event stage now ≡ rw_events.WriteUnlock → TellsRw UnlockOfUnlockedRwMutex r)
    → HasRow workers kinds.RwMutex (written.rw_event (rw_event stage now)) (written.rw_answer r)
rw_row workers now rw_stage.Lock r means reads writes = rw_arrive_row workers (events.WriteArrive now) rw_stage.Resume r (refl, λ h. refl) (refl, λ h. refl) means
rw_row workers now rw_stage.RLock r means reads writes = rw_arrive_row workers events.ReadArrive rw_stage.LeaveReading r (refl, λ h. refl) (refl, λ h. refl) means
rw_row workers now rw_stage.Unlock r means reads writes = rw_unlock_row workers UnlockOfUnlockedRwMutex events.WriteUnlock r (refl, λ h. refl) (refl, λ h. refl) means (writes refl)
rw_row workers now rw_stage.RUnlock r means reads writes = rw_unlock_row workers RUnlockOfUnlockedRwMutex events.ReadUnlock r (refl, λ h. refl) (refl, λ h. refl) means (reads refl)
rw_row workers now rw_stage.LeaveWriting r means reads writes = rw_leave_row workers rw_stage.Resume r means
rw_row workers now rw_stage.Behind r means reads writes = rw_leave_row workers rw_stage.Behind r means
rw_row workers now rw_stage.LeaveReading r means reads writes = rw_leave_row workers rw_stage.LeaveReading r means
rw_row workers now rw_stage.TryLock (rw_replies.Tried taken) means reads writes = (refl, λ h. refl)
rw_row workers now rw_stage.TryRLock (rw_replies.Tried taken) means reads writes = (refl, λ h. refl)
rw_row workers now rw_stage.Resume (rw_replies.Resumed rw_resumptions.Acquired) means reads writes = (refl, λ h. refl)
rw_row workers now rw_stage.Resume (rw_replies.Resumed rw_resumptions.Queued) means reads writes = (refl, λ h. refl)
rw_row workers now rw_stage.Resume (rw_replies.Resumed rw_resumptions.Requeued) means reads writes = (refl, λ h. refl)
rw_row workers now rw_stage.Resume rw_replies.Still means reads writes = (refl, λ h. refl)
rw_row workers now rw_stage.Inner (rw_replies.Resumed rw_resumptions.Acquired) means reads writes = (refl, λ h. refl)
rw_row workers now rw_stage.Inner (rw_replies.Resumed rw_resumptions.Queued) means reads writes = (refl, λ h. refl)
rw_row workers now rw_stage.Inner (rw_replies.Resumed rw_resumptions.Requeued) means reads writes = (refl, λ h. refl)
rw_row workers now rw_stage.Inner rw_replies.Still means reads writes = (refl, λ h. refl)
rw_row workers now stage r means reads writes = absurd means

pub rw_has : (workers caller : ℕ) (s : rw.State) (e : RwEvent) (r : RwReply) → r ≡ (rw.next s caller e).1 → IsMeantBy rw_event rw_meaning e r → HasRow workers kinds.RwMutex (written.rw_event e) (written.rw_answer r)
rw_has workers caller s e r is (stage, now, at, means) =
    subst (λ (x : RwEvent). HasRow workers kinds.RwMutex (written.rw_event x) (written.rw_answer r)) (sym at)
    (rw_row workers now stage r means
    (λ unlock. subst (TellsRw RUnlockOfUnlockedRwMutex) (sym (is ∙ ap (λ (x : RwEvent). (rw.next s caller x).1) (at ∙ unlock))) (read_tells s caller))
    (λ unlock. subst (TellsRw UnlockOfUnlockedRwMutex) (sym (is ∙ ap (λ (x : RwEvent). (rw.next s caller x).1) (at ∙ unlock))) (write_tells s caller)))

-- ---- wait groups

abbrev TellsGroup : Misuse → GroupReply → Type 0
TellsGroup which (group_replies.Misused misuse) = misuse ≡ which
TellsGroup which reply = Unit {0}

add_tells : (s : group.GroupState) (caller : ℕ) (delta : ℤ) → TellsGroup NegativeWaitGroupCounter (group.next s caller (group_events.Add delta)).1
add_tells s caller delta = by (nat_lt caller (group.callers_of s)) where
  added : (sum : Option ℕ) → TellsGroup NegativeWaitGroupCounter (group.added sum s).1
  added None = refl
  added (Some counter) = tt

  by : (b : Bool) → TellsGroup NegativeWaitGroupCounter (if b then group.made s caller (group_events.Add delta) else (s, group_replies.Still)).1
  by true = added (group.within (pos s.counter +ℤ delta))
  by false = tt

leave_tells : (s : group.GroupState) (caller : ℕ) → TellsGroup WaitGroupReused (group.next s caller group_events.Leave).1
leave_tells s caller = by (nat_lt caller (group.callers_of s)) where
  reused : (b : Bool) → TellsGroup WaitGroupReused (if b then group_replies.Misused WaitGroupReused else group_replies.Done)
  reused true = refl
  reused false = tt

  left : (place : GroupPlace) → TellsGroup WaitGroupReused (group.leave_from place s caller).1
  left group_places.Released = reused (group.is_reused s)
  left group_places.Out = tt
  left group_places.Waiting = tt

  by : (b : Bool) → TellsGroup WaitGroupReused (if b then group.made s caller group_events.Leave else (s, group_replies.Still)).1
  by true = left (group.place_of s caller)
  by false = tt

add_row : (workers : ℕ) (amount : Whole) (r : GroupReply) → IsStep (add_meaning r) → TellsGroup NegativeWaitGroupCounter r → HasRow workers kinds.WaitGroup (events.Add amount) (written.group_answer r)
add_row workers amount group_replies.Done means tells = (refl, λ h. refl)
add_row workers amount (group_replies.Misused misuse) means tells = subst (λ (m : Misuse). HasRow workers kinds.WaitGroup (events.Add amount) (answers.Misused m)) (sym tells) (refl, λ h. refl)
add_row workers amount r means tells = absurd means

leave_row : (workers : ℕ) (r : GroupReply) → IsStep (group_meaning group_stage.Leave r) → TellsGroup WaitGroupReused r → HasRow workers kinds.WaitGroup events.Leave (written.group_answer r)
leave_row workers group_replies.Done means tells = (refl, λ h. refl)
leave_row workers group_replies.Still means tells = (refl, λ h. refl)
leave_row workers (group_replies.Misused misuse) means tells = subst (λ (m : Misuse). HasRow workers kinds.WaitGroup events.Leave (answers.Misused m)) (sym tells) (refl, λ h. refl)
leave_row workers r means tells = absurd means

group_row : (workers now : ℕ) (stage : GroupStage) (r : GroupReply) → IsStep (group_meaning stage r) → ((delta : ℤ) → group_event stage now ≡ group_events.Add delta → TellsGroup NegativeWaitGroupCounter r) → (group_event stage now ≡ group_events.Leave → TellsGroup WaitGroupReused r)
    → HasRow workers kinds.WaitGroup (written.group_event (group_event stage now)) (written.group_answer r)
group_row workers now (group_stage.Add delta) r means adds leaves = add_row workers (written.whole_of delta) r means (adds delta refl)
group_row workers now group_stage.Done r means adds leaves = add_row workers (written.whole_of (negsuc 0)) r means (adds (negsuc 0) refl)
group_row workers now group_stage.Leave r means adds leaves = leave_row workers r means (leaves refl)
group_row workers now group_stage.Wait group_replies.Done means adds leaves = (refl, λ h. refl)
group_row workers now group_stage.Wait group_replies.Queued means adds leaves = (refl, λ h. refl)
group_row workers now stage r means adds leaves = absurd means

pub group_has : (workers caller : ℕ) (s : group.GroupState) (e : GroupEvent) (r : GroupReply) → r ≡ (group.next s caller e).1 → IsMeantBy group_event group_meaning e r → HasRow workers kinds.WaitGroup (written.group_event e) (written.group_answer r)
group_has workers caller s e r is (stage, now, at, means) =
    subst (λ (x : GroupEvent). HasRow workers kinds.WaitGroup (written.group_event x) (written.group_answer r)) (sym at)
    (group_row workers now stage r means
    (λ delta add. subst (TellsGroup NegativeWaitGroupCounter) (sym (is ∙ ap (λ (x : GroupEvent). (group.next s caller x).1) (at ∙ add))) (add_tells s caller delta))
    (λ leave. subst (TellsGroup WaitGroupReused) (sym (is ∙ ap (λ (x : GroupEvent). (group.next s caller x).1) (at ∙ leave))) (leave_tells s caller)))

-- ---- weighted semaphores

abbrev TellsSema : SemaReply → Type 0
TellsSema (sema_replies.Misused misuse) = misuse ≡ SemaphoreOverReleased
TellsSema reply = Unit {0}

release_tells : (s : sema.SemaState) (caller weight : ℕ) → TellsSema (sema.next s caller (sema_events.Release weight)).1
release_tells s caller weight = by (nat_lt caller (sema.callers_of s)) where
  released : (b : Bool) → TellsSema (if◌then◌else◌ {A = sema.SemaState × SemaReply} b (s, sema_replies.Misused SemaphoreOverReleased) (sema.settled (record s { held = s.held - weight }), sema_replies.Done)).1
  released true = refl
  released false = tt

  by : (b : Bool) → TellsSema (if b then sema.made s caller (sema_events.Release weight) else (s, sema_replies.Still)).1
  by true = released (nat_lt s.held weight)
  by false = tt

release_row : (workers weight : ℕ) (r : SemaReply) → IsStep (release_meaning r) → TellsSema r → HasRow workers kinds.Sema (events.Release weight) (written.sema_answer r)
release_row workers weight sema_replies.Done means tells = (refl, λ h. refl)
release_row workers weight (sema_replies.Misused misuse) means tells = subst (λ (m : Misuse). HasRow workers kinds.Sema (events.Release weight) (answers.Misused m)) (sym tells) (refl, λ h. refl)
release_row workers weight r means tells = absurd means

sema_row : (workers now : ℕ) (stage : SemaStage) (r : SemaReply) → IsStep (sema_meaning stage r) → ((weight : ℕ) → sema_event stage now ≡ sema_events.Release weight → TellsSema r) → HasRow workers kinds.Sema (written.sema_event (sema_event stage now)) (written.sema_answer r)
sema_row workers now (sema_stage.Release weight) r means releases = release_row workers weight r means (releases weight refl)
sema_row workers now (sema_stage.Acquire weight) sema_replies.Done means releases = (refl, λ h. refl)
sema_row workers now (sema_stage.Acquire weight) sema_replies.Queued means releases = (refl, λ h. refl)
sema_row workers now (sema_stage.Try weight) sema_replies.Done means releases = (refl, λ h. refl)
sema_row workers now (sema_stage.Try weight) sema_replies.Refused means releases = (refl, λ h. refl)
sema_row workers now sema_stage.Leave sema_replies.Done means releases = (refl, λ h. refl)
sema_row workers now sema_stage.Leave sema_replies.Still means releases = (refl, λ h. refl)
sema_row workers now stage r means releases = absurd means

pub sema_has : (workers caller : ℕ) (s : sema.SemaState) (e : SemaEvent) (r : SemaReply) → r ≡ (sema.next s caller e).1 → IsMeantBy sema_event sema_meaning e r → HasRow workers kinds.Sema (written.sema_event e) (written.sema_answer r)
sema_has workers caller s e r is (stage, now, at, means) =
    subst (λ (x : SemaEvent). HasRow workers kinds.Sema (written.sema_event x) (written.sema_answer r)) (sym at)
    (sema_row workers now stage r means (λ weight release. subst TellsSema (sym (is ∙ ap (λ (x : SemaEvent). (sema.next s caller x).1) (at ∙ release))) (release_tells s caller weight)))

-- ---- conds, onces, parts of pools, flights, and Starts

cond_row : (workers now : ℕ) (stage : CondStage) (r : NotifyReply) → IsStep (cond_meaning stage r) → HasRow workers kinds.Cond (written.cond_event (cond_event stage now)) (written.cond_answer r)
cond_row workers now cond_stage.Ticket cond_replies.Done means = (refl, λ h. refl)
cond_row workers now cond_stage.Signal cond_replies.Done means = (refl, λ h. refl)
cond_row workers now cond_stage.Broadcast cond_replies.Done means = (refl, λ h. refl)
cond_row workers now cond_stage.Leave cond_replies.Done means = (refl, λ h. refl)
cond_row workers now cond_stage.Leave cond_replies.Still means = (refl, λ h. refl)
cond_row workers now stage r means = absurd means

pub cond_has : (workers : ℕ) (e : NotifyEvent) (r : NotifyReply) → IsMeantBy cond_event cond_meaning e r → HasRow workers kinds.Cond (written.cond_event e) (written.cond_answer r)
cond_has workers e r (stage, now, at, means) = subst (λ (x : NotifyEvent). HasRow workers kinds.Cond (written.cond_event x) (written.cond_answer r)) (sym at) (cond_row workers now stage r means)

module _ {T : Type 0} where
  once_row : (workers now : ℕ) (stage : OnceStage T) (r : OnceReply T) → IsStep (once_meaning stage r) → HasRow workers kinds.Once (written.once_event (once_event stage now)) (written.once_answer r)
  once_row workers now once_stage.Begin once_replies.Run means = (refl, λ h. refl)
  once_row workers now once_stage.Begin (once_replies.Done kept) means = (refl, λ h. refl)
  once_row workers now once_stage.Begin once_replies.Queued means = (refl, λ h. refl)
  once_row workers now (once_stage.End kept) once_replies.Ended means = (refl, λ h. refl)
  once_row workers now once_stage.Leave (once_replies.Left kept) means = (refl, λ h. refl)
  once_row workers now once_stage.Leave once_replies.Still means = (refl, λ h. refl)
  once_row workers now stage r means = absurd means

  pub once_has : (workers : ℕ) (e : OnceEvent T) (r : OnceReply T) → IsMeantBy once_event once_meaning e r → HasRow workers kinds.Once (written.once_event e) (written.once_answer r)
  once_has workers e r (stage, now, at, means) = subst (λ (x : OnceEvent T). HasRow workers kinds.Once (written.once_event x) (written.once_answer r)) (sym at) (once_row workers now stage r means)

-- a look's answer
look_row : (workers : ℕ) (event : EventWord) (r : PoolReply ℕ) (answer : AnswerWord) → ((item : ℕ) → HasRow workers kinds.PoolPart event (answers.Item item)) → HasRow workers kinds.PoolPart event answers.Nothing → IsStep (look_meaning r) → written.pool_answer r ≡ Some answer
    → HasRow workers kinds.PoolPart event answer
look_row workers event (pool_replies.Item item) answer taken none means is = subst (HasRow workers kinds.PoolPart event) (same_some _ answer is) (taken item)
look_row workers event pool_replies.Nothing answer taken none means is = subst (HasRow workers kinds.PoolPart event) (same_some _ answer is) none
look_row workers event r answer taken none means is = absurd means

pool_row : (workers now : ℕ) (stage : PoolStage) (r : PoolReply ℕ) (answer : AnswerWord) → IsStep (pool_meaning stage r) → written.pool_answer r ≡ Some answer → HasRow workers kinds.PoolPart (written.pool_event (pool_event stage now)) answer
pool_row workers now (pool_stage.Put item) pool_replies.Kept answer means is = subst (HasRow workers kinds.PoolPart (events.Put item)) (same_some _ answer is) (refl, λ h. refl)
pool_row workers now (pool_stage.Put item) (pool_replies.Dropped dropped) answer means is = absurd cc
pool_row workers now pool_stage.Sweep pool_replies.Swept answer means is = subst (HasRow workers kinds.PoolPart events.Sweep) (same_some _ answer is) (refl, λ h. refl)
pool_row workers now pool_stage.LookOwn r answer means is = look_row workers events.LookOwn r answer (λ item. (refl, λ h. h)) (refl, λ h. refl) means is
pool_row workers now (pool_stage.LookOther part) r answer means is = look_row workers events.LookOther r answer (λ item. (refl, λ h. h)) (refl, λ h. refl) means is
pool_row workers now (pool_stage.LookVictim part) r answer means is = look_row workers events.LookVictim r answer (λ item. (refl, λ h. h)) (refl, λ h. refl) means is
pool_row workers now stage r answer means is = absurd means

pub pool_has : (workers : ℕ) (e : PoolEvent ℕ) (r : PoolReply ℕ) (answer : AnswerWord) → IsMeantBy pool_event pool_meaning e r → written.pool_answer r ≡ Some answer → HasRow workers kinds.PoolPart (written.pool_event e) answer
pool_has workers e r answer (stage, now, at, means) is = subst (λ (x : PoolEvent ℕ). HasRow workers kinds.PoolPart (written.pool_event x) answer) (sym at) (pool_row workers now stage r answer means is)

flight_row : (workers now : ℕ) (stage : FlightStage) (r : FlightReply) → IsStep (flight_meaning stage r) → HasRow workers kinds.Flight (written.flight_event (flight_event stage now)) (written.flight_answer r)
flight_row workers now (flight_stage.Join key) flight_replies.Lead means = (refl, λ h. refl)
flight_row workers now (flight_stage.Join key) flight_replies.Queued means = (refl, λ h. refl)
flight_row workers now (flight_stage.Land value) (flight_replies.Landed shared) means = (refl, λ h. refl)
flight_row workers now flight_stage.Leave (flight_replies.Left value) means = (refl, λ h. h)
flight_row workers now flight_stage.Leave flight_replies.Still means = (refl, λ h. refl)
flight_row workers now stage r means = absurd means

pub flight_has : (workers : ℕ) (e : FlightEvent) (r : FlightReply) → IsMeantBy flight_event flight_meaning e r → HasRow workers kinds.Flight (written.flight_event e) (written.flight_answer r)
flight_has workers e r (stage, now, at, means) = subst (λ (x : FlightEvent). HasRow workers kinds.Flight (written.flight_event x) (written.flight_answer r)) (sym at) (flight_row workers now stage r means)

starts_row : (workers now : ℕ) (stage : StartsStage) (r : StartReply) → IsStep (starts_meaning stage r) → HasRow workers kinds.Starts (written.start_event (starts_event stage now)) (written.start_answer r)
starts_row workers now (starts_stage.Start worker) start_replies.Done means = (refl, λ h. refl)
starts_row workers now starts_stage.End start_replies.Done means = (refl, λ h. refl)
starts_row workers now starts_stage.WaitStart start_replies.Go means = (refl, λ h. refl)
starts_row workers now starts_stage.WaitStart start_replies.Never means = (refl, λ h. refl)
starts_row workers now starts_stage.WaitStart start_replies.Still means = (refl, λ h. refl)
starts_row workers now stage r means = absurd means

pub starts_has : (workers : ℕ) (e : StartEvent) (r : StartReply) → IsMeantBy starts_event starts_meaning e r → HasRow workers kinds.Starts (written.start_event e) (written.start_answer r)
starts_has workers e r (stage, now, at, means) = subst (λ (x : StartEvent). HasRow workers kinds.Starts (written.start_event x) (written.start_answer r)) (sym at) (starts_row workers now stage r means)
