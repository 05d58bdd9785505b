-- What is said of an entry of a lawful journal is in range.
use Rattle.std.proofs.Common.{◌≡◌, ℕ, zero, suc, ◌^◌, Bool, true, false, ◌&&◌, List, [], ◌∷◌, map, slice_get, codes, Option, Some, None, refl, sym, ap, ◌∙◌, subst}
use Rattle.std.specs.Option.{option_map, option_map_or}
use Rattle.std.proofs.lemmas.Bool.{lt-ltb}
use Rattle.std.proofs.lemmas.List.Elements.{recursion_from_All}
use Rattle.sync_types.specs.declared.misuse.Misuse.{Misuse}
use Rattle.sync_types.specs.declared.misuse.Misuse.TheVariants.{UnlockOfUnlockedMutex}
use Rattle.sync_model.specs.declared.journal.Deed.{Deed}
use Rattle.sync_model.specs.declared.journal.Deed.TheVariants.{Event, Refused, Halt}
use Rattle.sync_model.specs.declared.journal.Entry.{Entry}
use Rattle.mutex_core.specs.declared.event.MutexEvent.{MutexEvent}
use Rattle.mutex_core.specs.declared.event.MutexEvent.TheVariants as mutex_events
use Rattle.mutex_core.specs.MutexMachine as mutex
use Rattle.rw_core.specs.declared.event.RwEvent.{RwEvent}
use Rattle.rw_core.specs.declared.event.RwEvent.TheVariants as rw_events
use Rattle.rw_core.specs.RwMachine as rw
use Rattle.wait_cores.specs.declared.group.GroupEvent.{GroupEvent}
use Rattle.wait_cores.specs.declared.group.GroupEvent.TheVariants as group_events
use Rattle.wait_cores.specs.declared.notify.NotifyEvent.{NotifyEvent}
use Rattle.wait_cores.specs.declared.notify.NotifyEvent.TheVariants as cond_events
use Rattle.wait_cores.specs.declared.once.OnceEvent.{OnceEvent}
use Rattle.wait_cores.specs.declared.once.OnceEvent.TheVariants as once_events
use Rattle.wait_cores.specs.GroupMachine as group
use Rattle.wait_cores.specs.NotifyMachine as notify
use Rattle.wait_cores.specs.OnceMachine as once
use Rattle.pool_core.specs.declared.pool_event.PoolEvent.{PoolEvent}
use Rattle.pool_core.specs.declared.pool_event.PoolEvent.TheVariants as pool_events
use Rattle.pool_core.specs.declared.pool_event.PoolReply.{PoolReply}
use Rattle.pool_core.specs.declared.pool_event.PoolReply.TheVariants as pool_replies
use Rattle.pool_core.specs.PartMachine.{part_next, part_start}
use Rattle.sema_core.specs.declared.event.SemaEvent.{SemaEvent}
use Rattle.sema_core.specs.declared.event.SemaEvent.TheVariants as sema_events
use Rattle.sema_core.specs.SemaMachine as sema
use Rattle.flight_core.specs.declared.event.FlightEvent.{FlightEvent}
use Rattle.flight_core.specs.declared.event.FlightEvent.TheVariants as flight_events
use Rattle.flight_core.specs.FlightMachine as flight
use Rattle.starts_core.specs.StartsMachine.{begun, next as starts_next}
use Rattle.starts_core.specs.declared.starts.StartEvent.{StartEvent}
use Rattle.starts_core.specs.declared.starts.StartEvent.TheVariants as start_events
use Rattle.protocols.specs.PoolStages.{pool_event, pool_meaning}
use Rattle.workload.specs.declared.object.ObjectKind.{ObjectKind}
use Rattle.workload.specs.declared.object.ObjectKind.TheVariants as object_kinds
use Rattle.workload.specs.Plan.{Plan}
use Rattle.workload.specs.Puts.{puts_at}
use Rattle.run_record.specs.declared.entered.ObjectEvent.{ObjectEvent}
use Rattle.run_record.specs.declared.entered.ObjectEvent.TheVariants as object_events
use Rattle.run_record.specs.declared.entered.ObjectReply.{ObjectReply}
use Rattle.run_record.specs.declared.entered.ObjectReply.TheVariants as object_replies
use Rattle.run_record.specs.Calls.{IsJournalOf}
use Rattle.run_record.specs.Explains.{IsRecordOf}
use Rattle.run_record.specs.Journals.{FollowsFrom, IsStops}
use Rattle.run_record.specs.Parts.{lifted, lifted_deed}
use Rattle.run_record.specs.Record.{ObjectEntry, Record, journal_of, stop}
use Rattle.run_record.specs.WaitGroupKind.{group_start}
use Rattle.record_text.specs.declared.answer.AnswerWord.{AnswerWord}
use Rattle.record_text.specs.declared.answer.AnswerWord.TheVariants as answers
use Rattle.record_text.specs.declared.directory.Named.{Named}
use Rattle.record_text.specs.declared.event.EventWord.{EventWord}
use Rattle.record_text.specs.declared.event.EventWord.TheVariants as events
use Rattle.record_text.specs.declared.event.JournalKind.{JournalKind}
use Rattle.record_text.specs.declared.event.JournalKind.TheVariants as kinds
use Rattle.record_text.specs.declared.item_line.Said.{Said}
use Rattle.record_text.specs.declared.item_line.Said.TheVariants.{Entered}
use Rattle.record_text.specs.AnswerWords.{has_answer, is_answer}
use Rattle.record_text.specs.EventWords.{is_event}
use Rattle.record_text.specs.ItemLines.{is_named, is_said, may_have}
use Rattle.record_text.specs.Journals.{kind_of, named_in, named_object, named_part}
use Rattle.record_text.specs.LawfulItems.{has_numbers}
use Rattle.record_text.specs.Numbers.{has_64_bits}
use Rattle.record_text.specs.Written as written
use Rattle.record_text.proofs.Decimals.{both, pair}
use Rattle.record_text.proofs.EachDeed.{IsMeantBy}
use Rattle.record_text.proofs.MeantItems.{IsMeant, IsMeantDeed, StartsOne}
use Rattle.record_text.proofs.NumberedObjects.{IsObject, is_declared, is_part, is_starts, is_stop, object_of}
use Rattle.record_text.proofs.OwnWords.{each_at}
use Rattle.record_text.proofs.Rows.{HasRow, IsAnswered, answered_at, cond_has, flight_has, group_has, mutex_has, once_has, pool_has, rw_has, sema_has, starts_has}

-- ---- a deed has a row

-- the answer to the deed's event is one of the row of the event in a journal of this kind
abbrev pub RowOf : ℕ → JournalKind → Deed ObjectEvent ObjectReply → Type 0
RowOf workers kind (Event event reply) = (answer : AnswerWord) × (written.answer_of reply ≡ Some answer) × HasRow workers kind (written.event_of event) answer
RowOf workers kind (Refused event misuse) = HasRow workers kind (written.event_of event) (answers.Halted misuse)
RowOf workers kind (Halt misuse) = HasRow workers kind (events.Halt misuse) answers.Done

-- an event of the kind may be refused, and names one of so many workers
abbrev WordRow : ℕ → JournalKind → EventWord → Misuse → Type 0
WordRow workers kind event misuse = HasRow workers kind event (answers.Halted misuse) × (is_event (2 ^ 64) event ≡ true → is_event workers event ≡ true)

mutex_word : (workers : ℕ) (e : MutexEvent) (m : Misuse) → WordRow workers kinds.Mutex (written.mutex_event e) m
mutex_word workers (mutex_events.Arrive now) m = ((refl, λ h. refl), λ h. h)
mutex_word workers mutex_events.Try m = ((refl, λ h. refl), λ h. h)
mutex_word workers mutex_events.Unlock m = ((refl, λ h. refl), λ h. h)
mutex_word workers (mutex_events.Woken now) m = ((refl, λ h. refl), λ h. h)

rw_word : (workers : ℕ) (e : RwEvent) (m : Misuse) → WordRow workers kinds.RwMutex (written.rw_event e) m
rw_word workers rw_events.ReadArrive m = ((refl, λ h. refl), λ h. h)
rw_word workers rw_events.ReadTry m = ((refl, λ h. refl), λ h. h)
rw_word workers rw_events.ReadUnlock m = ((refl, λ h. refl), λ h. h)
rw_word workers (rw_events.WriteArrive now) m = ((refl, λ h. refl), λ h. h)
rw_word workers rw_events.WriteTry m = ((refl, λ h. refl), λ h. h)
rw_word workers (rw_events.WriteWoken now) m = ((refl, λ h. refl), λ h. h)
rw_word workers rw_events.WriteUnlock m = ((refl, λ h. refl), λ h. h)
rw_word workers rw_events.Leave m = ((refl, λ h. refl), λ h. h)

cond_word : (workers : ℕ) (e : NotifyEvent) (m : Misuse) → WordRow workers kinds.Cond (written.cond_event e) m
cond_word workers cond_events.Ticket m = ((refl, λ h. refl), λ h. h)
cond_word workers cond_events.Signal m = ((refl, λ h. refl), λ h. h)
cond_word workers cond_events.Broadcast m = ((refl, λ h. refl), λ h. h)
cond_word workers cond_events.Leave m = ((refl, λ h. refl), λ h. h)

group_word : (workers : ℕ) (e : GroupEvent) (m : Misuse) → WordRow workers kinds.WaitGroup (written.group_event e) m
group_word workers (group_events.Add delta) m = ((refl, λ h. refl), λ h. h)
group_word workers group_events.Wait m = ((refl, λ h. refl), λ h. h)
group_word workers group_events.Leave m = ((refl, λ h. refl), λ h. h)

once_word : {T : Type 0} (workers : ℕ) (e : OnceEvent T) (m : Misuse) → WordRow workers kinds.Once (written.once_event e) m
once_word workers once_events.Begin m = ((refl, λ h. refl), λ h. h)
once_word workers (once_events.End came_to) m = ((refl, λ h. refl), λ h. h)
once_word workers once_events.Leave m = ((refl, λ h. refl), λ h. h)

pool_word : (workers : ℕ) (e : PoolEvent ℕ) (m : Misuse) → WordRow workers kinds.PoolPart (written.pool_event e) m
pool_word workers (pool_events.Put item) m = ((refl, λ h. refl), λ h. h)
pool_word workers pool_events.LookOwn m = ((refl, λ h. refl), λ h. h)
pool_word workers (pool_events.LookOther part) m = ((refl, λ h. refl), λ h. h)
pool_word workers (pool_events.LookVictim part) m = ((refl, λ h. refl), λ h. h)
pool_word workers pool_events.Sweep m = ((refl, λ h. refl), λ h. h)

sema_word : (workers : ℕ) (e : SemaEvent) (m : Misuse) → WordRow workers kinds.Sema (written.sema_event e) m
sema_word workers (sema_events.Acquire weight) m = ((refl, λ h. refl), λ h. h)
sema_word workers (sema_events.Try weight) m = ((refl, λ h. refl), λ h. h)
sema_word workers (sema_events.Release weight) m = ((refl, λ h. refl), λ h. h)
sema_word workers sema_events.Leave m = ((refl, λ h. refl), λ h. h)

flight_word : (workers : ℕ) (e : FlightEvent) (m : Misuse) → WordRow workers kinds.Flight (written.flight_event e) m
flight_word workers (flight_events.Join key) m = ((refl, λ h. refl), λ h. h)
flight_word workers (flight_events.Land value) m = ((refl, λ h. refl), λ h. h)
flight_word workers flight_events.Leave m = ((refl, λ h. refl), λ h. h)

start_word : (workers : ℕ) (e : StartEvent) (m : Misuse) → StartsOne workers (object_events.Starts e) → WordRow workers kinds.Starts (written.start_event e) m
start_word workers (start_events.Start worker) m one = ((refl, λ h. refl), λ h. lt-ltb worker workers one)
start_word workers start_events.End m one = ((refl, λ h. refl), λ h. h)
start_word workers start_events.Leave m one = ((refl, λ h. refl), λ h. h)

-- ---- the entries of journals

-- an entry of a journal that follows a machine is an entry of the machine's kind, and is answered by it
abbrev IsOwn : {S E R : Type 0} → (E → ObjectEvent) → (R → ObjectReply) → (S → ℕ → E → S × R) → (S → Type 0) → ObjectEntry → Type 0
IsOwn {S} {E} {R} event reply next Keeps entry = (own : Entry E R) × (entry ≡ lifted event reply own) × IsAnswered next Keeps own.caller own.deed

pub mapped_at : {A B : Type 0} (f : A → B) (xs : List A) (i : ℕ) (y : B) → slice_get (map f xs) i ≡ Some y → (x : A) × (slice_get xs i ≡ Some x) × (y ≡ f x)
mapped_at f [] i y at = absurd cc
mapped_at f (x ∷ xs) zero y at = (x, refl, (let same : f x ≡ y = cc in sym same))
mapped_at f (x ∷ xs) (suc i) y at = mapped_at f xs i y at

module _ {S E R : Type 0} (event : E → ObjectEvent) (reply : R → ObjectReply) (next : S → ℕ → E → S × R) (Keeps : S → Type 0) (keeps : (state : S) (caller : ℕ) (event : E) → Keeps state → Keeps (next state caller event).0) where
  own_at : (frees takes : E → R → Bool) (start : S) (journal : List ObjectEntry) (i : ℕ) (entry : ObjectEntry) → Keeps start → FollowsFrom event reply next frees takes start journal → slice_get journal i ≡ Some entry → IsOwn event reply next Keeps entry
  own_at frees takes start journal i entry kept (own, is, follows, edges) at =
      let (x, at_x, same) = mapped_at (lifted event reply) own i entry (ap (λ (l : List ObjectEntry). slice_get l i) (sym is) ∙ at) in
      (x, same, answered_at next Keeps keeps true start None own i x kept follows at_x)

pub no_entry : (journal : List ObjectEntry) (i : ℕ) (entry : ObjectEntry) → journal ≡ [] → slice_get journal i ≡ Some entry → ⊥
no_entry journal i entry none at = none_some entry (ap (λ (l : List ObjectEntry). slice_get l i) (sym none) ∙ at) where
  none_some : (x : ObjectEntry) → None ≡ Some x → ⊥
  none_some x e = absurd cc

-- no item that was put was dropped
abbrev pub KeepsItem : ObjectReply → Type 0
KeepsItem (object_replies.Pool (pool_replies.Dropped item)) = ⊥
KeepsItem reply = Unit {0}

abbrev pub KeepsAll : Deed ObjectEvent ObjectReply → Type 0
KeepsAll (Event event reply) = KeepsItem reply
KeepsAll (Refused event misuse) = Unit {0}
KeepsAll (Halt misuse) = Unit {0}

-- the deed's event names one of so many workers
abbrev RangeOf : ℕ → Deed ObjectEvent ObjectReply → Type 0
RangeOf workers (Event event reply) = is_event (2 ^ 64) (written.event_of event) ≡ true → is_event workers (written.event_of event) ≡ true
RangeOf workers (Refused event misuse) = is_event (2 ^ 64) (written.event_of event) ≡ true → is_event workers (written.event_of event) ≡ true
RangeOf workers (Halt misuse) = Unit {0}

abbrev Fits : ℕ → JournalKind → Deed ObjectEvent ObjectReply → Type 0
Fits workers kind deed = RowOf workers kind deed × RangeOf workers deed

-- the reply to the event has a word, which is one of the event's row
abbrev HasWord : ℕ → JournalKind → ObjectEvent → ObjectReply → Type 0
HasWord workers kind event reply = (answer : AnswerWord) × (written.answer_of reply ≡ Some answer) × HasRow workers kind (written.event_of event) answer

module _ {S E R : Type 0} (event : E → ObjectEvent) (reply : R → ObjectReply) (next : S → ℕ → E → S × R) (Keeps : S → Type 0) (keeps : (state : S) (caller : ℕ) (event : E) → Keeps state → Keeps (next state caller event).0) (workers : ℕ) (kind : JournalKind)
    (halts : (m : Misuse) → HasRow workers kind (events.Halt m) answers.Done)
    (words : (e : E) (m : Misuse) → StartsOne workers (event e) → WordRow workers kind (written.event_of (event e)) m)
    (has : (caller : ℕ) (state : S) (e : E) (r : R) → Keeps state → r ≡ (next state caller e).1 → IsMeant (event e) (reply r) → KeepsItem (reply r) → HasWord workers kind (event e) (reply r)) where
  deed_fits : (caller : ℕ) (deed : Deed E R) → IsAnswered next Keeps caller deed → IsMeantDeed workers (lifted_deed event reply deed) → KeepsAll (lifted_deed event reply deed) → Fits workers kind (lifted_deed event reply deed)
  deed_fits caller (Event e r) (state, kept, is) meant dropped = (has caller state e r kept is meant.0 dropped, (words e UnlockOfUnlockedMutex meant.1).1)
  deed_fits caller (Refused e m) is meant dropped = let word = words e m meant in (word.0, word.1)
  deed_fits caller (Halt m) is meant dropped = (halts m, tt)

  fits_at : (frees takes : E → R → Bool) (start : S) (journal : List ObjectEntry) (i : ℕ) (entry : ObjectEntry) → Keeps start → FollowsFrom event reply next frees takes start journal → slice_get journal i ≡ Some entry → IsMeantDeed workers entry.deed → KeepsAll entry.deed
      → Fits workers kind entry.deed
  fits_at frees takes start journal i entry kept follows at meant dropped =
      let (own, same, is) = own_at event reply next Keeps keeps frees takes start journal i entry kept follows at in
      let deed = ap (λ (x : ObjectEntry). x.deed) same in
      subst (Fits workers kind) (sym deed) (deed_fits own.caller own.deed is (subst (IsMeantDeed workers) deed meant) (subst KeepsAll deed dropped))

-- ---- what is said of an entry

abbrev pub EntryLine : Plan → ℕ → ℕ → ObjectEntry → Type 0
EntryLine plan object number entry = (said : Said) × (written.entry_said object number entry.deed ≡ Some said) × (has_numbers said ≡ true → is_said plan said ≡ true)

said_fits : (plan : Plan) (object number : ℕ) (named : Named) (event : EventWord) (answer : AnswerWord) → slice_get (named_in plan) object ≡ Some named → is_named plan object ≡ true → HasRow plan.workers named.kind event answer
    → (is_event (2 ^ 64) event ≡ true → is_event plan.workers event ≡ true) → has_numbers (Entered object number event answer) ≡ true → is_said plan (Entered object number event answer) ≡ true
said_fits plan object number named event answer at own row range h =
    let parts = both (has_64_bits number) (is_event (2 ^ 64) event && is_answer (2 ^ 64) answer) h in
    let words = both (is_event (2 ^ 64) event) (is_answer (2 ^ 64) answer) parts.1 in
    let may : may_have plan object event answer ≡ true = ap (λ (o : Option Named). option_map_or (λ (n : Named). has_answer n.kind event answer) o false) at ∙ row.0 in
    pair (is_named plan object) _ own (pair (has_64_bits number) _ parts.0 (pair (is_event plan.workers event) _ (range words.0) (pair (is_answer plan.workers answer) _ (row.1 words.1) may)))

entry_fits : (plan : Plan) (object number : ℕ) (named : Named) (deed : Deed ObjectEvent ObjectReply) → slice_get (named_in plan) object ≡ Some named → is_named plan object ≡ true → Fits plan.workers named.kind deed
    → (said : Said) × (written.entry_said object number deed ≡ Some said) × (has_numbers said ≡ true → is_said plan said ≡ true)
entry_fits plan object number named (Event e r) at own ((answer, is, row), range) = (
  Entered object number (written.event_of e) answer,
  ap (option_map (λ (a : AnswerWord). Entered object number (written.event_of e) a)) is,
  said_fits plan object number named (written.event_of e) answer at own row range,
)
entry_fits plan object number named (Refused e m) at own (row, range) = (Entered object number (written.event_of e) (answers.Halted m), refl, said_fits plan object number named (written.event_of e) (answers.Halted m) at own row range)
entry_fits plan object number named (Halt m) at own (row, range) = (Entered object number (events.Halt m) answers.Done, refl, said_fits plan object number named (events.Halt m) answers.Done at own row (λ h. refl))

-- Stop is halted alone
pub stop_line : (journal : List ObjectEntry) (number : ℕ) (entry : ObjectEntry) → IsStops journal → slice_get journal number ≡ Some entry → (m : Misuse) × (entry.deed ≡ Halt m)
stop_line journal number entry stops at = each_at (λ (x : ObjectEntry). (m : Misuse) × (x.deed ≡ Halt m)) journal number entry (recursion_from_All (λ (x : ObjectEntry). (m : Misuse) × (x.deed ≡ Halt m)) journal stops) at

-- ---- by the kind of the object

abbrev Kept : ℕ → mutex.State → Type 0
Kept workers s = (s.callers ≡ workers) × mutex.IsValid s

module _ (plan : Plan) (begins : (callers : ℕ) → mutex.IsValid (mutex.start callers)) (goes_on : (s : mutex.State) (caller : ℕ) (e : MutexEvent) → mutex.IsValid s → mutex.IsValid (mutex.next s caller e).0)
    (same_callers : (s : mutex.State) (caller : ℕ) (e : MutexEvent) → (mutex.next s caller e).0.callers ≡ s.callers) where
  fits_kind : (place : ℕ) (kind : ObjectKind) (journal : List ObjectEntry) (i : ℕ) (entry : ObjectEntry) → IsJournalOf plan place kind journal → slice_get journal i ≡ Some entry → IsMeantDeed plan.workers entry.deed → KeepsAll entry.deed → Fits plan.workers (kind_of kind) entry.deed
  fits_kind place object_kinds.Map journal i entry is at meant dropped = absurd (no_entry journal i entry is at)
  fits_kind place (object_kinds.Atomic type) journal i entry is at meant dropped = absurd (no_entry journal i entry is at)
  fits_kind place object_kinds.Pool journal i entry is at meant dropped = absurd (no_entry journal i entry is at)
  fits_kind place object_kinds.Var journal i entry is at meant dropped = absurd (no_entry journal i entry is at)
  fits_kind place object_kinds.Mutex journal i entry is at meant dropped =
      fits_at object_events.Mutex object_replies.Mutex mutex.next (Kept plan.workers) (λ s caller e kept. (same_callers s caller e ∙ kept.0, goes_on s caller e kept.1)) plan.workers kinds.Mutex (λ m. (refl, λ h. refl))
      (λ e m one. mutex_word plan.workers e m) (λ caller s e r kept same means dropped. (written.mutex_answer r, refl, mutex_has plan.workers caller s e r kept.0 kept.1 same means))
      _ _ (mutex.start plan.workers) journal i entry (refl, begins plan.workers) is at meant dropped
  fits_kind place object_kinds.RwMutex journal i entry is at meant dropped =
      fits_at object_events.RwMutex object_replies.RwMutex rw.next (λ s. Unit {0}) (λ s caller e kept. tt) plan.workers kinds.RwMutex (λ m. (refl, λ h. refl))
      (λ e m one. rw_word plan.workers e m) (λ caller s e r kept same means dropped. (written.rw_answer r, refl, rw_has plan.workers caller s e r same means))
      _ _ (rw.start plan.workers) journal i entry tt is at meant dropped
  fits_kind place (object_kinds.Cond mutex) journal i entry is at meant dropped =
      fits_at object_events.Cond object_replies.Cond notify.next (λ s. Unit {0}) (λ s caller e kept. tt) plan.workers kinds.Cond (λ m. (refl, λ h. refl))
      (λ e m one. cond_word plan.workers e m) (λ caller s e r kept same means dropped. (written.cond_answer r, refl, cond_has plan.workers e r means))
      _ _ (notify.start plan.workers) journal i entry tt is at meant dropped
  fits_kind place (object_kinds.WaitGroup start) journal i entry is at meant dropped =
      fits_at object_events.WaitGroup object_replies.WaitGroup group.next (λ s. Unit {0}) (λ s caller e kept. tt) plan.workers kinds.WaitGroup (λ m. (refl, λ h. refl))
      (λ e m one. group_word plan.workers e m) (λ caller s e r kept same means dropped. (written.group_answer r, refl, group_has plan.workers caller s e r same means))
      _ _ (group_start plan.workers start) journal i entry tt is at meant dropped
  fits_kind place (object_kinds.Once atomic delta) journal i entry is at meant dropped =
      fits_at object_events.Once object_replies.Once once.next (λ s. Unit {0}) (λ s caller e kept. tt) plan.workers kinds.Once (λ m. (refl, λ h. refl))
      (λ e m one. once_word plan.workers e m) (λ caller s e r kept same means dropped. (written.once_answer r, refl, once_has plan.workers e r means))
      _ _ (once.start plan.workers) journal i entry tt is at meant dropped
  fits_kind place (object_kinds.OnceFunc code) journal i entry is at meant dropped =
      fits_at object_events.OnceFunc object_replies.OnceFunc once.next (λ s. Unit {0}) (λ s caller e kept. tt) plan.workers kinds.Once (λ m. (refl, λ h. refl))
      (λ e m one. once_word plan.workers e m) (λ caller s e r kept same means dropped. (written.once_answer r, refl, once_has plan.workers e r means))
      _ _ (once.start plan.workers) journal i entry tt is at meant dropped
  fits_kind place (object_kinds.OnceValue value) journal i entry is at meant dropped =
      fits_at object_events.OnceValue object_replies.OnceValue once.next (λ s. Unit {0}) (λ s caller e kept. tt) plan.workers kinds.Once (λ m. (refl, λ h. refl))
      (λ e m one. once_word plan.workers e m) (λ caller s e r kept same means dropped. (written.once_answer r, refl, once_has plan.workers e r means))
      _ _ (once.start plan.workers) journal i entry tt is at meant dropped
  fits_kind place (object_kinds.Sema size) journal i entry is at meant dropped =
      fits_at object_events.Sema object_replies.Sema sema.next (λ s. Unit {0}) (λ s caller e kept. tt) plan.workers kinds.Sema (λ m. (refl, λ h. refl))
      (λ e m one. sema_word plan.workers e m) (λ caller s e r kept same means dropped. (written.sema_answer r, refl, sema_has plan.workers caller s e r same means))
      _ _ (sema.start plan.workers size) journal i entry tt is at meant dropped
  fits_kind place (object_kinds.Flight atomic delta) journal i entry is at meant dropped =
      fits_at object_events.Flight object_replies.Flight flight.next (λ s. Unit {0}) (λ s caller e kept. tt) plan.workers kinds.Flight (λ m. (refl, λ h. refl))
      (λ e m one. flight_word plan.workers e m) (λ caller s e r kept same means dropped. (written.flight_answer r, refl, flight_has plan.workers e r means))
      _ _ (flight.start plan.workers) journal i entry tt is at meant dropped

  -- an item that was kept has a word
  part_has : (e : PoolEvent ℕ) (r : PoolReply ℕ) → IsMeantBy pool_event pool_meaning e r → KeepsItem (object_replies.Pool r) → HasWord plan.workers kinds.PoolPart (object_events.Pool e) (object_replies.Pool r)
  part_has e (pool_replies.Dropped item) means dropped = absurd dropped
  part_has e pool_replies.Kept means dropped = (answers.Done, refl, pool_has plan.workers e pool_replies.Kept answers.Done means refl)
  part_has e (pool_replies.Item item) means dropped = (answers.Item item, refl, pool_has plan.workers e (pool_replies.Item item) (answers.Item item) means refl)
  part_has e pool_replies.Nothing means dropped = (answers.Nothing, refl, pool_has plan.workers e pool_replies.Nothing answers.Nothing means refl)
  part_has e pool_replies.Swept means dropped = (answers.Done, refl, pool_has plan.workers e pool_replies.Swept answers.Done means refl)
  part_has e pool_replies.Still means dropped = (answers.Still, refl, pool_has plan.workers e pool_replies.Still answers.Still means refl)

  -- an entry of a lawful journal, of a deed that its call's protocol makes
  module _ (r : Record) (is : IsRecordOf plan r) (own_words : (object : ℕ) (named : Named) → slice_get (named_in plan) object ≡ Some named → is_named plan object ≡ true) where
    by_object : (object number : ℕ) (entry : ObjectEntry) → IsObject plan r object → slice_get (journal_of r object) number ≡ Some entry → IsMeantDeed plan.workers entry.deed → KeepsAll entry.deed → EntryLine plan object number entry
    by_object object number entry (is_stop zero_is) at meant dropped =
        let (m, deed) = stop_line (journal_of r stop) number entry is.stops (ap (λ (o : ℕ). slice_get (journal_of r o) number) (sym zero_is) ∙ at) in
        let named : slice_get (named_in plan) object ≡ Some (record { word = codes "!stop"; kind = kinds.Stop }) = ap (slice_get (named_in plan)) zero_is in
        entry_fits plan object number (record { word = codes "!stop"; kind = kinds.Stop }) entry.deed named (own_words object _ named) (subst (Fits plan.workers kinds.Stop) (sym deed) ((refl, λ h. refl), tt))
    by_object object number entry (is_declared place line line_is named journal) at meant dropped =
        entry_fits plan object number (named_object line) entry.deed named (own_words object (named_object line) named) (fits_kind place line.kind (journal_of r object) number entry journal at meant dropped)
    by_object object number entry (is_part place part line line_is pool low object_is named journal) at meant dropped =
        entry_fits plan object number (named_part line part) entry.deed named (own_words object (named_part line part) named)
        (fits_at object_events.Pool object_replies.Pool part_next (λ s. Unit {0}) (λ s caller e kept. tt) plan.workers kinds.PoolPart (λ m. (refl, λ h. refl))
        (λ e m one. pool_word plan.workers e m) (λ caller s e r kept same means dropped. part_has e r means dropped)
        _ _ (part_start (puts_at place plan.scripts)) (journal_of r object) number entry tt journal at meant dropped)
    by_object object number entry (is_starts named journal) at meant dropped =
        entry_fits plan object number (record { word = codes "!starts"; kind = kinds.Starts }) entry.deed named (own_words object _ named)
        (fits_at object_events.Starts object_replies.Starts starts_next (λ s. Unit {0}) (λ s caller e kept. tt) plan.workers kinds.Starts (λ m. (refl, λ h. refl))
        (λ e m one. start_word plan.workers e m one) (λ caller s e r kept same means dropped. (written.start_answer r, refl, starts_has plan.workers e r means))
        _ _ (begun plan.dormant) (journal_of r object) number entry tt journal at meant dropped)

    pub entry_line : (object number : ℕ) (entry : ObjectEntry) → slice_get (journal_of r object) number ≡ Some entry → IsMeantDeed plan.workers entry.deed → KeepsAll entry.deed → EntryLine plan object number entry
    entry_line object number entry at meant dropped = by_object object number entry (object_of plan r is object number entry at) at meant dropped
