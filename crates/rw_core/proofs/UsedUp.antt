-- Every event by which a caller waits uses up what callers can still do.
use Rattle.std.proofs.Common.{◌≡◌, ℕ, ◌+◌, ◌-◌, ◌*◌, ◌<◌, ◌≤◌, inl, inr, Bool, true, false, List, [], ◌∷◌, ◌++◌, length, refl, sym, subst, arith, ◌∙◌, length-append}
use Rattle.std.specs.Prelude.{nat_lt, ◌==◌, not, cond, if◌then◌else◌}
use borrow.Author.Tests.{ltb-true}
use Rattle.mutex_core.specs.MutexMachine as mutex
use Rattle.mutex_core.specs.EventsLeft as mutex_left
use Rattle.mutex_core.specs.declared.event.MutexEvent.{MutexEvent}
use Rattle.mutex_core.specs.declared.event.MutexEvent.TheVariants as mutex_event
use Rattle.mutex_core.specs.declared.reply.MutexReply.{MutexReply}
use Rattle.mutex_core.specs.declared.reply.MutexReply.TheVariants as mutex_reply
use Rattle.mutex_core.specs.declared.reply.Resumption.TheVariants as mutex_resumption
use Rattle.mutex_core.specs.declared.reply.Unlocking.TheVariants as mutex_unlocking
use Rattle.rw_core.specs.declared.event.RwEvent.{RwEvent}
use Rattle.rw_core.specs.declared.event.RwEvent.TheVariants as event
use Rattle.rw_core.specs.declared.place.Place.{Place}
use Rattle.rw_core.specs.declared.place.Place.TheVariants as place
use Rattle.sync_types.specs.declared.misuse.Misuse.TheVariants.{RUnlockOfUnlockedRwMutex, UnlockOfUnlockedRwMutex}
use Rattle.rw_core.specs.declared.reply.RwReply.{RwReply}
use Rattle.rw_core.specs.declared.reply.RwReply.TheVariants.{Arrived, Tried, Unlocked, Resumed}
use Rattle.rw_core.specs.declared.reply.Arrival.TheVariants as arrival
use Rattle.rw_core.specs.declared.reply.Resumption.TheVariants as resumption
use Rattle.rw_core.specs.declared.reply.Unlocking.TheVariants as unlocking
use Rattle.rw_core.specs.declared.writer.Writer.{Writer}
use Rattle.rw_core.specs.declared.writer.Writer.TheVariants as writer
use Rattle.rw_core.specs.RwMachine.{State, without, is_announced, is_holding, waits_as, place_of, one_more, read_arrived, read_tried, last_read, read_unlocked, announced, write_arrived, write_resumed, write_tried, write_unlocked, still, at_place, next, times_in, places_of, IsValid}
use Rattle.rw_core.specs.EventsLeft.{waiting_writer, waiting, events_left, used_by, given_by}
use Rattle.rw_core.proofs.Callers.{times_in-append, length-from_count}
use Rattle.rw_core.proofs.Places.{out-inner, woken-inner, handed-inner, mutex-out, mutex-woken, mutex-handed}
use Rattle.rw_core.proofs.Inner.{IsInFlight, arrive-cases, try-cases, woken-cases}

-- what the law of the inner mutex says
abbrev pub MutexUses : Type 0
MutexUses = (i : mutex.State) (c : ℕ) (e : MutexEvent) → mutex.IsValid i
    → mutex_left.events_left (mutex.next i c e).0 + mutex_left.used_by (mutex.next i c e).1 ≤ mutex_left.events_left i + mutex_left.given_by (mutex.next i c e).1

-- ---- how many callers wait

count-writer : (x : ℕ) (w : Writer) → times_in x (waiting_writer w) ≡ (if waits_as x w then 1 else 0)
count-writer x writer.Nobody = refl
count-writer x (writer.Waiting c) = omega arith
count-writer x writer.Holding = refl

abbrev inner_waiting : State → List ℕ
inner_waiting s = mutex.waiting_by s.inner.flight s.inner.queue

count-waiting : (x : ℕ) (s : State) → times_in x (waiting s) ≡ places_of x s
count-waiting x s = omega (
  arith,
  times_in-append x s.admitted (s.granted ++ (waiting_writer s.writer ++ (s.queue ++ inner_waiting s))),
  times_in-append x s.granted (waiting_writer s.writer ++ (s.queue ++ inner_waiting s)),
  times_in-append x (waiting_writer s.writer) (s.queue ++ inner_waiting s),
  times_in-append x s.queue (inner_waiting s),
  count-writer x s.writer,
)

-- no more than there are callers
length-waiting : (s : State) → IsValid s → length (waiting s) ≤ s.callers
length-waiting s h = length-from_count s.callers (waiting s) (λ x. omega (arith, count-waiting x s, h.apart x)) (λ x above. count-waiting x s ∙ h.among x above)

-- those that wait elsewhere than at the inner mutex
abbrev outer : State → ℕ
outer s = length s.admitted + (length s.granted + (length (waiting_writer s.writer) + length s.queue))

length-parts : (s : State) → length (waiting s) ≡ outer s + length (inner_waiting s)
length-parts s = omega (
  arith,
  length-append s.admitted (s.granted ++ (waiting_writer s.writer ++ (s.queue ++ inner_waiting s))),
  length-append s.granted (waiting_writer s.writer ++ (s.queue ++ inner_waiting s)),
  length-append (waiting_writer s.writer) (s.queue ++ inner_waiting s),
  length-append s.queue (inner_waiting s),
)

left-is : (s : State) → IsValid s → events_left s + 2 * outer s ≡ mutex_left.events_left s.inner
left-is s h = omega (arith, length-parts s, length-waiting s h, h.same_callers)

-- ---- an event, by what it does at the inner mutex and elsewhere

abbrev Moves : State → State × RwReply → Type 0
Moves s step = mutex_left.events_left step.0.inner + used_by step.1 + 2 * outer s ≤ mutex_left.events_left s.inner + given_by step.1 + 2 * outer step.0

still-moves : (s : State) → Moves s (still s)
still-moves s = omega arith

read_arrived-moves : (c : ℕ) (s : State) → Moves s (read_arrived c s)
read_arrived-moves c s = by_test (is_announced s.writer)
  where
    by_test : (b : Bool) → Moves s (if b then (record s { queue = s.queue ++ c ∷ [] }, Arrived arrival.Queued) else (record s { readers = one_more s.readers }, Arrived arrival.Acquired))
    by_test true = omega (arith, length-append s.queue (c ∷ []))
    by_test false = omega arith

read_tried-moves : (s : State) → Moves s (read_tried s)
read_tried-moves s = by_test (is_announced s.writer)
  where
    by_test : (b : Bool) → Moves s (if b then (s, Tried false) else (record s { readers = one_more s.readers }, Tried true))
    by_test true = omega arith
    by_test false = omega arith

last_read-same : (w : Writer) (s : State) → s.writer ≡ w → (outer (last_read w s) ≡ outer s) × ((last_read w s).inner ≡ s.inner)
last_read-same writer.Nobody s is = (refl, refl)
last_read-same (writer.Waiting c) s is =
    let one : length (waiting_writer s.writer) ≡ 1 = rw is refl in
    (omega (arith, one, length-append s.granted (c ∷ [])), refl)
last_read-same writer.Holding s is = (refl, refl)

read_unlocked-moves : (s : State) → Moves s (read_unlocked s)
read_unlocked-moves s = by_readers (s.readers == 0) (s.readers == 1)
  where
    by_readers : (none one : Bool) → Moves s (if none then (s, Unlocked (unlocking.Misuse RUnlockOfUnlockedRwMutex)) else if one then (last_read s.writer s, Unlocked unlocking.Done) else (record s { readers = s.readers - 1 }, Unlocked unlocking.Done))
    by_readers true one = omega arith
    by_readers false true =
        let same = last_read-same s.writer s refl in
        rw same.1 (omega (arith, same.0))
    by_readers false false = omega arith

-- nobody is announced while the inner mutex is unlocked
unannounced : (w : Writer) → is_announced w ≡ false → length (waiting_writer w) ≡ 0
unannounced writer.Nobody e = refl
unannounced (writer.Waiting c) e = absurd cc
unannounced writer.Holding e = refl

announced-moves : (s : State) (c : ℕ) (at_once later : RwReply) (j : mutex.State) → length (waiting_writer s.writer) ≡ 0
    → mutex_left.events_left j + used_by at_once ≤ mutex_left.events_left s.inner + given_by at_once
    → mutex_left.events_left j + used_by later ≤ mutex_left.events_left s.inner + given_by later + 2
    → Moves s (announced c at_once later (record s { inner = j }))
announced-moves s c at_once later j none first second = by_readers (s.readers == 0)
  where
    by_readers : (b : Bool) → Moves s (if b then (record s { writer = writer.Holding; inner = j }, at_once) else (record s { writer = writer.Waiting c; inner = j }, later))
    by_readers true = omega (arith, none, first)
    by_readers false = omega (arith, none, second)

write_arrived-moves : MutexUses → (s : State) (c now : ℕ) → c < s.callers → place_of s c ≡ place.Out → IsValid s → Moves s (write_arrived (mutex.next s.inner c (mutex_event.Arrive now)) c s)
write_arrived-moves law s c now below out h =
    let P : mutex.State × MutexReply → Type 0 = λ step. mutex_left.events_left step.0 + mutex_left.used_by step.1 ≤ mutex_left.events_left s.inner + mutex_left.given_by step.1 → Moves s (write_arrived step c s) in
    arrive-cases P s.inner c now (subst (λ n. c < n) (sym h.same_callers) below) (mutex-out _ (out-inner s c out).inner)
    (λ j unlocked locked keeps uses. announced-moves s c (Arrived arrival.Acquired) (Arrived arrival.Queued) j (unannounced s.writer (sym h.locked ∙ unlocked)) (omega (arith, uses)) (omega (arith, uses)))
    (λ j locked joins uses. omega (arith, uses))
    (law s.inner c (mutex_event.Arrive now) h.inner)

write_tried-moves : MutexUses → (s : State) (c : ℕ) → c < s.callers → place_of s c ≡ place.Out → IsValid s → Moves s (write_tried (mutex.next s.inner c mutex_event.Try) s)
write_tried-moves law s c below out h =
    let P : mutex.State × MutexReply → Type 0 = λ step. mutex_left.events_left step.0 + mutex_left.used_by step.1 ≤ mutex_left.events_left s.inner + mutex_left.given_by step.1 → Moves s (write_tried step s) in
    try-cases P s.inner c (subst (λ n. c < n) (sym h.same_callers) below) (mutex-out _ (out-inner s c out).inner)
    (λ j unlocked locked keeps uses. acquired j (unannounced s.writer (sym h.locked ∙ unlocked)) (omega (arith, uses)) (s.readers == 0))
    (λ uses. omega arith)
    (law s.inner c mutex_event.Try h.inner)
  where
    acquired : (j : mutex.State) → length (waiting_writer s.writer) ≡ 0 → mutex_left.events_left j ≤ mutex_left.events_left s.inner → (b : Bool) → Moves s (if b then (record s { writer = writer.Holding; inner = j }, Tried true) else (s, Tried false))
    acquired j none uses true = omega (arith, none, uses)
    acquired j none uses false = omega arith

write_resumed-moves : MutexUses → (s : State) (c now : ℕ) → c < s.callers → IsInFlight (mutex.place_of s.inner c) → IsValid s → Moves s (write_resumed (mutex.next s.inner c (mutex_event.Woken now)) c s)
write_resumed-moves law s c now below at h =
    let P : mutex.State × MutexReply → Type 0 = λ step. mutex_left.events_left step.0 + mutex_left.used_by step.1 ≤ mutex_left.events_left s.inner + mutex_left.given_by step.1 → Moves s (write_resumed step c s) in
    woken-cases P s.inner c now (subst (λ n. c < n) (sym h.same_callers) below) at h.inner
    (λ j unlocked locked parts uses. announced-moves s c (Resumed resumption.Acquired) (Resumed resumption.Queued) j (unannounced s.writer (sym h.locked ∙ unlocked)) (omega (arith, uses)) (omega (arith, uses)))
    (λ j locked keeps uses. omega (arith, uses))
    (law s.inner c (mutex_event.Woken now) h.inner)

given-one : (r : MutexReply) → mutex_left.given_by r ≤ 1
given-one (mutex_reply.Arrived a) = omega arith
given-one (mutex_reply.Tried b) = omega arith
given-one (mutex_reply.Unlocked mutex_unlocking.Free) = omega arith
given-one (mutex_reply.Unlocked (mutex_unlocking.Woke t)) = omega arith
given-one (mutex_reply.Unlocked (mutex_unlocking.Handed t)) = omega arith
given-one (mutex_reply.Unlocked (mutex_unlocking.Misuse m)) = omega arith
given-one (mutex_reply.Resumed mutex_resumption.Acquired) = omega arith
given-one (mutex_reply.Resumed mutex_resumption.Requeued) = omega arith
given-one mutex_reply.Still = omega arith

not_waiting : (w : Writer) → is_holding w ≡ true → length (waiting_writer w) ≡ 0
not_waiting writer.Nobody e = refl
not_waiting (writer.Waiting c) e = absurd cc
not_waiting writer.Holding e = refl

write_unlocked-moves : MutexUses → (s : State) (c : ℕ) → IsValid s → Moves s (write_unlocked (mutex.next s.inner c mutex_event.Unlock) s)
write_unlocked-moves law s c h = by_writer (is_holding s.writer) refl
  where
    by_writer : (b : Bool) → is_holding s.writer ≡ b → Moves s (if b then (record s { readers = length s.queue; writer = writer.Nobody; queue = []; admitted = s.admitted ++ s.queue; inner = (mutex.next s.inner c mutex_event.Unlock).0 }, Unlocked unlocking.Done) else (s, Unlocked (unlocking.Misuse UnlockOfUnlockedRwMutex)))
    by_writer true holds =
        let uses = law s.inner c mutex_event.Unlock h.inner in
        let one = given-one (mutex.next s.inner c mutex_event.Unlock).1 in
        omega (arith, uses, one, not_waiting s.writer holds, length-append s.admitted s.queue)
    by_writer false holds = omega arith

length-without : (c : ℕ) (xs : List ℕ) → length (without c xs) + times_in c xs ≡ length xs
length-without c [] = refl
length-without c (x ∷ xs) = by_test (c == x) (length-without c xs)
  where
    by_test : (b : Bool) → length (without c xs) + times_in c xs ≡ length xs → length (cond (not b) (x ∷ without c xs) (without c xs)) + ((if b then 1 else 0) + times_in c xs) ≡ length (x ∷ xs)
    by_test true later = omega (arith, later)
    by_test false later = omega (arith, later)

at_place-moves : MutexUses → (e : RwEvent) (p : Place) (c : ℕ) (s : State) → c < s.callers → place_of s c ≡ p → IsValid s → Moves s (at_place e p c s)
at_place-moves law event.ReadArrive place.Out c s below at h = read_arrived-moves c s
at_place-moves law event.ReadArrive _ c s below at h = still-moves s
at_place-moves law event.ReadTry place.Out c s below at h = read_tried-moves s
at_place-moves law event.ReadTry _ c s below at h = still-moves s
at_place-moves law event.ReadUnlock _ c s below at h = read_unlocked-moves s
at_place-moves law (event.WriteArrive now) place.Out c s below at h = write_arrived-moves law s c now below at h
at_place-moves law (event.WriteArrive now) _ c s below at h = still-moves s
at_place-moves law event.WriteTry place.Out c s below at h = write_tried-moves law s c below at h
at_place-moves law event.WriteTry _ c s below at h = still-moves s
at_place-moves law (event.WriteWoken now) place.Woken c s below at h = write_resumed-moves law s c now below (inl (mutex-woken _ (woken-inner s c at).inner)) h
at_place-moves law (event.WriteWoken now) place.Handed c s below at h = write_resumed-moves law s c now below (inr (mutex-handed _ (handed-inner s c at).inner)) h
at_place-moves law (event.WriteWoken now) _ c s below at h = still-moves s
at_place-moves law event.WriteUnlock _ c s below at h = write_unlocked-moves law s c h
at_place-moves law event.Leave place.Granted c s below at h = omega (arith, length-without c s.granted, h.apart c)
at_place-moves law event.Leave place.Admitted c s below at h = omega (arith, length-without c s.admitted, h.apart c)
at_place-moves law event.Leave _ c s below at h = still-moves s

next-moves : MutexUses → (s : State) (c : ℕ) (e : RwEvent) → IsValid s → Moves s (next s c e)
next-moves law s c e h = by_test (nat_lt c s.callers) refl
  where
    by_test : (b : Bool) → nat_lt c s.callers ≡ b → Moves s (if b then at_place e (place_of s c) c s else still s)
    by_test true below = at_place-moves law e (place_of s c) c s (ltb-true c s.callers below) refl h
    by_test false _ = still-moves s

pub next-uses : MutexUses → (s : State) (c : ℕ) (e : RwEvent) → IsValid s → IsValid (next s c e).0 → events_left (next s c e).0 + used_by (next s c e).1 ≤ events_left s + given_by (next s c e).1
next-uses law s c e h after = omega (arith, next-moves law s c e h, left-is s h, left-is (next s c e).0 after)
