-- An event moves callers as the table says.
use Rattle.std.proofs.Common.{◌≡◌, ◌≢◌, ℕ, ◌-◌, ◌<◌, ◌⊎◌, inl, inr, Bool, true, false, ◌||◌, List, [], ◌∷◌, ◌++◌, length, refl, ap, sym, subst, ◌∙◌, arith}
use Rattle.std.specs.Prelude.{nat_lt, ◌==◌, not, cond, if◌then◌else◌}
use Rattle.std.proofs.lemmas.Bool.{eqb-true, eq-eqb}
use Rattle.std.proofs.lemmas.List.Folds.{list_any-append}
use borrow.Author.Tests.{ltb-true}
use Rattle.sync_types.specs.declared.misuse.Misuse.TheVariants.{RUnlockOfUnlockedRwMutex, UnlockOfUnlockedRwMutex}
use Rattle.mutex_core.specs.MutexMachine as mutex
use Rattle.mutex_core.specs.Moves as inner
use Rattle.mutex_core.specs.declared.event.MutexEvent.{MutexEvent}
use Rattle.mutex_core.specs.declared.event.MutexEvent.TheVariants as mutex_event
use Rattle.mutex_core.specs.declared.place.Place.{Place as MutexPlace}
use Rattle.mutex_core.specs.declared.place.Place.TheVariants as mutex_place
use Rattle.mutex_core.specs.declared.reply.MutexReply.{MutexReply}
use Rattle.mutex_core.specs.declared.reply.MutexReply.TheVariants as mutex_reply
use Rattle.mutex_core.specs.declared.reply.Unlocking.TheVariants as mutex_unlocking
use Rattle.rw_core.specs.declared.event.RwEvent.{RwEvent}
use Rattle.rw_core.specs.declared.event.RwEvent.TheVariants as event
use Rattle.rw_core.specs.declared.place.Place.{Place}
use Rattle.rw_core.specs.declared.place.Place.TheVariants as place
use Rattle.rw_core.specs.declared.reply.RwReply.{RwReply}
use Rattle.rw_core.specs.declared.reply.RwReply.TheVariants.{Arrived, Tried, Unlocked, Resumed, Left, Still}
use Rattle.rw_core.specs.declared.reply.Arrival.TheVariants as arrival
use Rattle.rw_core.specs.declared.reply.Resumption.TheVariants as resumption
use Rattle.rw_core.specs.declared.reply.Unlocking.TheVariants as unlocking
use Rattle.rw_core.specs.declared.writer.Writer.{Writer}
use Rattle.rw_core.specs.declared.writer.Writer.TheVariants as writer
use Rattle.rw_core.specs.Moves.{MovesOther, MovesOwn}
use Rattle.rw_core.specs.RwMachine.{State, is_among, without, is_announced, is_holding, waits_as, place_at, one_more, place_of, still, read_arrived, read_tried, last_read, read_unlocked, write_arrived, write_resumed, write_tried, write_unlocked, at_place, next, IsValid}
use Rattle.rw_core.proofs.Callers.{times_in-present, once-same}
use Rattle.rw_core.proofs.Inner.{IsInFlight, arrive-cases, try-cases, woken-cases}
use Rattle.rw_core.proofs.Places.{IsInner, out-inner, woken-inner, handed-inner, mutex-out, mutex-woken, mutex-handed}
use Rattle.rw_core.proofs.Standing.{no, unlocked-waits, holding-waits, none-absent, not_once, nowhere-out, at_place-shifts, ShiftsBy}
use Rattle.rw_core.proofs.Validity.{out-nowhere}

-- what the inner mutex's laws say of its callers' places
pub record InnerMoves : Type 0 where
  pub moved : (i : mutex.State) (x by : ℕ) (e : MutexEvent) → mutex.IsValid i → mutex.place_of (mutex.next i by e).0 x ≡ inner.place_after x by (mutex.place_of i x) (mutex.next i by e).1
  pub told : (i : mutex.State) (x by : ℕ) (e : MutexEvent) → mutex.IsValid i → inner.tells x (mutex.next i by e).1 ≡ true → (e ≡ mutex_event.Unlock) × (mutex.place_of i x ≡ mutex_place.Waiting)
  pub unmoved : (i : mutex.State) (x by : ℕ) (e : MutexEvent) → mutex.IsValid i → x ≢ by → inner.tells x (mutex.next i by e).1 ≡ false → mutex.place_of (mutex.next i by e).0 x ≡ mutex.place_of i x

-- a place by the lists
abbrev at_by : Bool → Bool → Bool → Bool → MutexPlace → Place
at_by a g w q p = if a then place.Admitted else if g then place.Granted else if w then place.Waiting else if q then place.Queued else place_at p

other_test : (x by : ℕ) → x ≢ by → (x == by) ≡ false
other_test x by other = by_test (x == by) refl
  where
    by_test : (b : Bool) → (x == by) ≡ b → b ≡ false
    by_test true same = absurd (other (eqb-true x by same))
    by_test false same = refl

-- ---- the inner mutex, of another

untold : InnerMoves → (i : mutex.State) (x by : ℕ) (e : MutexEvent) → mutex.IsValid i → (e ≡ mutex_event.Unlock → ⊥) → inner.tells x (mutex.next i by e).1 ≡ false
untold laws i x by e valid never = by_test (inner.tells x (mutex.next i by e).1) refl
  where
    by_test : (b : Bool) → inner.tells x (mutex.next i by e).1 ≡ b → b ≡ false
    by_test true told = absurd (never (laws.told i x by e valid told).0)
    by_test false told = refl

inner_same : InnerMoves → (i : mutex.State) (x by : ℕ) (e : MutexEvent) → mutex.IsValid i → x ≢ by → (e ≡ mutex_event.Unlock → ⊥) → mutex.place_of (mutex.next i by e).0 x ≡ mutex.place_of i x
inner_same laws i x by e valid apart never = laws.unmoved i x by e valid apart (untold laws i x by e valid never)

-- ---- another's event

-- a caller is where it was
abbrev Stays : State → ℕ → State × RwReply → Type 0
Stays s x step = place_of step.0 x ≡ place_of s x

-- a caller is moved as another's event may
abbrev Other : RwEvent → State → ℕ → State × RwReply → Type 0
Other e s x step = MovesOther e (place_of s x) (place_of step.0 x)

stays_at : (e : RwEvent) (p : Place) → MovesOther e p p
stays_at event.WriteUnlock place.Queued = inl refl
stays_at event.ReadUnlock place.Waiting = inl refl
stays_at event.WriteUnlock place.Out = refl
stays_at event.WriteUnlock place.Woken = refl
stays_at event.WriteUnlock place.Handed = refl
stays_at event.WriteUnlock place.Waiting = refl
stays_at event.WriteUnlock place.Granted = refl
stays_at event.WriteUnlock place.Admitted = refl
stays_at event.ReadUnlock place.Out = refl
stays_at event.ReadUnlock place.Queued = refl
stays_at event.ReadUnlock place.Woken = refl
stays_at event.ReadUnlock place.Handed = refl
stays_at event.ReadUnlock place.Granted = refl
stays_at event.ReadUnlock place.Admitted = refl
stays_at event.ReadArrive p = refl
stays_at event.ReadTry p = refl
stays_at (event.WriteArrive now) p = refl
stays_at event.WriteTry p = refl
stays_at (event.WriteWoken now) p = refl
stays_at event.Leave p = refl

same_place : (e : RwEvent) (p q : Place) → q ≡ p → MovesOther e p q
same_place e p q same = subst (MovesOther e p) (sym same) (stays_at e p)

among-push : (x c : ℕ) (xs : List ℕ) → is_among x (xs ++ c ∷ []) ≡ (is_among x xs || (x == c))
among-push x c xs = list_any-append (λ other. x == other) xs (c ∷ []) ∙ ap (λ (b : Bool). is_among x xs || b) (or-last (x == c))
  where
    or-last : (b : Bool) → (b || false) ≡ b
    or-last true = refl
    or-last false = refl

or-false : (a b : Bool) → b ≡ false → (a || b) ≡ a
or-false true b none = refl
or-false false b none = none

among-other : (x c : ℕ) (xs : List ℕ) → (x == c) ≡ false → is_among x (xs ++ c ∷ []) ≡ is_among x xs
among-other x c xs other = among-push x c xs ∙ or-false (is_among x xs) (x == c) other

among-own : (c : ℕ) (xs : List ℕ) → is_among c (xs ++ c ∷ []) ≡ true
among-own c xs = among-push c c xs ∙ ap (λ (b : Bool). is_among c xs || b) (eq-eqb c c refl) ∙ or-true (is_among c xs)
  where
    or-true : (b : Bool) → (b || true) ≡ true
    or-true true = refl
    or-true false = refl

without-other : (x c : ℕ) (xs : List ℕ) → (x == c) ≡ false → is_among x (without c xs) ≡ is_among x xs
without-other x c [] other = refl
without-other x c (y ∷ xs) other = by_test (c == y) refl (without-other x c xs other)
  where
    by_test : (b : Bool) → (c == y) ≡ b → is_among x (without c xs) ≡ is_among x xs → is_among x (cond (not b) (y ∷ without c xs) (without c xs)) ≡ ((x == y) || is_among x xs)
    by_test true same later = later ∙ ap (λ (b : Bool). b || is_among x xs) (sym (ap (λ (z : ℕ). x == z) (sym (eqb-true c y same)) ∙ other))
    by_test false same later = ap (λ (b : Bool). (x == y) || b) later

-- with one of the lists, or the inner mutex, as it was for the caller
queue_as : (s : State) (x : ℕ) (q : List ℕ) → is_among x q ≡ is_among x s.queue → place_of (record s { queue = q }) x ≡ place_of s x
queue_as s x q same = ap (λ (b : Bool). at_by (is_among x s.admitted) (is_among x s.granted) (waits_as x s.writer) b (mutex.place_of s.inner x)) same

granted_as : (s : State) (x : ℕ) (g : List ℕ) → is_among x g ≡ is_among x s.granted → place_of (record s { granted = g }) x ≡ place_of s x
granted_as s x g same = ap (λ (b : Bool). at_by (is_among x s.admitted) b (waits_as x s.writer) (is_among x s.queue) (mutex.place_of s.inner x)) same

admitted_as : (s : State) (x : ℕ) (a : List ℕ) → is_among x a ≡ is_among x s.admitted → place_of (record s { admitted = a }) x ≡ place_of s x
admitted_as s x a same = ap (λ (b : Bool). at_by b (is_among x s.granted) (waits_as x s.writer) (is_among x s.queue) (mutex.place_of s.inner x)) same

inner_as : (s : State) (x : ℕ) (w : Writer) (j : mutex.State) → waits_as x w ≡ waits_as x s.writer → mutex.place_of j x ≡ mutex.place_of s.inner x → place_of (record s { writer = w; inner = j }) x ≡ place_of s x
inner_as s x w j waits same =
    ap (λ (b : Bool). at_by (is_among x s.admitted) (is_among x s.granted) b (is_among x s.queue) (mutex.place_of j x)) waits
    ∙ ap (λ (p : MutexPlace). at_by (is_among x s.admitted) (is_among x s.granted) (waits_as x s.writer) (is_among x s.queue) p) same

unannounced : (s : State) (x : ℕ) → IsValid s → s.inner.locked ≡ false → waits_as x s.writer ≡ false
unannounced s x h unlocked = not_once (waits_as x s.writer) (unlocked-waits s h unlocked x)

read_arrived-other : (s : State) (x by : ℕ) → (x == by) ≡ false → place_of (read_arrived by s).0 x ≡ place_of s x
read_arrived-other s x by other = by_test (is_announced s.writer)
  where
    by_test : (b : Bool) → Stays s x (if b then (record s { queue = s.queue ++ by ∷ [] }, Arrived arrival.Queued) else (record s { readers = one_more s.readers }, Arrived arrival.Acquired))
    by_test true = queue_as s x (s.queue ++ by ∷ []) (among-other x by s.queue other)
    by_test false = refl

read_tried-other : (s : State) (x : ℕ) → place_of (read_tried s).0 x ≡ place_of s x
read_tried-other s x = by_test (is_announced s.writer)
  where
    by_test : (b : Bool) → Stays s x (if b then (s, Tried false) else (record s { readers = one_more s.readers }, Tried true))
    by_test true = refl
    by_test false = refl

write_arrived-other : (s : State) (x by now : ℕ) → by < s.callers → place_of s by ≡ place.Out → IsValid s → (x == by) ≡ false
    → mutex.place_of (mutex.next s.inner by (mutex_event.Arrive now)).0 x ≡ mutex.place_of s.inner x
    → place_of (write_arrived (mutex.next s.inner by (mutex_event.Arrive now)) by s).0 x ≡ place_of s x
write_arrived-other s x by now below out h other =
    let P : mutex.State × MutexReply → Type 0 = λ step. mutex.place_of step.0 x ≡ mutex.place_of s.inner x → place_of (write_arrived step by s).0 x ≡ place_of s x in
    arrive-cases P s.inner by now (subst (λ (n : ℕ). by < n) (sym h.same_callers) below) (mutex-out _ (out-inner s by out).inner)
    (λ j unlocked locked keeps same. by_readers j (unannounced s x h unlocked) same (s.readers == 0))
    (λ j locked joins same. inner_as s x s.writer j refl same)
  where
    by_readers : (j : mutex.State) → waits_as x s.writer ≡ false → mutex.place_of j x ≡ mutex.place_of s.inner x → (none : Bool)
        → Stays s x (if none then (record s { writer = writer.Holding; inner = j }, Arrived arrival.Acquired) else (record s { writer = writer.Waiting by; inner = j }, Arrived arrival.Queued))
    by_readers j free same true = inner_as s x writer.Holding j (sym free) same
    by_readers j free same false = inner_as s x (writer.Waiting by) j (other ∙ sym free) same

write_tried-other : (s : State) (x by : ℕ) → by < s.callers → place_of s by ≡ place.Out → IsValid s
    → mutex.place_of (mutex.next s.inner by mutex_event.Try).0 x ≡ mutex.place_of s.inner x
    → place_of (write_tried (mutex.next s.inner by mutex_event.Try) s).0 x ≡ place_of s x
write_tried-other s x by below out h =
    let P : mutex.State × MutexReply → Type 0 = λ step. mutex.place_of step.0 x ≡ mutex.place_of s.inner x → place_of (write_tried step s).0 x ≡ place_of s x in
    try-cases P s.inner by (subst (λ (n : ℕ). by < n) (sym h.same_callers) below) (mutex-out _ (out-inner s by out).inner)
    (λ j unlocked locked keeps same. by_readers j (unannounced s x h unlocked) same (s.readers == 0))
    (λ same. refl)
  where
    by_readers : (j : mutex.State) → waits_as x s.writer ≡ false → mutex.place_of j x ≡ mutex.place_of s.inner x → (none : Bool)
        → Stays s x (if none then (record s { writer = writer.Holding; inner = j }, Tried true) else (s, Tried false))
    by_readers j free same true = inner_as s x writer.Holding j (sym free) same
    by_readers j free same false = refl

write_resumed-other : (s : State) (x by now : ℕ) → by < s.callers → IsInFlight (mutex.place_of s.inner by) → IsValid s → (x == by) ≡ false
    → mutex.place_of (mutex.next s.inner by (mutex_event.Woken now)).0 x ≡ mutex.place_of s.inner x
    → place_of (write_resumed (mutex.next s.inner by (mutex_event.Woken now)) by s).0 x ≡ place_of s x
write_resumed-other s x by now below at h other =
    let P : mutex.State × MutexReply → Type 0 = λ step. mutex.place_of step.0 x ≡ mutex.place_of s.inner x → place_of (write_resumed step by s).0 x ≡ place_of s x in
    woken-cases P s.inner by now (subst (λ (n : ℕ). by < n) (sym h.same_callers) below) at h.inner
    (λ j unlocked locked parts same. by_readers j (unannounced s x h unlocked) same (s.readers == 0))
    (λ j locked keeps same. inner_as s x s.writer j refl same)
  where
    by_readers : (j : mutex.State) → waits_as x s.writer ≡ false → mutex.place_of j x ≡ mutex.place_of s.inner x → (none : Bool)
        → Stays s x (if none then (record s { writer = writer.Holding; inner = j }, Resumed resumption.Acquired) else (record s { writer = writer.Waiting by; inner = j }, Resumed resumption.Queued))
    by_readers j free same true = inner_as s x writer.Holding j (sym free) same
    by_readers j free same false = inner_as s x (writer.Waiting by) j (other ∙ sym free) same

-- the last reader's unlock grants the lock to the announced writer
granted_by : (a g here : Bool) (q : Bool) (p : MutexPlace) → MovesOther event.ReadUnlock (at_by a g here q p) (at_by a (g || here) false q p)
granted_by true g here q p = refl
granted_by false true here q p = refl
granted_by false false true q p = inr refl
granted_by false false false q p = stays_at event.ReadUnlock (at_by false false false q p)

last_read-other : (w : Writer) (s : State) (x : ℕ) → s.writer ≡ w → MovesOther event.ReadUnlock (place_of s x) (place_of (last_read w s) x)
last_read-other writer.Nobody s x is = stays_at event.ReadUnlock (place_of s x)
last_read-other writer.Holding s x is = stays_at event.ReadUnlock (place_of s x)
last_read-other (writer.Waiting c) s x is =
    subst (λ (w : Writer). MovesOther event.ReadUnlock (at_by (is_among x s.admitted) (is_among x s.granted) (waits_as x w) (is_among x s.queue) (mutex.place_of s.inner x)) (place_of (last_read (writer.Waiting c) s) x)) (sym is)
    (subst (λ (g : Bool). MovesOther event.ReadUnlock (at_by (is_among x s.admitted) (is_among x s.granted) (x == c) (is_among x s.queue) (mutex.place_of s.inner x)) (at_by (is_among x s.admitted) g false (is_among x s.queue) (mutex.place_of s.inner x)))
    (sym (among-push x c s.granted)) (granted_by (is_among x s.admitted) (is_among x s.granted) (x == c) (is_among x s.queue) (mutex.place_of s.inner x)))

read_unlocked-other : (s : State) (x : ℕ) → MovesOther event.ReadUnlock (place_of s x) (place_of (read_unlocked s).0 x)
read_unlocked-other s x = by_count (s.readers == 0) (s.readers == 1)
  where
    by_count : (none one : Bool)
        → Other event.ReadUnlock s x (if none then (s, Unlocked (unlocking.Misuse RUnlockOfUnlockedRwMutex)) else if one then (last_read s.writer s, Unlocked unlocking.Done) else (record s { readers = s.readers - 1 }, Unlocked unlocking.Done))
    by_count true one = stays_at event.ReadUnlock (place_of s x)
    by_count false true = last_read-other s.writer s x refl
    by_count false false = stays_at event.ReadUnlock (place_of s x)

-- a writer's unlock
told_reply : (x by : ℕ) (r : MutexReply) → inner.tells x r ≡ true → (inner.place_after x by mutex_place.Waiting r ≡ mutex_place.Woken) ⊎ (inner.place_after x by mutex_place.Waiting r ≡ mutex_place.Handed)
told_reply x by (mutex_reply.Unlocked (mutex_unlocking.Woke ticket)) told = inl (ap (λ (b : Bool). if b then mutex_place.Woken else mutex_place.Waiting) told)
told_reply x by (mutex_reply.Unlocked (mutex_unlocking.Handed ticket)) told = inr (ap (λ (b : Bool). if b then mutex_place.Handed else mutex_place.Waiting) told)
told_reply x by (mutex_reply.Unlocked mutex_unlocking.Free) told = no told
told_reply x by (mutex_reply.Unlocked (mutex_unlocking.Misuse misuse)) told = no told
told_reply x by (mutex_reply.Arrived a) told = no told
told_reply x by (mutex_reply.Tried t) told = no told
told_reply x by (mutex_reply.Resumed r) told = no told
told_reply x by mutex_reply.Still told = no told

flown : (q : MutexPlace) → (q ≡ mutex_place.Woken) ⊎ (q ≡ mutex_place.Handed) → MovesOther event.WriteUnlock place.Queued (place_at q)
flown q (inl woken) = inr (inl (ap place_at woken))
flown q (inr handed) = inr (inr (inl (ap place_at handed)))

told_place : InnerMoves → (i : mutex.State) (x by : ℕ) → mutex.IsValid i → x ≢ by → MovesOther event.WriteUnlock (place_at (mutex.place_of i x)) (place_at (mutex.place_of (mutex.next i by mutex_event.Unlock).0 x))
told_place laws i x by valid apart = by_test (inner.tells x (mutex.next i by mutex_event.Unlock).1) refl
  where
    by_test : (b : Bool) → inner.tells x (mutex.next i by mutex_event.Unlock).1 ≡ b → MovesOther event.WriteUnlock (place_at (mutex.place_of i x)) (place_at (mutex.place_of (mutex.next i by mutex_event.Unlock).0 x))
    by_test true told =
        let waited = (laws.told i x by mutex_event.Unlock valid told).1 in
        let r = (mutex.next i by mutex_event.Unlock).1 in
        let to : mutex.place_of (mutex.next i by mutex_event.Unlock).0 x ≡ inner.place_after x by mutex_place.Waiting r = laws.moved i x by mutex_event.Unlock valid ∙ ap (λ (q : MutexPlace). inner.place_after x by q r) waited in
        subst (λ (q : MutexPlace). MovesOther event.WriteUnlock (place_at q) (place_at (mutex.place_of (mutex.next i by mutex_event.Unlock).0 x))) (sym waited)
        (subst (λ (q : MutexPlace). MovesOther event.WriteUnlock place.Queued (place_at q)) (sym to) (flown (inner.place_after x by mutex_place.Waiting r) (told_reply x by r told)))
    by_test false told = same_place event.WriteUnlock _ _ (ap place_at (laws.unmoved i x by mutex_event.Unlock valid apart told))

admitted_by : (a g q : Bool) (p to : MutexPlace) → (g ≡ true → q ≡ false) → MovesOther event.WriteUnlock (place_at p) (place_at to) → MovesOther event.WriteUnlock (at_by a g false q p) (at_by (a || q) g false false to)
admitted_by true g q p to apart told = refl
admitted_by false true true p to apart told = no (sym (apart refl))
admitted_by false true false p to apart told = refl
admitted_by false false true p to apart told = inr (inr (inr refl))
admitted_by false false false p to apart told = told

-- a caller that is granted the lock isn't in the queue
granted_alone : (s : State) (x : ℕ) → IsValid s → is_among x s.granted ≡ true → is_among x s.queue ≡ false
granted_alone s x h here = none-absent x s.queue (omega (arith, h.apart x, times_in-present x s.granted here))

write_unlocked-other : InnerMoves → (s : State) (x by : ℕ) → IsValid s → x ≢ by → MovesOther event.WriteUnlock (place_of s x) (place_of (write_unlocked (mutex.next s.inner by mutex_event.Unlock) s).0 x)
write_unlocked-other laws s x by h apart = by_writer (is_holding s.writer) refl
  where
    by_writer : (b : Bool) → is_holding s.writer ≡ b
        → Other event.WriteUnlock s x (if b then (record s { readers = length s.queue; writer = writer.Nobody; queue = []; admitted = s.admitted ++ s.queue; inner = (mutex.next s.inner by mutex_event.Unlock).0 }, Unlocked unlocking.Done) else (s, Unlocked (unlocking.Misuse UnlockOfUnlockedRwMutex)))
    by_writer true holds =
        let to = mutex.place_of (mutex.next s.inner by mutex_event.Unlock).0 x in
        subst (λ (w : Bool). MovesOther event.WriteUnlock (at_by (is_among x s.admitted) (is_among x s.granted) w (is_among x s.queue) (mutex.place_of s.inner x)) (at_by (is_among x (s.admitted ++ s.queue)) (is_among x s.granted) false false to))
        (sym (not_once (waits_as x s.writer) (holding-waits s.writer x holds)))
        (subst (λ (a : Bool). MovesOther event.WriteUnlock (at_by (is_among x s.admitted) (is_among x s.granted) false (is_among x s.queue) (mutex.place_of s.inner x)) (at_by a (is_among x s.granted) false false to))
        (sym (list_any-append (λ y. x == y) s.admitted s.queue))
        (admitted_by (is_among x s.admitted) (is_among x s.granted) (is_among x s.queue) (mutex.place_of s.inner x) to (granted_alone s x h) (told_place laws s.inner x by h.inner apart)))
    by_writer false holds = stays_at event.WriteUnlock (place_of s x)

at_place-other : InnerMoves → (e : RwEvent) (p : Place) (x by : ℕ) (s : State) → by < s.callers → place_of s by ≡ p → IsValid s → x ≢ by → (x == by) ≡ false → MovesOther e (place_of s x) (place_of (at_place e p by s).0 x)
at_place-other laws event.ReadArrive place.Out x by s below at h apart other = read_arrived-other s x by other
at_place-other laws event.ReadArrive _ x by s below at h apart other = refl
at_place-other laws event.ReadTry place.Out x by s below at h apart other = read_tried-other s x
at_place-other laws event.ReadTry _ x by s below at h apart other = refl
at_place-other laws event.ReadUnlock _ x by s below at h apart other = read_unlocked-other s x
at_place-other laws (event.WriteArrive now) place.Out x by s below at h apart other =
    write_arrived-other s x by now below at h other (inner_same laws s.inner x by (mutex_event.Arrive now) h.inner apart (λ e. cc))
at_place-other laws (event.WriteArrive now) _ x by s below at h apart other = refl
at_place-other laws event.WriteTry place.Out x by s below at h apart other =
    write_tried-other s x by below at h (inner_same laws s.inner x by mutex_event.Try h.inner apart (λ e. cc))
at_place-other laws event.WriteTry _ x by s below at h apart other = refl
at_place-other laws (event.WriteWoken now) place.Woken x by s below at h apart other =
    write_resumed-other s x by now below (inl (mutex-woken _ (woken-inner s by at).inner)) h other (inner_same laws s.inner x by (mutex_event.Woken now) h.inner apart (λ e. cc))
at_place-other laws (event.WriteWoken now) place.Handed x by s below at h apart other =
    write_resumed-other s x by now below (inr (mutex-handed _ (handed-inner s by at).inner)) h other (inner_same laws s.inner x by (mutex_event.Woken now) h.inner apart (λ e. cc))
at_place-other laws (event.WriteWoken now) _ x by s below at h apart other = refl
at_place-other laws event.WriteUnlock _ x by s below at h apart other = write_unlocked-other laws s x by h apart
at_place-other laws event.Leave place.Granted x by s below at h apart other = granted_as s x (without by s.granted) (without-other x by s.granted other)
at_place-other laws event.Leave place.Admitted x by s below at h apart other = admitted_as s x (without by s.admitted) (without-other x by s.admitted other)
at_place-other laws event.Leave _ x by s below at h apart other = refl

pub moves_others : InnerMoves → (s : State) (x by : ℕ) (e : RwEvent) → IsValid s → x ≢ by → MovesOther e (place_of s x) (place_of (next s by e).0 x)
moves_others laws s x by e h apart = by_test (nat_lt by s.callers) refl
  where
    by_test : (b : Bool) → nat_lt by s.callers ≡ b → MovesOther e (place_of s x) (place_of (if b then at_place e (place_of s by) by s else still s).0 x)
    by_test true below = at_place-other laws e (place_of s by) x by s (ltb-true by s.callers below) refl h apart (other_test x by apart)
    by_test false below = stays_at e (place_of s x)

-- ---- a caller's own event

-- in no list, and at the inner mutex
at_inner : (s t : State) (c : ℕ) (p : MutexPlace) → is_among c t.admitted ≡ false → is_among c t.granted ≡ false → waits_as c t.writer ≡ false → is_among c t.queue ≡ false → mutex.place_of t.inner c ≡ p → place_of t c ≡ place_at p
at_inner s t c p a g w q at = rw (a, g, w, q, at) refl

announced_at : (t : State) (c : ℕ) → is_among c t.admitted ≡ false → is_among c t.granted ≡ false → waits_as c t.writer ≡ true → place_of t c ≡ place.Waiting
announced_at t c a g w = rw (a, g, w) refl

queued_at : (t : State) (c : ℕ) → is_among c t.admitted ≡ false → is_among c t.granted ≡ false → waits_as c t.writer ≡ false → is_among c t.queue ≡ true → place_of t c ≡ place.Queued
queued_at t c a g w q = rw (a, g, w, q) refl

abbrev Own : ℕ → State → State × RwReply → Type 0
Own c s step = MovesOwn step.1 (place_of s c) (place_of step.0 c)

read_arrived-own : (s : State) (c : ℕ) → place_of s c ≡ place.Out → Own c s (read_arrived c s)
read_arrived-own s c out = by_test (is_announced s.writer)
  where
    by_test : (b : Bool) → Own c s (if b then (record s { queue = s.queue ++ c ∷ [] }, Arrived arrival.Queued) else (record s { readers = one_more s.readers }, Arrived arrival.Acquired))
    by_test true =
        let is = out-inner s c out in
        inl (queued_at (record s { queue = s.queue ++ c ∷ [] }) c is.unadmitted is.ungranted is.unannounced (among-own c s.queue))
    by_test false = λ e. e

read_tried-own : (s : State) (c : ℕ) → Own c s (read_tried s)
read_tried-own s c = by_test (is_announced s.writer)
  where
    by_test : (b : Bool) → Own c s (if b then (s, Tried false) else (record s { readers = one_more s.readers }, Tried true))
    by_test true = λ e. e
    by_test false = λ e. e

write_arrived-own : (s : State) (c now : ℕ) → c < s.callers → place_of s c ≡ place.Out → IsValid s
    → mutex.place_of (mutex.next s.inner c (mutex_event.Arrive now)).0 c ≡ inner.place_after c c mutex_place.Out (mutex.next s.inner c (mutex_event.Arrive now)).1
    → Own c s (write_arrived (mutex.next s.inner c (mutex_event.Arrive now)) c s)
write_arrived-own s c now below out h =
    let P : mutex.State × MutexReply → Type 0 = λ step. mutex.place_of step.0 c ≡ inner.place_after c c mutex_place.Out step.1 → Own c s (write_arrived step c s) in
    let is = out-inner s c out in
    arrive-cases P s.inner c now (subst (λ (n : ℕ). c < n) (sym h.same_callers) below) (mutex-out _ is.inner)
    (λ j unlocked locked keeps at. by_readers j is at (s.readers == 0))
    (λ j locked joins at. inl (at_inner s (record s { inner = j }) c mutex_place.Waiting is.unadmitted is.ungranted is.unannounced is.unqueued (at ∙ ap (λ (b : Bool). if b then mutex_place.Waiting else mutex_place.Out) (eq-eqb c c refl))))
  where
    by_readers : (j : mutex.State) → IsInner s c place.Out → mutex.place_of j c ≡ mutex_place.Out → (none : Bool)
        → Own c s (if none then (record s { writer = writer.Holding; inner = j }, Arrived arrival.Acquired) else (record s { writer = writer.Waiting c; inner = j }, Arrived arrival.Queued))
    by_readers j is at true = λ e. at_inner s (record s { writer = writer.Holding; inner = j }) c mutex_place.Out is.unadmitted is.ungranted refl is.unqueued at
    by_readers j is at false = inr (announced_at (record s { writer = writer.Waiting c; inner = j }) c is.unadmitted is.ungranted (eq-eqb c c refl))

write_tried-own : (s : State) (c : ℕ) → c < s.callers → place_of s c ≡ place.Out → IsValid s
    → mutex.place_of (mutex.next s.inner c mutex_event.Try).0 c ≡ inner.place_after c c mutex_place.Out (mutex.next s.inner c mutex_event.Try).1
    → Own c s (write_tried (mutex.next s.inner c mutex_event.Try) s)
write_tried-own s c below out h =
    let P : mutex.State × MutexReply → Type 0 = λ step. mutex.place_of step.0 c ≡ inner.place_after c c mutex_place.Out step.1 → Own c s (write_tried step s) in
    let is = out-inner s c out in
    try-cases P s.inner c (subst (λ (n : ℕ). c < n) (sym h.same_callers) below) (mutex-out _ is.inner)
    (λ j unlocked locked keeps at. by_readers j is at (s.readers == 0))
    (λ at e. e)
  where
    by_readers : (j : mutex.State) → IsInner s c place.Out → mutex.place_of j c ≡ mutex_place.Out → (none : Bool)
        → Own c s (if none then (record s { writer = writer.Holding; inner = j }, Tried true) else (s, Tried false))
    by_readers j is at true = λ e. at_inner s (record s { writer = writer.Holding; inner = j }) c mutex_place.Out is.unadmitted is.ungranted refl is.unqueued at
    by_readers j is at false = λ e. e

write_resumed-own : (s : State) (c now : ℕ) (p : Place) (at : MutexPlace) → c < s.callers → IsInner s c p → IsInFlight (mutex.place_of s.inner c) → IsValid s
    → mutex.place_of (mutex.next s.inner c (mutex_event.Woken now)).0 c ≡ inner.place_after c c at (mutex.next s.inner c (mutex_event.Woken now)).1
    → Own c s (write_resumed (mutex.next s.inner c (mutex_event.Woken now)) c s)
write_resumed-own s c now p at below is flies h =
    let P : mutex.State × MutexReply → Type 0 = λ step. mutex.place_of step.0 c ≡ inner.place_after c c at step.1 → Own c s (write_resumed step c s) in
    woken-cases P s.inner c now (subst (λ (n : ℕ). c < n) (sym h.same_callers) below) flies h.inner
    (λ j unlocked locked parts to. by_readers j (to ∙ ap (λ (b : Bool). if b then mutex_place.Out else at) (eq-eqb c c refl)) (s.readers == 0))
    (λ j locked keeps to. at_inner s (record s { inner = j }) c mutex_place.Waiting is.unadmitted is.ungranted is.unannounced is.unqueued (to ∙ ap (λ (b : Bool). if b then mutex_place.Waiting else at) (eq-eqb c c refl)))
  where
    by_readers : (j : mutex.State) → mutex.place_of j c ≡ mutex_place.Out → (none : Bool)
        → Own c s (if none then (record s { writer = writer.Holding; inner = j }, Resumed resumption.Acquired) else (record s { writer = writer.Waiting c; inner = j }, Resumed resumption.Queued))
    by_readers j to true = at_inner s (record s { writer = writer.Holding; inner = j }) c mutex_place.Out is.unadmitted is.ungranted refl is.unqueued to
    by_readers j to false = announced_at (record s { writer = writer.Waiting c; inner = j }) c is.unadmitted is.ungranted (eq-eqb c c refl)

read_unlocked-own : (s : State) (c : ℕ) → Own c s (read_unlocked s)
read_unlocked-own s c = by_count (s.readers == 0) (s.readers == 1)
  where
    by_count : (none one : Bool) → Own c s (if none then (s, Unlocked (unlocking.Misuse RUnlockOfUnlockedRwMutex)) else if one then (last_read s.writer s, Unlocked unlocking.Done) else (record s { readers = s.readers - 1 }, Unlocked unlocking.Done))
    by_count true one = λ out. out
    by_count false true = λ out. subst (λ (p : Place). MovesOther event.ReadUnlock p (place_of (last_read s.writer s) c)) out (last_read-other s.writer s c refl)
    by_count false false = λ out. out

-- one that is at no place before an unlock is at none behind it
abbrev is_unlocked : RwReply → Bool
is_unlocked (Unlocked u) = true
is_unlocked r = false

abbrev Unlocks : State × RwReply → Type 0
Unlocks step = is_unlocked step.1 ≡ true

write_unlock-answer : (step : mutex.State × MutexReply) (s : State) → is_unlocked (write_unlocked step s).1 ≡ true
write_unlock-answer (j, r) s = by_writer (is_holding s.writer)
  where
    by_writer : (b : Bool) → Unlocks (if b then (record s { readers = length s.queue; writer = writer.Nobody; queue = []; admitted = s.admitted ++ s.queue; inner = j }, Unlocked unlocking.Done) else (s, Unlocked (unlocking.Misuse UnlockOfUnlockedRwMutex)))
    by_writer true = refl
    by_writer false = refl

unlock-own : (s : State) (c : ℕ) (step : State × RwReply) → ShiftsBy c s step → is_unlocked step.1 ≡ true → Own c s step
unlock-own s c (t, Unlocked u) shifts is = λ out. nowhere-out t c (shifts c ∙ out-nowhere s c out)
unlock-own s c (t, Arrived a) shifts is = no is
unlock-own s c (t, Tried a) shifts is = no is
unlock-own s c (t, Resumed a) shifts is = no is
unlock-own s c (t, Left) shifts is = no is
unlock-own s c (t, Still) shifts is = no is

-- one that leaves is at none behind it
leave-own : (s t : State) (c : ℕ) → IsValid s → ShiftsBy c s (t, Left) → place_of t c ≡ place.Out
leave-own s t c h shifts = nowhere-out t c (omega (arith, shifts c, once-same c, h.apart c))

own_at : InnerMoves → (s : State) (c : ℕ) (e : MutexEvent) (p : MutexPlace) → IsValid s → mutex.place_of s.inner c ≡ p → mutex.place_of (mutex.next s.inner c e).0 c ≡ inner.place_after c c p (mutex.next s.inner c e).1
own_at laws s c e p h at = laws.moved s.inner c c e h.inner ∙ ap (λ (q : MutexPlace). inner.place_after c c q (mutex.next s.inner c e).1) at

at_place-own : InnerMoves → (e : RwEvent) (p : Place) (c : ℕ) (s : State) → c < s.callers → place_of s c ≡ p → IsValid s → Own c s (at_place e p c s)
at_place-own laws event.ReadArrive place.Out c s below at h = read_arrived-own s c at
at_place-own laws event.ReadArrive _ c s below at h = refl
at_place-own laws event.ReadTry place.Out c s below at h = read_tried-own s c
at_place-own laws event.ReadTry _ c s below at h = refl
at_place-own laws event.ReadUnlock _ c s below at h = read_unlocked-own s c
at_place-own laws (event.WriteArrive now) place.Out c s below at h =
    write_arrived-own s c now below at h (own_at laws s c (mutex_event.Arrive now) mutex_place.Out h (mutex-out _ (out-inner s c at).inner))
at_place-own laws (event.WriteArrive now) _ c s below at h = refl
at_place-own laws event.WriteTry place.Out c s below at h =
    write_tried-own s c below at h (own_at laws s c mutex_event.Try mutex_place.Out h (mutex-out _ (out-inner s c at).inner))
at_place-own laws event.WriteTry _ c s below at h = refl
at_place-own laws (event.WriteWoken now) place.Woken c s below at h =
    let is = woken-inner s c at in
    let there = mutex-woken _ is.inner in
    write_resumed-own s c now place.Woken mutex_place.Woken below is (inl there) h (own_at laws s c (mutex_event.Woken now) mutex_place.Woken h there)
at_place-own laws (event.WriteWoken now) place.Handed c s below at h =
    let is = handed-inner s c at in
    let there = mutex-handed _ is.inner in
    write_resumed-own s c now place.Handed mutex_place.Handed below is (inr there) h (own_at laws s c (mutex_event.Woken now) mutex_place.Handed h there)
at_place-own laws (event.WriteWoken now) _ c s below at h = refl
at_place-own laws event.WriteUnlock p c s below at h =
    unlock-own s c (write_unlocked (mutex.next s.inner c mutex_event.Unlock) s) (at_place-shifts event.WriteUnlock p c s below at h) (write_unlock-answer (mutex.next s.inner c mutex_event.Unlock) s)
at_place-own laws event.Leave place.Granted c s below at h =
    leave-own s (record s { granted = without c s.granted }) c h (at_place-shifts event.Leave place.Granted c s below at h)
at_place-own laws event.Leave place.Admitted c s below at h =
    leave-own s (record s { admitted = without c s.admitted }) c h (at_place-shifts event.Leave place.Admitted c s below at h)
at_place-own laws event.Leave _ c s below at h = refl

pub moves_own : InnerMoves → (s : State) (c : ℕ) (e : RwEvent) → IsValid s → MovesOwn (next s c e).1 (place_of s c) (place_of (next s c e).0 c)
moves_own laws s c e h = by_test (nat_lt c s.callers) refl
  where
    by_test : (b : Bool) → nat_lt c s.callers ≡ b → Own c s (if b then at_place e (place_of s c) c s else still s)
    by_test true below = at_place-own laws e (place_of s c) c s (ltb-true c s.callers below) refl h
    by_test false below = refl
