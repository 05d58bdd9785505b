-- A caller's own answers say whether it waits.
use Rattle.std.proofs.Common.{◌≡◌, ℕ, ◌+◌, ◌-◌, ◌<◌, ◌≤◌, inl, inr, Bool, true, false, ◌||◌, List, [], ◌∷◌, ◌++◌, length, map, refl, ap, sym, subst, ◌∙◌, arith}
use Rattle.std.specs.Prelude.{nat_lt, ◌==◌, not, cond, if◌then◌else◌}
use Rattle.std.specs.List.{list_any}
use Rattle.std.proofs.lemmas.Bool.{false≢true, eqb-true, eq-eqb}
use borrow.Author.Tests.{ltb-true}
use Rattle.sync_model.specs.Log.{after, Follows}
use Rattle.sync_types.specs.declared.misuse.Misuse.TheVariants.{RUnlockOfUnlockedRwMutex, UnlockOfUnlockedRwMutex}
use Rattle.mutex_core.specs.MutexMachine as mutex
use Rattle.mutex_core.specs.declared.event.MutexEvent.TheVariants as mutex_event
use Rattle.mutex_core.specs.declared.place.Place.{Place as MutexPlace}
use Rattle.mutex_core.specs.declared.place.Place.TheVariants as mutex_place
use Rattle.mutex_core.specs.declared.reply.MutexReply.{MutexReply}
use Rattle.mutex_core.specs.declared.waiter.Waiter.{Waiter}
use Rattle.mutex_core.specs.declared.waiter.Flight.{Flight}
use Rattle.mutex_core.specs.declared.waiter.Flight.TheVariants as flight
use Rattle.rw_core.specs.declared.event.RwEvent.{RwEvent}
use Rattle.rw_core.specs.declared.event.RwEvent.TheVariants as event
use Rattle.rw_core.specs.declared.place.Place.{Place}
use Rattle.rw_core.specs.declared.place.Place.TheVariants as place
use Rattle.rw_core.specs.declared.reply.RwReply.{RwReply}
use Rattle.rw_core.specs.declared.reply.RwReply.TheVariants.{Arrived, Tried, Unlocked, Resumed, Left, Still}
use Rattle.rw_core.specs.declared.reply.Arrival.TheVariants as arrival
use Rattle.rw_core.specs.declared.reply.Resumption.TheVariants as resumption
use Rattle.rw_core.specs.declared.reply.Unlocking.TheVariants as unlocking
use Rattle.rw_core.specs.declared.writer.Writer.{Writer}
use Rattle.rw_core.specs.declared.writer.Writer.TheVariants as writer
use Rattle.rw_core.specs.RwMachine.{State, start, is_among, without, is_announced, is_holding, waits_as, place_at, place_of, still, read_arrived, read_tried, last_read, read_unlocked, write_arrived, write_resumed, write_tried, write_unlocked, at_place, next, times_in, places_of, IsValid}
use Rattle.rw_core.specs.Edges.{Log}
use Rattle.rw_core.specs.Standing.{waits_after, is_waiting}
use Rattle.rw_core.proofs.Callers.{once, once-same, times_in-append, times_in-push, times_in-present}
use Rattle.rw_core.proofs.Inner.{Keeps, Parts, IsInFlight, arrive-cases, try-cases, unlocks, woken-cases}
use Rattle.rw_core.proofs.Places.{out-inner, woken-inner, handed-inner, mutex-out, mutex-woken, mutex-handed}
use Rattle.rw_core.proofs.Runs.{MutexLaws, start-valid, keeps}
use Rattle.rw_core.proofs.Validity.{once-other, out-nowhere, announced-holding}

pub no : {A : Type 0} → false ≡ true → A
no e = absurd (false≢true e)

-- what a caller's answer does to the places of each caller
abbrev pub Shifts : ℕ → RwReply → (ℕ → ℕ) → (ℕ → ℕ) → Type 0
Shifts caller (Arrived arrival.Acquired) old new = (x : ℕ) → new x ≡ old x
Shifts caller (Arrived arrival.Queued) old new = (x : ℕ) → new x ≡ old x + once x caller
Shifts caller (Tried _) old new = (x : ℕ) → new x ≡ old x
Shifts caller (Unlocked _) old new = (x : ℕ) → new x ≡ old x
Shifts caller (Resumed resumption.Acquired) old new = (x : ℕ) → new x + once x caller ≡ old x
Shifts caller (Resumed resumption.Queued) old new = (x : ℕ) → new x ≡ old x
Shifts caller (Resumed resumption.Requeued) old new = (x : ℕ) → new x ≡ old x
Shifts caller Left old new = (x : ℕ) → new x + once x caller ≡ old x
Shifts caller Still old new = (x : ℕ) → new x ≡ old x

abbrev pub ShiftsBy : ℕ → State → State × RwReply → Type 0
ShiftsBy caller s step = Shifts caller step.1 (λ x. places_of x s) (λ x. places_of x step.0)

read_arrived-shifts : (n r : ℕ) (w : Writer) (q a g : List ℕ) (i : mutex.State) (c : ℕ) → ShiftsBy c (record { callers = n; readers = r; writer = w; queue = q; admitted = a; granted = g; inner = i }) (read_arrived c (record { callers = n; readers = r; writer = w; queue = q; admitted = a; granted = g; inner = i }))
read_arrived-shifts n r writer.Nobody q a g i c = λ x. omega arith
read_arrived-shifts n r (writer.Waiting w) q a g i c = λ x. omega (arith, times_in-push x q c)
read_arrived-shifts n r writer.Holding q a g i c = λ x. omega (arith, times_in-push x q c)

read_tried-shifts : (n r : ℕ) (w : Writer) (q a g : List ℕ) (i : mutex.State) (c : ℕ) → ShiftsBy c (record { callers = n; readers = r; writer = w; queue = q; admitted = a; granted = g; inner = i }) (read_tried (record { callers = n; readers = r; writer = w; queue = q; admitted = a; granted = g; inner = i }))
read_tried-shifts n r writer.Nobody q a g i c = λ x. omega arith
read_tried-shifts n r (writer.Waiting w) q a g i c = λ x. omega arith
read_tried-shifts n r writer.Holding q a g i c = λ x. omega arith

last_read-places : (n r : ℕ) (w : Writer) (q a g : List ℕ) (i : mutex.State) (x : ℕ) → places_of x (last_read w (record { callers = n; readers = r; writer = w; queue = q; admitted = a; granted = g; inner = i })) ≡ places_of x (record { callers = n; readers = r; writer = w; queue = q; admitted = a; granted = g; inner = i })
last_read-places n r writer.Nobody q a g i x = omega arith
last_read-places n r (writer.Waiting w) q a g i x = omega (arith, times_in-push x g w)
last_read-places n r writer.Holding q a g i x = omega arith

read_unlocked-shifts : (s : State) (c : ℕ) → ShiftsBy c s (read_unlocked s)
read_unlocked-shifts s c = by_count (s.readers == 0) (s.readers == 1)
  where
    by_count : (none one : Bool) → ShiftsBy c s (if none then (s, Unlocked (unlocking.Misuse RUnlockOfUnlockedRwMutex)) else if one then (last_read s.writer s, Unlocked unlocking.Done) else (record s { readers = s.readers - 1 }, Unlocked unlocking.Done))
    by_count true one = λ x. omega arith
    by_count false true = λ x. last_read-places s.callers s.readers s.writer s.queue s.admitted s.granted s.inner x
    by_count false false = λ x. omega arith

-- where no writer is announced, or one holds the lock, nobody is the writer that waits
unannounced-waits : (w : Writer) (x : ℕ) → is_announced w ≡ false → ◌≡◌ {A = ℕ} (if waits_as x w then 1 else 0) 0
unannounced-waits writer.Nobody x free = refl
unannounced-waits (writer.Waiting c) x free = no (sym free)
unannounced-waits writer.Holding x free = no (sym free)

pub holding-waits : (w : Writer) (x : ℕ) → is_holding w ≡ true → ◌≡◌ {A = ℕ} (if waits_as x w then 1 else 0) 0
holding-waits writer.Nobody x holds = no holds
holding-waits (writer.Waiting c) x holds = no holds
holding-waits writer.Holding x holds = refl

-- the writer of a state whose inner mutex is unlocked
pub unlocked-waits : (s : State) → IsValid s → s.inner.locked ≡ false → (x : ℕ) → ◌≡◌ {A = ℕ} (if waits_as x s.writer then 1 else 0) 0
unlocked-waits s h unlocked x = unannounced-waits s.writer x (sym h.locked ∙ unlocked)

write_arrived-shifts : (s : State) (c now : ℕ) → c < s.callers → place_of s c ≡ place.Out → IsValid s → ShiftsBy c s (write_arrived (mutex.next s.inner c (mutex_event.Arrive now)) c s)
write_arrived-shifts s c now below out h =
    let P : mutex.State × MutexReply → Type 0 = λ step. ShiftsBy c s (write_arrived step c s) in
    arrive-cases P s.inner c now (subst (λ (n : ℕ). c < n) (sym h.same_callers) below) (mutex-out _ (out-inner s c out).inner)
    (λ j unlocked locked keeps. by_readers j keeps (unlocked-waits s h unlocked) (s.readers == 0))
    (λ j locked joins. λ x. omega (arith, joins.counts x))
  where
    by_readers : (j : mutex.State) → Keeps s.inner j → ((x : ℕ) → ◌≡◌ {A = ℕ} (if waits_as x s.writer then 1 else 0) 0) → (none : Bool) → ShiftsBy c s (if none then (record s { writer = writer.Holding; inner = j }, Arrived arrival.Acquired) else (record s { writer = writer.Waiting c; inner = j }, Arrived arrival.Queued))
    by_readers j keeps free true = λ x. omega (arith, keeps.counts x, free x)
    by_readers j keeps free false = λ x. omega (arith, keeps.counts x, free x)

write_tried-shifts : (s : State) (c : ℕ) → c < s.callers → place_of s c ≡ place.Out → IsValid s → ShiftsBy c s (write_tried (mutex.next s.inner c mutex_event.Try) s)
write_tried-shifts s c below out h =
    let P : mutex.State × MutexReply → Type 0 = λ step. ShiftsBy c s (write_tried step s) in
    try-cases P s.inner c (subst (λ (n : ℕ). c < n) (sym h.same_callers) below) (mutex-out _ (out-inner s c out).inner)
    (λ j unlocked locked keeps. by_readers j keeps (unlocked-waits s h unlocked) (s.readers == 0))
    (λ x. omega arith)
  where
    by_readers : (j : mutex.State) → Keeps s.inner j → ((x : ℕ) → ◌≡◌ {A = ℕ} (if waits_as x s.writer then 1 else 0) 0) → (none : Bool) → ShiftsBy c s (if none then (record s { writer = writer.Holding; inner = j }, Tried true) else (s, Tried false))
    by_readers j keeps free true = λ x. omega (arith, keeps.counts x, free x)
    by_readers j keeps free false = λ x. omega arith

write_resumed-shifts : (s : State) (c now : ℕ) → c < s.callers → IsInFlight (mutex.place_of s.inner c) → IsValid s → ShiftsBy c s (write_resumed (mutex.next s.inner c (mutex_event.Woken now)) c s)
write_resumed-shifts s c now below at h =
    let P : mutex.State × MutexReply → Type 0 = λ step. ShiftsBy c s (write_resumed step c s) in
    woken-cases P s.inner c now (subst (λ (n : ℕ). c < n) (sym h.same_callers) below) at h.inner
    (λ j unlocked locked parts. by_readers j parts (unlocked-waits s h unlocked) (s.readers == 0))
    (λ j locked keeps. λ x. omega (arith, keeps.counts x))
  where
    by_readers : (j : mutex.State) → Parts c s.inner j → ((x : ℕ) → ◌≡◌ {A = ℕ} (if waits_as x s.writer then 1 else 0) 0) → (none : Bool) → ShiftsBy c s (if none then (record s { writer = writer.Holding; inner = j }, Resumed resumption.Acquired) else (record s { writer = writer.Waiting c; inner = j }, Resumed resumption.Queued))
    by_readers j parts free true = λ x. omega (arith, parts.counts x, free x)
    by_readers j parts free false = λ x. omega (arith, parts.counts x, free x)

write_unlocked-shifts : (s : State) (c : ℕ) → c < s.callers → IsValid s → ShiftsBy c s (write_unlocked (mutex.next s.inner c mutex_event.Unlock) s)
write_unlocked-shifts s c below h = by_writer (is_holding s.writer) refl
  where
    by_writer : (b : Bool) → is_holding s.writer ≡ b → ShiftsBy c s (if b then (record s { readers = length s.queue; writer = writer.Nobody; queue = []; admitted = s.admitted ++ s.queue; inner = (mutex.next s.inner c mutex_event.Unlock).0 }, Unlocked unlocking.Done) else (s, Unlocked (unlocking.Misuse UnlockOfUnlockedRwMutex)))
    by_writer true holds =
        let facts = unlocks s.inner c (subst (λ (n : ℕ). c < n) (sym h.same_callers) below) (h.locked ∙ announced-holding s.writer holds) h.inner in
        λ x. omega (arith, facts.1.counts x, times_in-append x s.admitted s.queue, holding-waits s.writer x holds)
    by_writer false holds = λ x. omega arith

-- a list in which a caller isn't, without it
without-absent : (c : ℕ) (xs : List ℕ) → is_among c xs ≡ false → without c xs ≡ xs
without-absent c [] absent = refl
without-absent c (y ∷ ys) absent = by_test (c == y) absent (without-absent c ys)
  where
    by_test : (b : Bool) → (b || is_among c ys) ≡ false → (is_among c ys ≡ false → without c ys ≡ ys) → cond (not b) (y ∷ without c ys) (without c ys) ≡ y ∷ ys
    by_test true absent later = no (sym absent)
    by_test false absent later = ap (λ (zs : List ℕ). y ∷ zs) (later absent)

-- a caller that is in a list no times isn't in it
pub none-absent : (c : ℕ) (xs : List ℕ) → times_in c xs ≡ 0 → is_among c xs ≡ false
none-absent c xs none = by_test (is_among c xs) refl
  where
    by_test : (b : Bool) → is_among c xs ≡ b → b ≡ false
    by_test true here = absurd (omega (arith, times_in-present c xs here, none))
    by_test false here = refl

-- a list without a caller that is in it once
times_in-left : (c x : ℕ) (xs : List ℕ) → is_among c xs ≡ true → times_in c xs ≤ 1 → times_in x (without c xs) + once x c ≡ times_in x xs
times_in-left c x [] here apart = no here
times_in-left c x (y ∷ ys) here apart = by_test (c == y) refl here apart (times_in-left c x ys)
  where
    by_test : (b : Bool) → (c == y) ≡ b → (b || is_among c ys) ≡ true → (if b then 1 else 0) + times_in c ys ≤ 1 → (is_among c ys ≡ true → times_in c ys ≤ 1 → times_in x (without c ys) + once x c ≡ times_in x ys) → times_in x (cond (not b) (y ∷ without c ys) (without c ys)) + once x c ≡ once x y + times_in x ys
    by_test true is here apart later =
        let rest = ap (times_in x) (without-absent c ys (none-absent c ys (omega (arith, apart)))) in
        omega (arith, rest, ap (λ (z : ℕ). once x z) (eqb-true c y is))
    by_test false is here apart later = omega (arith, later here (omega (arith, apart)))

skip : (b : Bool) (p q r : Place) → (p ≡ r → false ≡ true) → (if b then p else q) ≡ r → q ≡ r
skip true p q r never at = no (never at)
skip false p q r never at = at

at_inner : (p : MutexPlace) (r : Place) → (place.Out ≡ r → false ≡ true) → (place.Queued ≡ r → false ≡ true) → (place.Woken ≡ r → false ≡ true) → (place.Handed ≡ r → false ≡ true) → place_at p ≡ r → false ≡ true
at_inner mutex_place.Out r out queued woken handed at = out at
at_inner mutex_place.Waiting r out queued woken handed at = queued at
at_inner mutex_place.Woken r out queued woken handed at = woken at
at_inner mutex_place.Handed r out queued woken handed at = handed at

-- a granted caller, or an admitted one, is in its list
granted-among : (s : State) (c : ℕ) → place_of s c ≡ place.Granted → is_among c s.granted ≡ true
granted-among s c at = by_test (is_among c s.granted) (skip (is_among c s.admitted) place.Admitted _ place.Granted (λ e. cc) at)
  where
    by_test : (b : Bool) → (if b then place.Granted else if waits_as c s.writer then place.Waiting else if is_among c s.queue then place.Queued else place_at (mutex.place_of s.inner c)) ≡ place.Granted → b ≡ true
    by_test true at = refl
    by_test false at =
        let past = skip (waits_as c s.writer) place.Waiting _ place.Granted (λ e. cc) at in
        let last = skip (is_among c s.queue) place.Queued _ place.Granted (λ e. cc) past in
        at_inner (mutex.place_of s.inner c) place.Granted (λ e. cc) (λ e. cc) (λ e. cc) (λ e. cc) last

admitted-among : (s : State) (c : ℕ) → place_of s c ≡ place.Admitted → is_among c s.admitted ≡ true
admitted-among s c at = by_test (is_among c s.admitted) at
  where
    by_test : (b : Bool) → (if b then place.Admitted else if is_among c s.granted then place.Granted else if waits_as c s.writer then place.Waiting else if is_among c s.queue then place.Queued else place_at (mutex.place_of s.inner c)) ≡ place.Admitted → b ≡ true
    by_test true at = refl
    by_test false at =
        let first = skip (is_among c s.granted) place.Granted _ place.Admitted (λ e. cc) at in
        let past = skip (waits_as c s.writer) place.Waiting _ place.Admitted (λ e. cc) first in
        let last = skip (is_among c s.queue) place.Queued _ place.Admitted (λ e. cc) past in
        at_inner (mutex.place_of s.inner c) place.Admitted (λ e. cc) (λ e. cc) (λ e. cc) (λ e. cc) last

pub at_place-shifts : (e : RwEvent) (p : Place) (c : ℕ) (s : State) → c < s.callers → place_of s c ≡ p → IsValid s → ShiftsBy c s (at_place e p c s)
at_place-shifts event.ReadArrive place.Out c s below at h = read_arrived-shifts s.callers s.readers s.writer s.queue s.admitted s.granted s.inner c
at_place-shifts event.ReadArrive _ c s below at h = λ x. refl
at_place-shifts event.ReadTry place.Out c s below at h = read_tried-shifts s.callers s.readers s.writer s.queue s.admitted s.granted s.inner c
at_place-shifts event.ReadTry _ c s below at h = λ x. refl
at_place-shifts event.ReadUnlock _ c s below at h = read_unlocked-shifts s c
at_place-shifts (event.WriteArrive now) place.Out c s below at h = write_arrived-shifts s c now below at h
at_place-shifts (event.WriteArrive now) _ c s below at h = λ x. refl
at_place-shifts event.WriteTry place.Out c s below at h = write_tried-shifts s c below at h
at_place-shifts event.WriteTry _ c s below at h = λ x. refl
at_place-shifts (event.WriteWoken now) place.Woken c s below at h = write_resumed-shifts s c now below (inl (mutex-woken _ (woken-inner s c at).inner)) h
at_place-shifts (event.WriteWoken now) place.Handed c s below at h = write_resumed-shifts s c now below (inr (mutex-handed _ (handed-inner s c at).inner)) h
at_place-shifts (event.WriteWoken now) _ c s below at h = λ x. refl
at_place-shifts event.WriteUnlock _ c s below at h = write_unlocked-shifts s c below h
at_place-shifts event.Leave place.Granted c s below at h = λ x. omega (arith, times_in-left c x s.granted (granted-among s c at) (omega (arith, h.apart c)))
at_place-shifts event.Leave place.Admitted c s below at h = λ x. omega (arith, times_in-left c x s.admitted (admitted-among s c at) (omega (arith, h.apart c)))
at_place-shifts event.Leave _ c s below at h = λ x. refl

next-shifts : (s : State) (c : ℕ) (e : RwEvent) → IsValid s → ShiftsBy c s (next s c e)
next-shifts s c e h = by_test (nat_lt c s.callers) refl
  where
    by_test : (b : Bool) → nat_lt c s.callers ≡ b → ShiftsBy c s (if b then at_place e (place_of s c) c s else still s)
    by_test true below = at_place-shifts e (place_of s c) c s (ltb-true c s.callers below) refl h
    by_test false below = λ x. refl

-- at how many places a caller is that waits, or doesn't
abbrev places_if : Bool → ℕ
places_if waits = if waits then 1 else 0

-- after its own answer
own-places : (c : ℕ) (r : RwReply) (old new : ℕ → ℕ) (w : Bool) → Shifts c r old new → old c ≤ 1 → new c ≤ 1 → old c ≡ places_if w → new c ≡ places_if (waits_after w r)
own-places c (Arrived arrival.Acquired) old new w shifts before after is = shifts c ∙ is
own-places c (Arrived arrival.Queued) old new w shifts before after is = omega (arith, shifts c, once-same c, after)
own-places c (Tried _) old new w shifts before after is = shifts c ∙ is
own-places c (Unlocked _) old new w shifts before after is = shifts c ∙ is
own-places c (Resumed resumption.Acquired) old new w shifts before after is = omega (arith, shifts c, once-same c, before)
own-places c (Resumed resumption.Queued) old new w shifts before after is = shifts c ∙ is
own-places c (Resumed resumption.Requeued) old new w shifts before after is = shifts c ∙ is
own-places c Left old new w shifts before after is = omega (arith, shifts c, once-same c, before)
own-places c Still old new w shifts before after is = shifts c ∙ is

-- after another caller's answer
other-places : (c d : ℕ) (r : RwReply) (old new : ℕ → ℕ) → Shifts d r old new → once c d ≡ 0 → new c ≡ old c
other-places c d (Arrived arrival.Acquired) old new shifts other = shifts c
other-places c d (Arrived arrival.Queued) old new shifts other = omega (arith, shifts c, other)
other-places c d (Tried _) old new shifts other = shifts c
other-places c d (Unlocked _) old new shifts other = shifts c
other-places c d (Resumed resumption.Acquired) old new shifts other = omega (arith, shifts c, other)
other-places c d (Resumed resumption.Queued) old new shifts other = shifts c
other-places c d (Resumed resumption.Requeued) old new shifts other = shifts c
other-places c d Left old new shifts other = omega (arith, shifts c, other)
other-places c d Still old new shifts other = shifts c

-- whoever was answered
step-places : (c d : ℕ) (r : RwReply) (old new : ℕ → ℕ) (w : Bool) → Shifts d r old new → old c ≤ 1 → new c ≤ 1 → old c ≡ places_if w → new c ≡ places_if (if d == c then waits_after w r else w)
step-places c d r old new w shifts before after is = by_test (d == c) refl
  where
    by_test : (b : Bool) → (d == c) ≡ b → new c ≡ places_if (if b then waits_after w r else w)
    by_test true here = own-places c r old new w (subst (λ (x : ℕ). Shifts x r old new) (eqb-true d c here) shifts) before after is
    by_test false other = other-places c d r old new shifts (once-other c d (λ e. false≢true (sym other ∙ eq-eqb d c (sym e)))) ∙ is

after-places : ((s : State) (c : ℕ) (e : RwEvent) → IsValid s → IsValid (next s c e).0) → (s : State) (c : ℕ) (w : Bool) (log : Log) → IsValid s → places_of c s ≡ places_if w → Follows next s log → places_of c (after next s log) ≡ places_if (is_waiting w c log)
after-places keeps s c w [] h is follows = is
after-places keeps s c w (entry ∷ log) h is follows =
    let t = next s entry.caller entry.event in
    let valid = keeps s entry.caller entry.event h in
    let old : ℕ → ℕ = λ x. places_of x s in
    let new : ℕ → ℕ = λ x. places_of x t.0 in
    after-places keeps t.0 c (if entry.caller == c then waits_after w entry.reply else w) log valid
    (step-places c entry.caller entry.reply old new w (subst (λ (r : RwReply). Shifts entry.caller r old new) follows.0 (next-shifts s entry.caller entry.event h)) (h.apart c) (valid.apart c) is)
    follows.1

pub not_once : (b : Bool) → ◌≡◌ {A = ℕ} (if b then 1 else 0) 0 → b ≡ false
not_once true none = absurd (omega (arith, none))
not_once false none = refl

among-callers : (c : ℕ) (q : List Waiter) → is_among c (map (λ w. w.caller) q) ≡ list_any (mutex.is_waiter_of c) q
among-callers c [] = refl
among-callers c (w ∷ q) = ap (λ (b : Bool). (c == w.caller) || b) (among-callers c q)

out_in : (c : ℕ) (q : List Waiter) → times_in c (map (λ w. w.caller) q) ≡ 0 → mutex.place_in q c ≡ mutex_place.Out
out_in c q none = let absent : list_any (mutex.is_waiter_of c) q ≡ false = sym (among-callers c q) ∙ none-absent c _ none in rw absent refl

-- who doesn't wait at the inner mutex is out of it
inner-out : (f : Flight) (q : List Waiter) (c : ℕ) → times_in c (mutex.waiting_by f q) ≡ 0 → mutex.place_by f q c ≡ mutex_place.Out
inner-out flight.Nobody q c none = out_in c q none
inner-out (flight.Woken w) q c none =
    let first : mutex.is_waiter_of c w ≡ false = not_once (c == w.caller) (omega (arith, none)) in
    rw (first, out_in c q (omega (arith, none))) refl
inner-out flight.Handed [] c none = refl
inner-out flight.Handed (w ∷ q) c none =
    let first : mutex.is_waiter_of c w ≡ false = not_once (c == w.caller) (omega (arith, none)) in
    rw (first, out_in c q (omega (arith, none))) refl

-- who is at no place is out
pub nowhere-out : (s : State) (c : ℕ) → places_of c s ≡ 0 → place_of s c ≡ place.Out
nowhere-out s c none =
    let admitted = none-absent c s.admitted (omega (arith, none)) in
    let granted = none-absent c s.granted (omega (arith, none)) in
    let waits : waits_as c s.writer ≡ false = not_once (waits_as c s.writer) (omega (arith, none)) in
    let queue = none-absent c s.queue (omega (arith, none)) in
    let inner = inner-out s.inner.flight s.inner.queue c (omega (arith, none)) in
    rw (admitted, granted, waits, queue, inner) refl

-- whether a caller is at a place is what its own answers say
places_by_answers : MutexLaws → (callers : ℕ) (log : Log) (caller : ℕ) → Follows next (start callers) log → places_of caller (after next (start callers) log) ≡ places_if (is_waiting false caller log)
places_by_answers laws callers log caller follows =
    after-places (keeps laws) (start callers) caller false log (start-valid laws callers) refl follows

pub stands : MutexLaws → (callers : ℕ) (log : Log) (caller : ℕ) → Follows next (start callers) log → is_waiting false caller log ≡ false → place_of (after next (start callers) log) caller ≡ place.Out
stands laws callers log caller follows is =
    nowhere-out (after next (start callers) log) caller (places_by_answers laws callers log caller follows ∙ ap places_if is)

pub waits : MutexLaws → (callers : ℕ) (log : Log) (caller : ℕ) → Follows next (start callers) log → is_waiting false caller log ≡ true → place_of (after next (start callers) log) caller ≡ place.Out → ⊥
waits laws callers log caller follows is out =
    let some = places_by_answers laws callers log caller follows ∙ ap places_if is in
    omega (arith, some, out-nowhere (after next (start callers) log) caller out)
