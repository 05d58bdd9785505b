-- Who acquires the lock, and between which unlocks.
use Rattle.std.proofs.Common.{◌≡◌, ℕ, ◌+◌, ◌-◌, ◌<◌, ◌≤◌, Bool, true, false, ◌&&◌, ◌||◌, List, [], ◌∷◌, ◌++◌, length, refl, sym, subst, arith, ◌∙◌, inl, inr, ◌^◌}
use Rattle.std.specs.Prelude.{nat_lt, ◌==◌, cond, if◌then◌else◌, filter}
use Rattle.std.specs.List.{list_any}
use Rattle.std.proofs.lemmas.Bool.{false≢true, eqb-true}
use borrow.Author.Tests.{ltb-true, ltb-false}
use Rattle.sync_model.specs.Log.{Entry, Follows}
use Rattle.mutex_core.specs.MutexMachine as mutex
use Rattle.mutex_core.specs.declared.event.MutexEvent.TheVariants as mutex_event
use Rattle.rw_core.specs.declared.event.RwEvent.{RwEvent}
use Rattle.rw_core.specs.declared.event.RwEvent.TheVariants as event
use Rattle.rw_core.specs.declared.place.Place.{Place}
use Rattle.rw_core.specs.declared.place.Place.TheVariants as place
use Rattle.sync_types.specs.declared.misuse.Misuse.TheVariants.{RUnlockOfUnlockedRwMutex, UnlockOfUnlockedRwMutex}
use Rattle.rw_core.specs.declared.reply.RwReply.{RwReply}
use Rattle.rw_core.specs.declared.reply.RwReply.TheVariants.{Arrived, Tried, Unlocked, Resumed, Left, Still}
use Rattle.rw_core.specs.declared.reply.Arrival.TheVariants as arrival
use Rattle.rw_core.specs.declared.reply.Unlocking.TheVariants as unlocking
use Rattle.rw_core.specs.declared.writer.Writer.{Writer}
use Rattle.rw_core.specs.declared.writer.Writer.TheVariants as writer
use Rattle.rw_core.specs.RwMachine.{State, is_announced, is_holding, place_of, one_more, read_arrived, read_tried, last_read, read_unlocked, announced, write_arrived, write_resumed, write_tried, write_unlocked, still, at_place, next, IsValid}
use Rattle.rw_core.specs.Edges.{Log, is_read, is_acquired, is_released, read_acquires, write_acquires, read_releases, write_releases}
use Rattle.rw_core.proofs.Places.{out-inner, mutex-out, in_flight}
use Rattle.rw_core.proofs.Inner.{IsInFlight, arrive-cases, try-cases, woken-cases}

abbrev pub Step : Type 0
Step = State × RwReply

-- what a reader's event does
record Reads (s : State) (step : Step) : Type 0 where
  -- an announced writer stays, and lets no reader in
  announced : is_announced s.writer ≡ true → (is_acquired step.1 ≡ false) × (is_announced step.0.writer ≡ true)
  -- at most one reader less, and that by an unlock
  fewer : s.readers ≤ step.0.readers + (if is_released step.1 then 1 else 0)
  acquired : is_acquired step.1 ≡ true → 0 < step.0.readers

-- what a writer's event does
record Writes (s : State) (step : Step) : Type 0 where
  announced : is_announced s.writer ≡ true → is_released step.1 ≡ false → (is_acquired step.1 ≡ false) × (is_announced step.0.writer ≡ true)
  fewer : s.readers ≤ step.0.readers
  acquired : is_acquired step.1 ≡ true → (s.readers ≡ 0) × (is_announced step.0.writer ≡ true)

no : {A : Type 0} → false ≡ true → A
no e = absurd (false≢true e)

still-reads : (s : State) → Reads s (still s)
still-reads s = record { announced = λ e. (refl, e); fewer = omega arith; acquired = λ e. no e }

still-writes : (s : State) → Writes s (still s)
still-writes s = record { announced = λ e f. (refl, e); fewer = omega arith; acquired = λ e. no e }

one_more-le : (r : ℕ) → (r ≤ one_more r) × (0 < one_more r)
one_more-le r = by_test (nat_lt r (2 ^ 64 - 1)) refl
  where
    by_test : (b : Bool) → nat_lt r (2 ^ 64 - 1) ≡ b → (r ≤ (if b then r + 1 else r)) × (0 < (if b then r + 1 else r))
    by_test true is = (omega arith, omega arith)
    by_test false is = (omega arith, omega (arith, ltb-false r (2 ^ 64 - 1) is))

read_arrived-reads : (c : ℕ) (s : State) → Reads s (read_arrived c s)
read_arrived-reads c s = by_test (is_announced s.writer) refl
  where
    by_test : (b : Bool) → is_announced s.writer ≡ b → Reads s (if b then (record s { queue = s.queue ++ c ∷ [] }, Arrived arrival.Queued) else (record s { readers = one_more s.readers }, Arrived arrival.Acquired))
    by_test true is = record { announced = λ e. (refl, e); fewer = omega arith; acquired = λ e. no e }
    by_test false is = record { announced = λ e. no (sym is ∙ e); fewer = omega (arith, (one_more-le s.readers).0); acquired = λ e. (one_more-le s.readers).1 }

read_tried-reads : (s : State) → Reads s (read_tried s)
read_tried-reads s = by_test (is_announced s.writer) refl
  where
    by_test : (b : Bool) → is_announced s.writer ≡ b → Reads s (if b then (s, Tried false) else (record s { readers = one_more s.readers }, Tried true))
    by_test true is = record { announced = λ e. (refl, e); fewer = omega arith; acquired = λ e. no e }
    by_test false is = record { announced = λ e. no (sym is ∙ e); fewer = omega (arith, (one_more-le s.readers).0); acquired = λ e. (one_more-le s.readers).1 }

announced-last_read : (w : Writer) (s : State) → is_announced s.writer ≡ true → w ≡ s.writer → is_announced (last_read w s).writer ≡ true
announced-last_read writer.Nobody s e is = e
announced-last_read (writer.Waiting c) s e is = refl
announced-last_read writer.Holding s e is = e

readers-last_read : (w : Writer) (s : State) → (last_read w s).readers ≡ 0
readers-last_read writer.Nobody s = refl
readers-last_read (writer.Waiting c) s = refl
readers-last_read writer.Holding s = refl

read_unlocked-reads : (s : State) → Reads s (read_unlocked s)
read_unlocked-reads s = by_tests (s.readers == 0) (s.readers == 1) refl refl
  where
    by_tests : (none one : Bool) → (s.readers == 0) ≡ none → (s.readers == 1) ≡ one → Reads s (if none then (s, Unlocked (unlocking.Misuse RUnlockOfUnlockedRwMutex)) else if one then (last_read s.writer s, Unlocked unlocking.Done) else (record s { readers = s.readers - 1 }, Unlocked unlocking.Done))
    by_tests true one is_none is_one = record { announced = λ e. (refl, e); fewer = omega arith; acquired = λ e. no e }
    by_tests false true is_none is_one = record {
      announced = λ e. (refl, announced-last_read s.writer s e refl);
      fewer = omega (arith, eqb-true s.readers 1 is_one);
      acquired = λ e. no e;
    }
    by_tests false false is_none is_one = record { announced = λ e. (refl, e); fewer = omega arith; acquired = λ e. no e }

-- a writer that announces itself is the only one
announced-writes : (s : State) (c : ℕ) (at_once later : RwReply) (j : mutex.State) → is_announced s.writer ≡ false → is_acquired later ≡ false → Writes s (announced c at_once later (record s { inner = j }))
announced-writes s c at_once later j alone queued = by_test (s.readers == 0) refl
  where
    by_test : (none : Bool) → (s.readers == 0) ≡ none → Writes s (if none then (record s { writer = writer.Holding; inner = j }, at_once) else (record s { writer = writer.Waiting c; inner = j }, later))
    by_test true is = record { announced = λ e. no (sym alone ∙ e); fewer = omega arith; acquired = λ e. (eqb-true s.readers 0 is, refl) }
    by_test false is = record { announced = λ e. no (sym alone ∙ e); fewer = omega arith; acquired = λ e. no (sym queued ∙ e) }

write_arrived-writes : (s : State) (c now : ℕ) → c < s.callers → place_of s c ≡ place.Out → IsValid s → Writes s (write_arrived (mutex.next s.inner c (mutex_event.Arrive now)) c s)
write_arrived-writes s c now below out h =
    arrive-cases (λ step. Writes s (write_arrived step c s)) s.inner c now (subst (λ n. c < n) (sym h.same_callers) below) (mutex-out _ (out-inner s c out).inner)
    (λ j unlocked locked keeps. announced-writes s c _ _ j (sym h.locked ∙ unlocked) refl)
    (λ j locked joins. record { announced = λ e f. (refl, e); fewer = omega arith; acquired = λ e. no e })

write_tried-writes : (s : State) (c : ℕ) → c < s.callers → place_of s c ≡ place.Out → IsValid s → Writes s (write_tried (mutex.next s.inner c mutex_event.Try) s)
write_tried-writes s c below out h =
    try-cases (λ step. Writes s (write_tried step s)) s.inner c (subst (λ n. c < n) (sym h.same_callers) below) (mutex-out _ (out-inner s c out).inner)
    (λ j unlocked locked keeps. by_test j (sym h.locked ∙ unlocked) (s.readers == 0) refl)
    (record { announced = λ e f. (refl, e); fewer = omega arith; acquired = λ e. no e })
  where
    by_test : (j : mutex.State) → is_announced s.writer ≡ false → (none : Bool) → (s.readers == 0) ≡ none → Writes s (if none then (record s { writer = writer.Holding; inner = j }, Tried true) else (s, Tried false))
    by_test j alone true is = record { announced = λ e. no (sym alone ∙ e); fewer = omega arith; acquired = λ e. (eqb-true s.readers 0 is, refl) }
    by_test j alone false is = record { announced = λ e f. (refl, e); fewer = omega arith; acquired = λ e. no e }

write_resumed-writes : (s : State) (c now : ℕ) → c < s.callers → IsInFlight (mutex.place_of s.inner c) → IsValid s → Writes s (write_resumed (mutex.next s.inner c (mutex_event.Woken now)) c s)
write_resumed-writes s c now below at h =
    woken-cases (λ step. Writes s (write_resumed step c s)) s.inner c now (subst (λ n. c < n) (sym h.same_callers) below) at h.inner
    (λ j unlocked locked parts. announced-writes s c _ _ j (sym h.locked ∙ unlocked) refl)
    (λ j locked keeps. record { announced = λ e f. (refl, e); fewer = omega arith; acquired = λ e. no e })

write_unlocked-writes : (s : State) (c : ℕ) → IsValid s → Writes s (write_unlocked (mutex.next s.inner c mutex_event.Unlock) s)
write_unlocked-writes s c h = by_test (is_holding s.writer) refl
  where
    by_test : (b : Bool) → is_holding s.writer ≡ b → Writes s (if b then (record s { readers = length s.queue; writer = writer.Nobody; queue = []; admitted = s.admitted ++ s.queue; inner = (mutex.next s.inner c mutex_event.Unlock).0 }, Unlocked unlocking.Done) else (s, Unlocked (unlocking.Misuse UnlockOfUnlockedRwMutex)))
    by_test true is = record { announced = λ e f. no (sym f); fewer = omega (arith, h.exclusive is); acquired = λ e. no e }
    by_test false is = record { announced = λ e f. (refl, e); fewer = omega arith; acquired = λ e. no e }

-- an event does what a reader's or a writer's does
abbrev Does : RwEvent → State → Step → Type 0
Does event.ReadArrive s step = Reads s step
Does event.ReadTry s step = Reads s step
Does event.ReadUnlock s step = Reads s step
Does (event.WriteArrive now) s step = Writes s step
Does event.WriteTry s step = Writes s step
Does (event.WriteWoken now) s step = Writes s step
Does event.WriteUnlock s step = Writes s step
Does event.Leave s step = Writes s step

at_place-does : (e : RwEvent) (p : Place) (c : ℕ) (s : State) → c < s.callers → place_of s c ≡ p → IsValid s → Does e s (at_place e p c s)
at_place-does event.ReadArrive place.Out c s below at h = read_arrived-reads c s
at_place-does event.ReadArrive _ c s below at h = still-reads s
at_place-does event.ReadTry place.Out c s below at h = read_tried-reads s
at_place-does event.ReadTry _ c s below at h = still-reads s
at_place-does event.ReadUnlock _ c s below at h = read_unlocked-reads s
at_place-does (event.WriteArrive now) place.Out c s below at h = write_arrived-writes s c now below at h
at_place-does (event.WriteArrive now) _ c s below at h = still-writes s
at_place-does event.WriteTry place.Out c s below at h = write_tried-writes s c below at h
at_place-does event.WriteTry _ c s below at h = still-writes s
at_place-does (event.WriteWoken now) place.Woken c s below at h = write_resumed-writes s c now below (in_flight s c (inl at)) h
at_place-does (event.WriteWoken now) place.Handed c s below at h = write_resumed-writes s c now below (in_flight s c (inr at)) h
at_place-does (event.WriteWoken now) _ c s below at h = still-writes s
at_place-does event.WriteUnlock _ c s below at h = write_unlocked-writes s c h
at_place-does event.Leave place.Granted c s below at h = record { announced = λ e f. (refl, e); fewer = omega arith; acquired = λ e. no e }
at_place-does event.Leave place.Admitted c s below at h = record { announced = λ e f. (refl, e); fewer = omega arith; acquired = λ e. no e }
at_place-does event.Leave _ c s below at h = still-writes s

still-does : (e : RwEvent) (s : State) → Does e s (still s)
still-does event.ReadArrive s = still-reads s
still-does event.ReadTry s = still-reads s
still-does event.ReadUnlock s = still-reads s
still-does (event.WriteArrive now) s = still-writes s
still-does event.WriteTry s = still-writes s
still-does (event.WriteWoken now) s = still-writes s
still-does event.WriteUnlock s = still-writes s
still-does event.Leave s = still-writes s

next-does : (s : State) (c : ℕ) (e : RwEvent) → IsValid s → Does e s (next s c e)
next-does s c e h = by_test (nat_lt c s.callers) refl
  where
    by_test : (b : Bool) → nat_lt c s.callers ≡ b → Does e s (if b then at_place e (place_of s c) c s else still s)
    by_test true below = at_place-does e (place_of s c) c s (ltb-true c s.callers below) refl h
    by_test false _ = still-does e s

-- the same of an entry: which event it was, and what it was answered
record Told (s : State) (entry : Entry RwEvent RwReply) : Type 0 where
  announced : is_announced s.writer ≡ true → write_releases entry ≡ false → (is_acquired entry.reply ≡ false) × (is_announced (next s entry.caller entry.event).0.writer ≡ true)
  fewer : s.readers ≤ (next s entry.caller entry.event).0.readers + (if read_releases entry then 1 else 0)
  written : write_acquires entry ≡ true → (s.readers ≡ 0) × (is_announced (next s entry.caller entry.event).0.writer ≡ true)
  read : read_acquires entry ≡ true → 0 < (next s entry.caller entry.event).0.readers

read-told : (s : State) (c : ℕ) (e : RwEvent) → is_read e ≡ true → Reads s (next s c e) → Told s (record { caller = c; event = e; reply = (next s c e).1 })
read-told s c e is does = record {
  announced = λ a f. does.announced a;
  fewer = rw is does.fewer;
  written = λ w. no (rw is at w);
  read = λ r. does.acquired (rw is at r);
}

write-told : (s : State) (c : ℕ) (e : RwEvent) → is_read e ≡ false → Writes s (next s c e) → Told s (record { caller = c; event = e; reply = (next s c e).1 })
write-told s c e is does = record {
  announced = λ a f. does.announced a (rw is at f);
  fewer = rw is (omega (arith, does.fewer));
  written = λ w. does.acquired (rw is at w);
  read = λ r. no (rw is at r);
}

does-told : (s : State) (c : ℕ) (e : RwEvent) → Does e s (next s c e) → Told s (record { caller = c; event = e; reply = (next s c e).1 })
does-told s c event.ReadArrive does = read-told s c event.ReadArrive refl does
does-told s c event.ReadTry does = read-told s c event.ReadTry refl does
does-told s c event.ReadUnlock does = read-told s c event.ReadUnlock refl does
does-told s c (event.WriteArrive now) does = write-told s c (event.WriteArrive now) refl does
does-told s c event.WriteTry does = write-told s c event.WriteTry refl does
does-told s c (event.WriteWoken now) does = write-told s c (event.WriteWoken now) refl does
does-told s c event.WriteUnlock does = write-told s c event.WriteUnlock refl does
does-told s c event.Leave does = write-told s c event.Leave refl does

told : (s : State) (entry : Entry RwEvent RwReply) → IsValid s → (next s entry.caller entry.event).1 ≡ entry.reply → Told s entry
told s entry h is =
    let P : RwReply → Type 0 = λ reply. Told s (record { caller = entry.caller; event = entry.event; reply = reply }) in
    subst P is (does-told s entry.caller entry.event (next-does s entry.caller entry.event h))

acquired-not_released : (reply : RwReply) → is_acquired reply ≡ true → is_released reply ≡ false
acquired-not_released (Arrived _) e = refl
acquired-not_released (Tried _) e = refl
acquired-not_released (Unlocked _) e = no e
acquired-not_released (Resumed _) e = refl
acquired-not_released Left e = refl
acquired-not_released Still e = refl

and-false : (b c : Bool) → c ≡ false → (b && c) ≡ false
and-false true c e = e
and-false false c e = refl

-- while every event keeps states valid, an announced writer is passed by nobody
pub released_first : ((s : State) (c : ℕ) (e : RwEvent) → IsValid s → IsValid (next s c e).0) → (s : State) (between later : Log) (second : Entry RwEvent RwReply) → IsValid s → is_announced s.writer ≡ true → Follows next s (between ++ second ∷ later) → is_acquired second.reply ≡ true → list_any write_releases between ≡ true
released_first keeps s [] later second h announced follows acquired =
    let says = told s second h follows.0 in
    no (sym (says.announced announced (and-false _ _ (acquired-not_released second.reply acquired))).0 ∙ acquired)
released_first keeps s (entry ∷ between) later second h announced follows acquired =
    by_test (write_releases entry) refl (λ a. released_first keeps (next s entry.caller entry.event).0 between later second (keeps s entry.caller entry.event h) a follows.1 acquired)
  where
    by_test : (b : Bool) → write_releases entry ≡ b → (is_announced (next s entry.caller entry.event).0.writer ≡ true → list_any write_releases between ≡ true) → (b || list_any write_releases between) ≡ true
    by_test true is later_on = refl
    by_test false is later_on = later_on ((told s entry h follows.0).announced announced is).1

-- as many readers unlock before a writer acquires as held the lock
pub readers_first : ((s : State) (c : ℕ) (e : RwEvent) → IsValid s → IsValid (next s c e).0) → (s : State) (between later : Log) (second : Entry RwEvent RwReply) → IsValid s → Follows next s (between ++ second ∷ later) → write_acquires second ≡ true → s.readers ≤ length (filter read_releases between)
readers_first keeps s [] later second h follows acquired = omega (arith, ((told s second h follows.0).written acquired).0)
readers_first keeps s (entry ∷ between) later second h follows acquired =
    by_test (read_releases entry) refl (readers_first keeps (next s entry.caller entry.event).0 between later second (keeps s entry.caller entry.event h) follows.1 acquired)
  where
    fewer : (b : Bool) → read_releases entry ≡ b → s.readers ≤ (next s entry.caller entry.event).0.readers + (if b then 1 else 0)
    fewer b is = rw is at (told s entry h follows.0).fewer

    by_test : (b : Bool) → read_releases entry ≡ b → (next s entry.caller entry.event).0.readers ≤ length (filter read_releases between) → s.readers ≤ length (cond b (entry ∷ filter read_releases between) (filter read_releases between))
    by_test true is later_on = omega (arith, fewer true is, later_on)
    by_test false is later_on = omega (arith, fewer false is, later_on)

some_passes : {X : Type 0} (p : X → Bool) (xs : List X) → 0 < length (filter p xs) → list_any p xs ≡ true
some_passes p [] some = absurd (omega (arith, some))
some_passes p (x ∷ xs) some = by_test (p x) some (some_passes p xs)
  where
    by_test : (b : Bool) → 0 < length (cond b (x ∷ filter p xs) (filter p xs)) → (0 < length (filter p xs) → list_any p xs ≡ true) → (b || list_any p xs) ≡ true
    by_test true some later = refl
    by_test false some later = later some

and-second : (a b : Bool) → (a && b) ≡ true → b ≡ true
and-second true b e = e
and-second false b e = no e

-- between two answers that give the lock, of which the first or the second is a writer's
pub after_writer : ((s : State) (c : ℕ) (e : RwEvent) → IsValid s → IsValid (next s c e).0) → (s : State) (between later : Log) (first second : Entry RwEvent RwReply) → IsValid s → Follows next s (first ∷ (between ++ second ∷ later)) → write_acquires first ≡ true → is_acquired second.reply ≡ true → list_any write_releases between ≡ true
after_writer keeps s between later first second h follows first_acquires acquired =
    released_first keeps (next s first.caller first.event).0 between later second (keeps s first.caller first.event h) ((told s first h follows.0).written first_acquires).1 follows.1 acquired

pub after_reader : ((s : State) (c : ℕ) (e : RwEvent) → IsValid s → IsValid (next s c e).0) → (s : State) (between later : Log) (first second : Entry RwEvent RwReply) → IsValid s → Follows next s (first ∷ (between ++ second ∷ later)) → read_acquires first ≡ true → write_acquires second ≡ true → list_any read_releases between ≡ true
after_reader keeps s between later first second h follows first_acquires acquired =
    let held = (told s first h follows.0).read first_acquires in
    let counted = readers_first keeps (next s first.caller first.event).0 between later second (keeps s first.caller first.event h) follows.1 acquired in
    some_passes read_releases between (omega (arith, held, counted))
