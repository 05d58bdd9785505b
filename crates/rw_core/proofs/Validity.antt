-- Every event keeps what is true of every state.
use Rattle.std.proofs.Common.{◌≡◌, ℕ, ◌+◌, ◌-◌, ◌<◌, ◌≤◌, inl, inr, Bool, true, false, List, [], ◌++◌, length, refl, sym, ap, subst, arith, ◌∙◌, lt-ltb}
use Rattle.std.specs.Prelude.{nat_lt, ◌==◌, if◌then◌else◌}
use Rattle.std.proofs.lemmas.Bool.{false≢true, eqb-true, eq-eqb}
use borrow.Author.Tests.{ltb-true}
use Rattle.mutex_core.specs.MutexMachine as mutex
use Rattle.mutex_core.specs.declared.event.MutexEvent.TheVariants as mutex_event
use Rattle.mutex_core.specs.declared.reply.MutexReply.{MutexReply}
use Rattle.mutex_core.specs.declared.reply.MutexReply.TheVariants as mutex_reply
use Rattle.rw_core.specs.declared.event.RwEvent.{RwEvent}
use Rattle.rw_core.specs.declared.event.RwEvent.TheVariants as event
use Rattle.rw_core.specs.declared.place.Place.{Place}
use Rattle.rw_core.specs.declared.place.Place.TheVariants as place
use Rattle.sync_types.specs.declared.misuse.Misuse.TheVariants.{RUnlockOfUnlockedRwMutex, UnlockOfUnlockedRwMutex}
use Rattle.rw_core.specs.declared.reply.RwReply.{RwReply}
use Rattle.rw_core.specs.declared.reply.RwReply.TheVariants.{Tried, Unlocked}
use Rattle.rw_core.specs.declared.reply.Unlocking.TheVariants as unlocking
use Rattle.rw_core.specs.declared.writer.Writer.{Writer}
use Rattle.rw_core.specs.declared.writer.Writer.TheVariants as writer
use Rattle.rw_core.specs.RwMachine.{State, without, is_announced, is_holding, place_of, read_arrived, read_tried, last_read, read_unlocked, announced, write_arrived, write_resumed, write_tried, write_unlocked, still, at_place, next, times_in, places_of, IsValid}
use Rattle.rw_core.proofs.Callers.{once, times_in-append, times_in-push, times_in-absent, times_in-without}
use Rattle.rw_core.proofs.Places.{out-inner, woken-inner, handed-inner, mutex-out, mutex-woken, mutex-handed}
use Rattle.rw_core.proofs.Inner.{Keeps, IsInFlight, arrive-cases, try-cases, unlocks, woken-cases, waiting, waiting-absent}

abbrev pub state : ℕ → ℕ → Writer → List ℕ → List ℕ → List ℕ → mutex.State → State
state callers readers writer queue admitted granted inner =
    record { callers = callers; readers = readers; writer = writer; queue = queue; admitted = admitted; granted = granted; inner = inner }

-- a step to a valid state
abbrev pub ValidStep : State × RwReply → Type 0
ValidStep step = IsValid step.0

-- a caller that is out is at no place
pub out-nowhere : (s : State) (c : ℕ) → place_of s c ≡ place.Out → places_of c s ≡ 0
out-nowhere s c out =
    let at = out-inner s c out in
    rw at.unannounced (omega (arith, times_in-absent c s.admitted at.unadmitted, times_in-absent c s.granted at.ungranted, times_in-absent c s.queue at.unqueued, waiting-absent s.inner c (mutex-out _ at.inner)))

pub once-other : (q c : ℕ) → (q ≡ c → ⊥) → once q c ≡ 0
once-other q c other = by_test (q == c) refl
  where
    by_test : (b : Bool) → (q == c) ≡ b → ◌≡◌ {A = ℕ} (if b then 1 else 0) 0
    by_test true same = absurd (other (eqb-true q c same))
    by_test false same = refl

-- a caller that is out may come to one place
pub record Enters (s : State) (c : ℕ) : Type 0 where
  pub apart : (q : ℕ) → places_of q s + once q c ≤ 1
  pub among : (q : ℕ) → s.callers ≤ q → places_of q s + once q c ≡ 0

pub enters : (s : State) (c : ℕ) → c < s.callers → place_of s c ≡ place.Out → IsValid s → Enters s c
enters s c below out h = record {
  apart = λ q. apart_at q (q == c) refl;
  among = λ q above. omega (arith, h.among q above, once-other q c (λ e. above_not q above e));
}
  where
    above_not : (q : ℕ) → s.callers ≤ q → q ≡ c → ⊥
    above_not q above e = omega (arith, e)

    apart_at : (q : ℕ) (b : Bool) → (q == c) ≡ b → places_of q s + (if b then 1 else 0) ≤ 1
    apart_at q true same = omega (arith, ap (λ x. places_of x s) (eqb-true q c same), out-nowhere s c out)
    apart_at q false other = omega (arith, h.apart q)

no : {A : Type 0} → false ≡ true → A
no e = absurd (false≢true e)

no' : {A : Type 0} → true ≡ false → A
no' e = absurd (false≢true (sym e))

read_arrived-valid : (n r : ℕ) (w : Writer) (q a g : List ℕ) (i : mutex.State) (c : ℕ) → Enters (state n r w q a g i) c → IsValid (state n r w q a g i) → IsValid (read_arrived c (state n r w q a g i)).0
read_arrived-valid n r writer.Nobody q a g i c en h = record {
  exclusive = λ e. no e;
  write_waits = λ e. no e;
  read_waits = h.read_waits;
  locked = h.locked;
  inner = h.inner;
  same_callers = h.same_callers;
  apart = h.apart;
  among = h.among;
}
read_arrived-valid n r (writer.Waiting w) q a g i c en h = record {
  exclusive = λ e. no e;
  write_waits = h.write_waits;
  read_waits = λ e. no' e;
  locked = h.locked;
  inner = h.inner;
  same_callers = h.same_callers;
  apart = λ x. omega (arith, times_in-push x q c, en.apart x);
  among = λ x above. omega (arith, times_in-push x q c, en.among x above);
}
read_arrived-valid n r writer.Holding q a g i c en h = record {
  exclusive = h.exclusive;
  write_waits = λ e. no e;
  read_waits = λ e. no' e;
  locked = h.locked;
  inner = h.inner;
  same_callers = h.same_callers;
  apart = λ x. omega (arith, times_in-push x q c, en.apart x);
  among = λ x above. omega (arith, times_in-push x q c, en.among x above);
}

read_tried-valid : (n r : ℕ) (w : Writer) (q a g : List ℕ) (i : mutex.State) → IsValid (state n r w q a g i) → IsValid (read_tried (state n r w q a g i)).0
read_tried-valid n r writer.Nobody q a g i h = record {
  exclusive = λ e. no e;
  write_waits = λ e. no e;
  read_waits = h.read_waits;
  locked = h.locked;
  inner = h.inner;
  same_callers = h.same_callers;
  apart = h.apart;
  among = h.among;
}
read_tried-valid n r (writer.Waiting w) q a g i h = h
read_tried-valid n r writer.Holding q a g i h = h

last_read-valid : (n r : ℕ) (w : Writer) (q a g : List ℕ) (i : mutex.State) → IsValid (state n r w q a g i) → IsValid (last_read w (state n r w q a g i))
last_read-valid n r writer.Nobody q a g i h = record {
  exclusive = λ e. refl;
  write_waits = λ e. no e;
  read_waits = h.read_waits;
  locked = h.locked;
  inner = h.inner;
  same_callers = h.same_callers;
  apart = h.apart;
  among = h.among;
}
last_read-valid n r (writer.Waiting w) q a g i h = record {
  exclusive = λ e. refl;
  write_waits = λ e. no e;
  read_waits = λ e. no' e;
  locked = h.locked;
  inner = h.inner;
  same_callers = h.same_callers;
  apart = λ x. omega (arith, times_in-push x g w, h.apart x);
  among = λ x above. omega (arith, times_in-push x g w, h.among x above);
}
last_read-valid n r writer.Holding q a g i h = record {
  exclusive = λ e. refl;
  write_waits = λ e. no e;
  read_waits = h.read_waits;
  locked = h.locked;
  inner = h.inner;
  same_callers = h.same_callers;
  apart = h.apart;
  among = h.among;
}

not-equal : (m n : ℕ) → (m == n) ≡ false → m ≡ n → ⊥
not-equal m n other same = false≢true (sym other ∙ eq-eqb m n same)

read_unlocked-valid : (s : State) → IsValid s → IsValid (read_unlocked s).0
read_unlocked-valid s h = by_first (s.readers == 0) (s.readers == 1) refl refl
  where
    by_first : (none one : Bool) → (s.readers == 0) ≡ none → (s.readers == 1) ≡ one → ValidStep (if none then (s, Unlocked (unlocking.Misuse RUnlockOfUnlockedRwMutex)) else if one then (last_read s.writer s, Unlocked unlocking.Done) else (record s { readers = s.readers - 1 }, Unlocked unlocking.Done))
    by_first true one is_none is_one = h
    by_first false true is_none is_one = last_read-valid s.callers s.readers s.writer s.queue s.admitted s.granted s.inner h
    by_first false false is_none is_one = record {
      exclusive = λ e. omega (arith, h.exclusive e);
      write_waits = λ e. omega (arith, not-equal s.readers 0 is_none, not-equal s.readers 1 is_one);
      read_waits = h.read_waits;
      locked = h.locked;
      inner = h.inner;
      same_callers = h.same_callers;
      apart = h.apart;
      among = h.among;
    }

-- a writer that got the inner mutex, where its place is settled
announced-valid : (s : State) (c : ℕ) (at_once later : RwReply) (j : mutex.State) → j.locked ≡ true → mutex.IsValid j → j.callers ≡ s.callers → ((x : ℕ) → times_in x s.admitted + (times_in x s.granted + (once x c + (times_in x s.queue + times_in x (waiting j)))) ≤ 1) → ((x : ℕ) → s.callers ≤ x → times_in x s.admitted + (times_in x s.granted + (once x c + (times_in x s.queue + times_in x (waiting j)))) ≡ 0) → IsValid (announced c at_once later (record s { inner = j })).0
announced-valid s c at_once later j locked valid callers apart among = by_readers (s.readers == 0) refl
  where
    by_readers : (none : Bool) → (s.readers == 0) ≡ none → ValidStep (if none then (record s { writer = writer.Holding; inner = j }, at_once) else (record s { writer = writer.Waiting c; inner = j }, later))
    by_readers true is_none = record {
      exclusive = λ e. eqb-true s.readers 0 is_none;
      write_waits = λ e. no e;
      read_waits = λ e. no' e;
      locked = locked;
      inner = valid;
      same_callers = callers;
      apart = λ x. omega (arith, apart x);
      among = λ x above. omega (arith, among x above);
    }
    by_readers false is_none = record {
      exclusive = λ e. no e;
      write_waits = λ e. omega (arith, not-equal s.readers 0 is_none);
      read_waits = λ e. no' e;
      locked = locked;
      inner = valid;
      same_callers = callers;
      apart = apart;
      among = among;
    }

-- another inner mutex
inner-valid : (s : State) (j : mutex.State) → j.locked ≡ s.inner.locked → mutex.IsValid j → j.callers ≡ s.callers → ((x : ℕ) → places_of x (record s { inner = j }) ≤ 1) → ((x : ℕ) → s.callers ≤ x → places_of x (record s { inner = j }) ≡ 0) → IsValid s → IsValid (record s { inner = j })
inner-valid s j locked valid callers apart among h =
    record { exclusive = h.exclusive; write_waits = h.write_waits; read_waits = h.read_waits; locked = locked ∙ h.locked; inner = valid; same_callers = callers; apart = apart; among = among }

write_arrived-valid : (s : State) (c now : ℕ) → c < s.callers → place_of s c ≡ place.Out → mutex.IsValid (mutex.next s.inner c (mutex_event.Arrive now)).0 → IsValid s → IsValid (write_arrived (mutex.next s.inner c (mutex_event.Arrive now)) c s).0
write_arrived-valid s c now below out inner h =
    let en = enters s c below out h in
    let P : mutex.State × MutexReply → Type 0 = λ step. mutex.IsValid step.0 → IsValid (write_arrived step c s).0 in
    arrive-cases P s.inner c now (subst (λ n. c < n) (sym h.same_callers) below) (mutex-out _ (out-inner s c out).inner)
    (λ j unlocked locked keeps valid. announced-valid s c _ _ j locked valid (keeps.callers ∙ h.same_callers)
    (λ x. omega (arith, keeps.counts x, en.apart x)) (λ x above. omega (arith, keeps.counts x, en.among x above)))
    (λ j locked joins valid. inner-valid s j locked valid (joins.callers ∙ h.same_callers)
    (λ x. omega (arith, joins.counts x, en.apart x)) (λ x above. omega (arith, joins.counts x, en.among x above)) h)
    inner

write_tried-valid : (s : State) (c : ℕ) → c < s.callers → place_of s c ≡ place.Out → mutex.IsValid (mutex.next s.inner c mutex_event.Try).0 → IsValid s → IsValid (write_tried (mutex.next s.inner c mutex_event.Try) s).0
write_tried-valid s c below out inner h =
    let P : mutex.State × MutexReply → Type 0 = λ step. mutex.IsValid step.0 → IsValid (write_tried step s).0 in
    try-cases P s.inner c (subst (λ n. c < n) (sym h.same_callers) below) (mutex-out _ (out-inner s c out).inner)
    (λ j unlocked locked keeps valid. acquired j locked keeps valid (s.readers == 0) refl)
    (λ valid. h)
    inner
  where
    acquired : (j : mutex.State) → j.locked ≡ true → Keeps s.inner j → mutex.IsValid j → (none : Bool) → (s.readers == 0) ≡ none → ValidStep (if none then (record s { writer = writer.Holding; inner = j }, Tried true) else (s, Tried false))
    acquired j locked keeps valid true is_none = record {
      exclusive = λ e. eqb-true s.readers 0 is_none;
      write_waits = λ e. no e;
      read_waits = λ e. no' e;
      locked = locked;
      inner = valid;
      same_callers = keeps.callers ∙ h.same_callers;
      apart = λ x. omega (arith, keeps.counts x, h.apart x);
      among = λ x above. omega (arith, keeps.counts x, h.among x above);
    }
    acquired j locked keeps valid false is_none = h

write_resumed-valid : (s : State) (c now : ℕ) → c < s.callers → IsInFlight (mutex.place_of s.inner c) → mutex.IsValid (mutex.next s.inner c (mutex_event.Woken now)).0 → IsValid s → IsValid (write_resumed (mutex.next s.inner c (mutex_event.Woken now)) c s).0
write_resumed-valid s c now below at inner h =
    let P : mutex.State × MutexReply → Type 0 = λ step. mutex.IsValid step.0 → IsValid (write_resumed step c s).0 in
    woken-cases P s.inner c now (subst (λ n. c < n) (sym h.same_callers) below) at h.inner
    (λ j unlocked locked parts valid. announced-valid s c _ _ j locked valid (parts.callers ∙ h.same_callers)
    (λ x. omega (arith, parts.counts x, h.apart x)) (λ x above. omega (arith, parts.counts x, h.among x above)))
    (λ j locked keeps valid. inner-valid s j locked valid (keeps.callers ∙ h.same_callers)
    (λ x. omega (arith, keeps.counts x, h.apart x)) (λ x above. omega (arith, keeps.counts x, h.among x above)) h)
    inner

pub announced-holding : (w : Writer) → is_holding w ≡ true → is_announced w ≡ true
announced-holding writer.Nobody e = no e
announced-holding (writer.Waiting _) e = refl
announced-holding writer.Holding e = refl

write_unlocked-valid : (s : State) (c : ℕ) → c < s.callers → mutex.IsValid (mutex.next s.inner c mutex_event.Unlock).0 → IsValid s → IsValid (write_unlocked (mutex.next s.inner c mutex_event.Unlock) s).0
write_unlocked-valid s c below inner h = by_writer (is_holding s.writer) refl
  where
    by_writer : (b : Bool) → is_holding s.writer ≡ b → ValidStep (if b then (record s { readers = length s.queue; writer = writer.Nobody; queue = []; admitted = s.admitted ++ s.queue; inner = (mutex.next s.inner c mutex_event.Unlock).0 }, Unlocked unlocking.Done) else (s, Unlocked (unlocking.Misuse UnlockOfUnlockedRwMutex)))
    by_writer true holds =
        let facts = unlocks s.inner c (subst (λ n. c < n) (sym h.same_callers) below) (h.locked ∙ announced-holding s.writer holds) h.inner in
        record {
          exclusive = λ e. no e;
          write_waits = λ e. no e;
          read_waits = λ e. refl;
          locked = facts.0;
          inner = inner;
          same_callers = facts.1.callers ∙ h.same_callers;
          apart = λ x. omega (arith, facts.1.counts x, times_in-append x s.admitted s.queue, h.apart x);
          among = λ x above. omega (arith, facts.1.counts x, times_in-append x s.admitted s.queue, h.among x above);
        }
    by_writer false holds = h

-- the event at the inner mutex, if there is one, keeps that mutex valid
abbrev pub KeepsInner : State → ℕ → RwEvent → Type 0
KeepsInner s c (event.WriteArrive now) = mutex.IsValid (mutex.next s.inner c (mutex_event.Arrive now)).0
KeepsInner s c event.WriteTry = mutex.IsValid (mutex.next s.inner c mutex_event.Try).0
KeepsInner s c (event.WriteWoken now) = mutex.IsValid (mutex.next s.inner c (mutex_event.Woken now)).0
KeepsInner s c event.WriteUnlock = mutex.IsValid (mutex.next s.inner c mutex_event.Unlock).0
KeepsInner s c event.ReadArrive = Unit {0}
KeepsInner s c event.ReadTry = Unit {0}
KeepsInner s c event.ReadUnlock = Unit {0}
KeepsInner s c event.Leave = Unit {0}

-- fewer callers have still to leave
pub fewer-valid : (s : State) (a g : List ℕ) → ((x : ℕ) → times_in x a + times_in x g ≤ times_in x s.admitted + times_in x s.granted) → IsValid s → IsValid (record s { admitted = a; granted = g })
fewer-valid s a g fewer h = record {
  exclusive = h.exclusive;
  write_waits = h.write_waits;
  read_waits = h.read_waits;
  locked = h.locked;
  inner = h.inner;
  same_callers = h.same_callers;
  apart = λ x. omega (arith, fewer x, h.apart x);
  among = λ x above. omega (arith, fewer x, h.among x above);
}

at_place-valid : (e : RwEvent) (p : Place) (c : ℕ) (s : State) → c < s.callers → place_of s c ≡ p → KeepsInner s c e → IsValid s → IsValid (at_place e p c s).0
at_place-valid event.ReadArrive place.Out c s below at inner h = read_arrived-valid s.callers s.readers s.writer s.queue s.admitted s.granted s.inner c (enters s c below at h) h
at_place-valid event.ReadArrive _ c s below at inner h = h
at_place-valid event.ReadTry place.Out c s below at inner h = read_tried-valid s.callers s.readers s.writer s.queue s.admitted s.granted s.inner h
at_place-valid event.ReadTry _ c s below at inner h = h
at_place-valid event.ReadUnlock _ c s below at inner h = read_unlocked-valid s h
at_place-valid (event.WriteArrive now) place.Out c s below at inner h = write_arrived-valid s c now below at inner h
at_place-valid (event.WriteArrive now) _ c s below at inner h = h
at_place-valid event.WriteTry place.Out c s below at inner h = write_tried-valid s c below at inner h
at_place-valid event.WriteTry _ c s below at inner h = h
at_place-valid (event.WriteWoken now) place.Woken c s below at inner h = write_resumed-valid s c now below (inl (mutex-woken _ (woken-inner s c at).inner)) inner h
at_place-valid (event.WriteWoken now) place.Handed c s below at inner h = write_resumed-valid s c now below (inr (mutex-handed _ (handed-inner s c at).inner)) inner h
at_place-valid (event.WriteWoken now) _ c s below at inner h = h
at_place-valid event.WriteUnlock _ c s below at inner h = write_unlocked-valid s c below inner h
at_place-valid event.Leave place.Granted c s below at inner h = fewer-valid s s.admitted (without c s.granted) (λ x. omega (arith, times_in-without x c s.granted)) h
at_place-valid event.Leave place.Admitted c s below at inner h = fewer-valid s (without c s.admitted) s.granted (λ x. omega (arith, times_in-without x c s.admitted)) h
at_place-valid event.Leave _ c s below at inner h = h

-- whatever the event is
pub next-valid : (s : State) (c : ℕ) (e : RwEvent) → KeepsInner s c e → IsValid s → IsValid (next s c e).0
next-valid s c e inner h = by_test (nat_lt c s.callers) refl
  where
    by_test : (b : Bool) → nat_lt c s.callers ≡ b → ValidStep (if b then at_place e (place_of s c) c s else still s)
    by_test true below = at_place-valid e (place_of s c) c s (ltb-true c s.callers below) refl inner h
    by_test false _ = h

-- the state after an event, named by what the event is
pub valid-by : (s t : State) (c : ℕ) (e : RwEvent) (r : RwReply) → KeepsInner s c e → IsValid s → next s c e ≡ (t, r) → IsValid t
valid-by s t c e r inner h is = subst ValidStep is (next-valid s c e inner h)

-- a try that fails leaves the inner mutex alone
pub try-refused : (s : State) (c : ℕ) (j : mutex.State) → c < s.callers → place_of s c ≡ place.Out → IsValid s → mutex.next s.inner c mutex_event.Try ≡ (j, mutex_reply.Tried false) → j ≡ s.inner
try-refused s c j below out h =
    let P : mutex.State × MutexReply → Type 0 = λ step. step ≡ (j, mutex_reply.Tried false) → j ≡ s.inner in
    try-cases P s.inner c (subst (λ n. c < n) (sym h.same_callers) below) (mutex-out _ (out-inner s c out).inner)
    (λ k unlocked locked keeps e. cc (ap (λ (p : mutex.State × MutexReply). p.1) e))
    (λ e. sym (ap (λ (p : mutex.State × MutexReply). p.0) e))

-- the writer that has the inner mutex, where no reader holds the lock, and where one does
pub at_once-valid : (s : State) (c : ℕ) (at_once later : RwReply) → s.readers ≡ 0 → IsValid (announced c at_once later s).0 → IsValid (record s { writer = writer.Holding })
at_once-valid s c at_once later none h = rw (eq-eqb s.readers 0 none) at h

pub later-valid : (s : State) (c : ℕ) (at_once later : RwReply) → (s.readers ≡ 0 → ⊥) → IsValid (announced c at_once later s).0 → IsValid (record s { writer = writer.Waiting c })
later-valid s c at_once later some h = by_test (s.readers == 0) refl h
  where
    by_test : (none : Bool) → (s.readers == 0) ≡ none → ValidStep (if none then (record s { writer = writer.Holding }, at_once) else (record s { writer = writer.Waiting c }, later)) → IsValid (record s { writer = writer.Waiting c })
    by_test true is h = absurd (some (eqb-true s.readers 0 is))
    by_test false is h = h

-- the same, by what a call of the inner mutex ensures
pub arrived-by : (s : State) (c now : ℕ) (step : mutex.State × MutexReply) → c < s.callers → place_of s c ≡ place.Out → mutex.next s.inner c (mutex_event.Arrive now) ≡ step → mutex.IsValid step.0 → IsValid s → IsValid (write_arrived step c s).0
arrived-by s c now step below out is valid h =
    let P : mutex.State × MutexReply → Type 0 = λ t. mutex.IsValid t.0 → IsValid (write_arrived t c s).0 in
    subst P is (λ inner. write_arrived-valid s c now below out inner h) valid

pub tried-by : (s : State) (c : ℕ) (step : mutex.State × MutexReply) → c < s.callers → place_of s c ≡ place.Out → mutex.next s.inner c mutex_event.Try ≡ step → mutex.IsValid step.0 → IsValid s → IsValid (write_tried step s).0
tried-by s c step below out is valid h =
    let P : mutex.State × MutexReply → Type 0 = λ t. mutex.IsValid t.0 → IsValid (write_tried t s).0 in
    subst P is (λ inner. write_tried-valid s c below out inner h) valid

pub resumed-by : (s : State) (c now : ℕ) (step : mutex.State × MutexReply) → c < s.callers → IsInFlight (mutex.place_of s.inner c) → mutex.next s.inner c (mutex_event.Woken now) ≡ step → mutex.IsValid step.0 → IsValid s → IsValid (write_resumed step c s).0
resumed-by s c now step below at is valid h =
    let P : mutex.State × MutexReply → Type 0 = λ t. mutex.IsValid t.0 → IsValid (write_resumed t c s).0 in
    subst P is (λ inner. write_resumed-valid s c now below at inner h) valid

-- a try that fails at the inner mutex changes nothing
pub next-try_refused : (s : State) (c : ℕ) (j : mutex.State) → c < s.callers → place_of s c ≡ place.Out → mutex.next s.inner c mutex_event.Try ≡ (j, mutex_reply.Tried false) → next s c event.WriteTry ≡ (s, Tried false)
next-try_refused s c j below out is =
    let here : nat_lt c s.callers ≡ true = lt-ltb c s.callers below in
    rw (here, out, is) refl
