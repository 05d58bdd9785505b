-- What the events of a writer do to the inner mutex: whether it is locked, and who waits there.
use Rattle.std.proofs.Common.{◌≡◌, ℕ, ◌+◌, ◌<◌, ◌⊎◌, inl, inr, Bool, true, false, ◌&&◌, ◌||◌, List, [], ◌∷◌, ◌++◌, map, refl, sym, ap, arith, lt-ltb}
use Rattle.std.specs.Prelude.{nat_lt, ◌==◌, not, if◌then◌else◌}
use Rattle.std.specs.List.{list_any}
use Rattle.std.proofs.lemmas.Bool.{false≢true, eqb-true}
use Rattle.mutex_core.specs.MutexMachine as mutex
use Rattle.mutex_core.specs.declared.event.MutexEvent.TheVariants as event
use Rattle.mutex_core.specs.declared.place.Place.{Place}
use Rattle.mutex_core.specs.declared.place.Place.TheVariants as place
use Rattle.mutex_core.specs.declared.reply.MutexReply.{MutexReply}
use Rattle.mutex_core.specs.declared.reply.MutexReply.TheVariants.{Arrived, Tried, Resumed}
use Rattle.mutex_core.specs.declared.reply.Arrival.TheVariants as arrival
use Rattle.mutex_core.specs.declared.reply.Resumption.TheVariants as resumption
use Rattle.mutex_core.specs.declared.waiter.Waiter.{Waiter}
use Rattle.mutex_core.specs.declared.waiter.Flight.{Flight}
use Rattle.mutex_core.specs.declared.waiter.Flight.TheVariants as flight
use Rattle.rw_core.specs.RwMachine.{is_among, times_in}
use Rattle.rw_core.proofs.Callers.{once, times_in-push, times_in-absent}

abbrev pub waiting : mutex.State → List ℕ
waiting i = mutex.waiting_by i.flight i.queue

-- the same callers wait, one more does, or one less
pub record Keeps (i j : mutex.State) : Type 0 where
  pub callers : j.callers ≡ i.callers
  pub counts : (q : ℕ) → times_in q (waiting j) ≡ times_in q (waiting i)

pub record Joins (c : ℕ) (i j : mutex.State) : Type 0 where
  pub callers : j.callers ≡ i.callers
  pub counts : (q : ℕ) → times_in q (waiting j) ≡ times_in q (waiting i) + once q c

pub record Parts (c : ℕ) (i j : mutex.State) : Type 0 where
  pub callers : j.callers ≡ i.callers
  pub counts : (q : ℕ) → times_in q (waiting j) + once q c ≡ times_in q (waiting i)

abbrev pub state : ℕ → Bool → Bool → Bool → List Waiter → Flight → mutex.State
state callers locked woken starving queue flight =
    record { callers = callers; locked = locked; woken = woken; starving = starving; queue = queue; flight = flight }

callers_of-push : (q : List Waiter) (w : Waiter) → map (λ x. x.caller) (q ++ w ∷ []) ≡ map (λ x. x.caller) q ++ w.caller ∷ []
callers_of-push [] w = refl
callers_of-push (x ∷ q) w = ap (λ cs. x.caller ∷ cs) (callers_of-push q w)

waiting-push : (f : Flight) (q : List Waiter) (w : Waiter) → mutex.waiting_by f (q ++ w ∷ []) ≡ mutex.waiting_by f q ++ w.caller ∷ []
waiting-push flight.Nobody q w = callers_of-push q w
waiting-push (flight.Woken x) q w = ap (λ cs. x.caller ∷ cs) (callers_of-push q w)
waiting-push flight.Handed q w = callers_of-push q w

-- an arrival
pub arrive-cases : (P : mutex.State × MutexReply → Type 0) (i : mutex.State) (c now : ℕ) → c < i.callers → mutex.place_of i c ≡ place.Out → ((j : mutex.State) → i.locked ≡ false → j.locked ≡ true → Keeps i j → P (j, Arrived arrival.Acquired)) → ((j : mutex.State) → j.locked ≡ i.locked → Joins c i j → P (j, Arrived (arrival.Queued c))) → P (mutex.next i c (event.Arrive now))
arrive-cases P i c now below out acquired queued =
    let here : nat_lt c i.callers ≡ true = lt-ltb c i.callers below in
    rw (here, out) (by_state i.callers i.locked i.woken i.starving i.queue i.flight acquired queued)
  where
    by_state : (n : ℕ) (l k v : Bool) (q : List Waiter) (f : Flight) → ((j : mutex.State) → l ≡ false → j.locked ≡ true → Keeps (state n l k v q f) j → P (j, Arrived arrival.Acquired)) → ((j : mutex.State) → j.locked ≡ l → Joins c (state n l k v q f) j → P (j, Arrived (arrival.Queued c))) → P (mutex.arrived (state n l k v q f) c now)
    by_state n false k false q f acquired queued = acquired _ refl refl (record { callers = refl; counts = λ x. refl })
    by_state n true k v q f acquired queued = queued _ refl (record { callers = refl; counts = λ x. rw waiting-push (times_in-push x (mutex.waiting_by f q) c) })
    by_state n false k true q f acquired queued = queued _ refl (record { callers = refl; counts = λ x. rw waiting-push (times_in-push x (mutex.waiting_by f q) c) })

-- a try
pub try-cases : (P : mutex.State × MutexReply → Type 0) (i : mutex.State) (c : ℕ) → c < i.callers → mutex.place_of i c ≡ place.Out → ((j : mutex.State) → i.locked ≡ false → j.locked ≡ true → Keeps i j → P (j, Tried true)) → P (i, Tried false) → P (mutex.next i c event.Try)
try-cases P i c below out acquired refused =
    let here : nat_lt c i.callers ≡ true = lt-ltb c i.callers below in
    rw (here, out) (by_state i.callers i.locked i.woken i.starving i.queue i.flight acquired refused)
  where
    by_state : (n : ℕ) (l k v : Bool) (q : List Waiter) (f : Flight) → ((j : mutex.State) → l ≡ false → j.locked ≡ true → Keeps (state n l k v q f) j → P (j, Tried true)) → P (state n l k v q f, Tried false) → P (mutex.tried (state n l k v q f))
    by_state n false k false q f acquired refused = acquired _ refl refl (record { callers = refl; counts = λ x. refl })
    by_state n true k v q f acquired refused = refused
    by_state n false k true q f acquired refused = refused

-- an unlock of a locked mutex
pub unlocks : (i : mutex.State) (c : ℕ) → c < i.callers → i.locked ≡ true → mutex.IsValid i → ((mutex.next i c event.Unlock).0.locked ≡ false) × Keeps i (mutex.next i c event.Unlock).0
unlocks i c below locked valid =
    let here : nat_lt c i.callers ≡ true = lt-ltb c i.callers below in
    rw here (by_state i.callers i.locked i.woken i.starving i.queue i.flight locked valid)
  where
    by_state : (n : ℕ) (l k v : Bool) (q : List Waiter) (f : Flight) → l ≡ true → mutex.IsValid (state n l k v q f) → ((mutex.unlocked (state n l k v q f)).0.locked ≡ false) × Keeps (state n l k v q f) (mutex.unlocked (state n l k v q f)).0
    by_state n false k v q f locked valid = absurd (false≢true locked)
    by_state n true k v [] f locked valid = (refl, record { callers = refl; counts = λ x. refl })
    by_state n true k true (w ∷ q) flight.Nobody locked valid = (refl, record { callers = refl; counts = λ x. refl })
    by_state n true k true (w ∷ q) (flight.Woken x) locked valid = absurd (false≢true (cc (valid.unwoken refl, valid.woken)))
    by_state n true k true (w ∷ q) flight.Handed locked valid = absurd (false≢true (cc valid.handed))
    by_state n true true false (w ∷ q) f locked valid = (refl, record { callers = refl; counts = λ x. refl })
    by_state n true false false (w ∷ q) flight.Nobody locked valid = (refl, record { callers = refl; counts = λ x. refl })
    by_state n true false false (w ∷ q) (flight.Woken x) locked valid = absurd (false≢true valid.woken)
    by_state n true false false (w ∷ q) flight.Handed locked valid = absurd (false≢true (cc valid.handed))

-- in flight
abbrev pub IsInFlight : Place → Type 0
IsInFlight p = (p ≡ place.Woken) ⊎ (p ≡ place.Handed)

-- a caller in the queue, or out, isn't in flight
queued_not_in_flight : (b : Bool) → IsInFlight (if b then place.Waiting else place.Out) → false ≡ true
queued_not_in_flight true (inl e) = cc
queued_not_in_flight true (inr e) = cc
queued_not_in_flight false (inl e) = cc
queued_not_in_flight false (inr e) = cc

first_in_flight : (b : Bool) (p : Place) (q : List Waiter) (c : ℕ) → IsInFlight (if b then p else mutex.place_in q c) → b ≡ true
first_in_flight true p q c at = refl
first_in_flight false p q c at = absurd (false≢true (queued_not_in_flight (list_any (mutex.is_waiter_of c) q) at))

unlocked_for : (v l : Bool) → true ≡ (v && not l) → l ≡ false
unlocked_for true false e = refl
unlocked_for true true e = absurd (false≢true (sym e))
unlocked_for false l e = absurd (false≢true (sym e))

-- the caller in front is the one that goes on
front-parts : (c : ℕ) (w : Waiter) (q : List Waiter) → mutex.is_waiter_of c w ≡ true → (x : ℕ) → times_in x (map (λ y. y.caller) q) + once x c ≡ once x w.caller + times_in x (map (λ y. y.caller) q)
front-parts c w q own x = omega (arith, ap (λ y. once x y) (eqb-true c w.caller own))

-- a waiter goes on
pub woken-cases : (P : mutex.State × MutexReply → Type 0) (i : mutex.State) (c now : ℕ) → c < i.callers → IsInFlight (mutex.place_of i c) → mutex.IsValid i → ((j : mutex.State) → i.locked ≡ false → j.locked ≡ true → Parts c i j → P (j, Resumed resumption.Acquired)) → ((j : mutex.State) → j.locked ≡ i.locked → Keeps i j → P (j, Resumed resumption.Requeued)) → P (mutex.next i c (event.Woken now))
woken-cases P i c now below at valid acquired requeued =
    let here : nat_lt c i.callers ≡ true = lt-ltb c i.callers below in
    rw here (by_place (mutex.place_of i c) at (by_state i.callers i.locked i.woken i.starving i.queue i.flight at valid acquired requeued))
  where
    by_place : (p : Place) → IsInFlight p → P (mutex.resumed i.flight i.queue now i) → P (mutex.at_place (event.Woken now) p c i)
    by_place place.Woken at resumed = resumed
    by_place place.Handed at resumed = resumed
    by_place place.Out at resumed = absurd (false≢true (queued_not_in_flight false at))
    by_place place.Waiting at resumed = absurd (false≢true (queued_not_in_flight true at))

    by_state : (n : ℕ) (l k v : Bool) (q : List Waiter) (f : Flight) → IsInFlight (mutex.place_by f q c) → mutex.IsValid (state n l k v q f) → ((j : mutex.State) → l ≡ false → j.locked ≡ true → Parts c (state n l k v q f) j → P (j, Resumed resumption.Acquired)) → ((j : mutex.State) → j.locked ≡ l → Keeps (state n l k v q f) j → P (j, Resumed resumption.Requeued)) → P (mutex.resumed f q now (state n l k v q f))
    by_state n l k v q flight.Nobody at valid acquired requeued = absurd (false≢true (queued_not_in_flight (list_any (mutex.is_waiter_of c) q) at))
    by_state n l k v [] flight.Handed at valid acquired requeued = absurd (false≢true (queued_not_in_flight false at))
    by_state n l k v (w ∷ q) flight.Handed at valid acquired requeued =
        acquired _ (unlocked_for v l valid.handed) refl (record { callers = refl; counts = front-parts c w q (first_in_flight (mutex.is_waiter_of c w) place.Handed q c at) })
    by_state n false k v q (flight.Woken w) at valid acquired requeued =
        acquired _ refl refl (record { callers = refl; counts = front-parts c w q (first_in_flight (mutex.is_waiter_of c w) place.Woken q c at) })
    by_state n true k v q (flight.Woken w) at valid acquired requeued = requeued _ refl (record { callers = refl; counts = λ x. refl })

among-callers : (c : ℕ) (q : List Waiter) → is_among c (map (λ w. w.caller) q) ≡ list_any (mutex.is_waiter_of c) q
among-callers c [] = refl
among-callers c (w ∷ q) = ap (λ b. (c == w.caller) || b) (among-callers c q)

past : (b : Bool) (p q : Place) → (p ≡ place.Out → false ≡ true) → (if b then p else q) ≡ place.Out → (b ≡ false) × (q ≡ place.Out)
past true p q never out = absurd (false≢true (never out))
past false p q never out = (refl, out)

queue-absent : (c : ℕ) (q : List Waiter) → mutex.place_in q c ≡ place.Out → times_in c (map (λ w. w.caller) q) ≡ 0
queue-absent c q out = times_in-absent c _ (rw among-callers ((past _ place.Waiting place.Out (λ e. cc) out).0))

-- a caller that isn't at the mutex isn't counted there
pub waiting-absent : (i : mutex.State) (c : ℕ) → mutex.place_of i c ≡ place.Out → times_in c (waiting i) ≡ 0
waiting-absent i c out = by_flight i.flight i.queue out
  where
    by_flight : (f : Flight) (q : List Waiter) → mutex.place_by f q c ≡ place.Out → times_in c (mutex.waiting_by f q) ≡ 0
    by_flight flight.Nobody q out = queue-absent c q out
    by_flight flight.Handed [] out = refl
    by_flight (flight.Woken w) q out =
        let parts = past (mutex.is_waiter_of c w) place.Woken (mutex.place_in q c) (λ e. cc) out in
        rw (parts.0, queue-absent c q parts.1) refl
    by_flight flight.Handed (w ∷ q) out =
        let parts = past (mutex.is_waiter_of c w) place.Handed (mutex.place_in q c) (λ e. cc) out in
        rw (parts.0, queue-absent c q parts.1) refl
