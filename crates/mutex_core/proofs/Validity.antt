-- Every event keeps what is true of every state.
use Rattle.std.proofs.Common.{◌≡◌, ℕ, ◌<◌, Bool, true, false, List, [], ◌∷◌, ◌++◌, ◌&&◌, ◌||◌, refl, ap, subst, ◌∙◌}
use Rattle.std.specs.Prelude.{nat_eq, nat_lt, if◌then◌else◌}
use borrow.Author.Tests.{ltb-true}
use Rattle.sync_model.specs.Log.{Entry, after}
use Rattle.mutex_core.specs.declared.reply.MutexReply.{MutexReply}
use Rattle.mutex_core.specs.Starving.{is_starving}
use Rattle.mutex_core.specs.declared.place.Place.{Place}
use Rattle.std.specs.List.{IsDistinct}
use Rattle.mutex_core.specs.declared.place.Place.TheVariants as place
use Rattle.mutex_core.specs.declared.waiter.Waiter.{Waiter}
use Rattle.mutex_core.specs.declared.waiter.Flight.{Flight}
use Rattle.mutex_core.specs.declared.waiter.Flight.TheVariants as flight
use Rattle.mutex_core.specs.declared.event.MutexEvent.{MutexEvent}
use Rattle.mutex_core.specs.declared.event.MutexEvent.TheVariants as event
use Rattle.mutex_core.specs.MutexMachine.{State, start, is_open, place_by, place_of, arrived, tried, unlocked, resumed, still, at_place, next, is_contended, IsValid}
use Rattle.std.proofs.lemmas.Cmp.{nat_eq_equiv}
use Rattle.std.proofs.lemmas.Bool.{false≢true}
use Rattle.std.proofs.lemmas.Map.Keys.{IsDistinct-push, IsDistinct-tail}
use Rattle.mutex_core.proofs.Waiting.{waiting_by-push, waiting-out, AllByRecursion-push}

abbrev pub state : ℕ → Bool → Bool → Bool → List Waiter → Flight → State
state callers locked woken starving queue flight =
    record { callers = callers; locked = locked; woken = woken; starving = starving; queue = queue; flight = flight }

someone_more : (q : List Waiter) (w : Waiter) → is_contended (q ++ w ∷ []) ≡ true
someone_more [] w = refl
someone_more (x ∷ q) w = refl

-- one waiter more at the tail
pub queued-valid : (n : ℕ) (l k v : Bool) (q : List Waiter) (f : Flight) (w : Waiter) → w.caller < n → place_by f q w.caller ≡ place.Out → IsValid (state n l k v q f) → IsValid (state n l k v (q ++ w ∷ []) f)
queued-valid n l k v q f w below out h = record {
  woken = h.woken;
  handed = h.handed;
  contended = λ _. someone_more q w;
  unwoken = h.unwoken;
  callers = rw waiting_by-push (AllByRecursion-push _ _ _ h.callers below);
  apart = rw waiting_by-push (IsDistinct-push nat_eq_equiv _ _ h.apart (waiting-out f q w.caller out));
}

-- an open mutex is taken
acquired-valid : (n : ℕ) (k : Bool) (q : List Waiter) (f : Flight) → IsValid (state n false k false q f) → IsValid (state n true k false q f)
acquired-valid n k q f h = record { woken = h.woken; handed = h.handed; contended = h.contended; unwoken = h.unwoken; callers = h.callers; apart = h.apart }

pub arrived-valid : (n : ℕ) (l k v : Bool) (q : List Waiter) (f : Flight) (c now : ℕ) → c < n → place_by f q c ≡ place.Out → IsValid (state n l k v q f) → IsValid (arrived (state n l k v q f) c now).0
arrived-valid n false k false q f c now below out h = acquired-valid n k q f h
arrived-valid n true k v q f c now below out h = queued-valid n true k v q f _ below out h
arrived-valid n false k true q f c now below out h = queued-valid n false k true q f _ below out h

pub tried-valid : (n : ℕ) (l k v : Bool) (q : List Waiter) (f : Flight) → IsValid (state n l k v q f) → IsValid (tried (state n l k v q f)).0
tried-valid n false k false q f h = acquired-valid n k q f h
tried-valid n true k v q f h = h
tried-valid n false k true q f h = h

pub unlocked-valid : (n : ℕ) (l k v : Bool) (q : List Waiter) (f : Flight) → IsValid (state n l k v q f) → IsValid (unlocked (state n l k v q f)).0
unlocked-valid n false k v q f h = h
unlocked-valid n true k true [] f h = absurd (false≢true (h.contended refl))
unlocked-valid n true k false [] f h = record { woken = h.woken; handed = h.handed; contended = h.contended; unwoken = h.unwoken; callers = h.callers; apart = h.apart }
unlocked-valid n true k true (w ∷ q) flight.Nobody h =
    record { woken = h.woken; handed = refl; contended = h.contended; unwoken = h.unwoken; callers = h.callers; apart = h.apart }
unlocked-valid n true k true (w ∷ q) (flight.Woken x) h = absurd (false≢true (cc (h.unwoken refl, h.woken)))
unlocked-valid n true k true (w ∷ q) flight.Handed h = absurd (false≢true (cc h.handed))
unlocked-valid n true false false (w ∷ q) flight.Nobody h =
    record { woken = refl; handed = refl; contended = λ s. cc; unwoken = λ s. cc; callers = h.callers; apart = h.apart }
unlocked-valid n true false false (w ∷ q) (flight.Woken x) h = absurd (false≢true h.woken)
unlocked-valid n true false false (w ∷ q) flight.Handed h = absurd (false≢true (cc h.handed))
unlocked-valid n true true false (w ∷ q) f h =
    record { woken = h.woken; handed = h.handed; contended = h.contended; unwoken = h.unwoken; callers = h.callers; apart = h.apart }

and-false : (b : Bool) → false ≡ (b && false)
and-false true = refl
and-false false = refl

and-last : (a b c : Bool) → (a && (b && c)) ≡ true → c ≡ true
and-last true true c e = e
and-last true false c e = absurd (false≢true e)
and-last false b c e = absurd (false≢true e)

pub resumed-valid : (n : ℕ) (l k v : Bool) (q : List Waiter) (f : Flight) (now : ℕ) → IsValid (state n l k v q f) → IsValid (resumed f q now (state n l k v q f)).0
resumed-valid n l k v q flight.Nobody now h = h
resumed-valid n l k v [] flight.Handed now h = h
resumed-valid n l k v (w ∷ q) flight.Handed now h = record {
  woken = h.woken;
  handed = and-false (v && (is_starving w now && is_contended q));
  contended = and-last v (is_starving w now) (is_contended q);
  unwoken = λ s. h.woken;
  callers = h.callers.1;
  apart = IsDistinct-tail nat_eq _ _ h.apart;
}
resumed-valid n true k v q (flight.Woken w) now h = record {
  woken = refl;
  handed = and-false (v || is_starving w now);
  contended = λ s. refl;
  unwoken = λ s. refl;
  callers = h.callers;
  apart = h.apart;
}
resumed-valid n false k v q (flight.Woken w) now h = record {
  woken = refl;
  handed = and-false v;
  contended = h.contended;
  unwoken = λ s. refl;
  callers = h.callers.1;
  apart = IsDistinct-tail nat_eq _ _ h.apart;
}

at_place-valid : (e : MutexEvent) (p : Place) (c : ℕ) (s : State) → c < s.callers → place_of s c ≡ p → IsValid s → IsValid (at_place e p c s).0
at_place-valid (event.Arrive now) place.Out c s below at h = arrived-valid s.callers s.locked s.woken s.starving s.queue s.flight c now below at h
at_place-valid (event.Arrive now) _ c s below at h = h
at_place-valid event.Try place.Out c s below at h = tried-valid s.callers s.locked s.woken s.starving s.queue s.flight h
at_place-valid event.Try _ c s below at h = h
at_place-valid event.Unlock _ c s below at h = unlocked-valid s.callers s.locked s.woken s.starving s.queue s.flight h
at_place-valid (event.Woken now) place.Woken c s below at h = resumed-valid s.callers s.locked s.woken s.starving s.queue s.flight now h
at_place-valid (event.Woken now) place.Handed c s below at h = resumed-valid s.callers s.locked s.woken s.starving s.queue s.flight now h
at_place-valid (event.Woken now) _ c s below at h = h

-- whatever the event is
pub next-valid : (s : State) (c : ℕ) (e : MutexEvent) → IsValid s → IsValid (next s c e).0
next-valid s c e h = by_test (nat_lt c s.callers) refl
  where
    by_test : (b : Bool) → nat_lt c s.callers ≡ b → IsValid (if b then at_place e (place_of s c) c s else still s).0
    by_test true below = at_place-valid e (place_of s c) c s (ltb-true c s.callers below) refl h
    by_test false _ = h

pub start-valid : (n : ℕ) → IsValid (start n)
unfolding IsDistinct
start-valid n = record { woken = refl; handed = refl; contended = λ s. s; unwoken = λ s. refl; callers = tt; apart = tt }

pub after-valid : (s : State) (log : List (Entry MutexEvent MutexReply)) → IsValid s → IsValid (after next s log)
after-valid s [] h = h
after-valid s (entry ∷ log) h = after-valid (next s entry.caller entry.event).0 log (next-valid s entry.caller entry.event h)

-- the state after an event, named by what the event is
pub valid-by : (s t : State) (c : ℕ) (e : MutexEvent) (r : MutexReply) → IsValid s → next s c e ≡ (t, r) → IsValid t
valid-by s t c e r h is = subst IsValid (ap (λ p. p.0) is) (next-valid s c e h)

callers-unlocked : (n : ℕ) (l k v : Bool) (q : List Waiter) (f : Flight) → (unlocked (state n l k v q f)).0.callers ≡ n
callers-unlocked n false k v q f = refl
callers-unlocked n true k v [] f = refl
callers-unlocked n true k true (w ∷ q) f = refl
callers-unlocked n true true false (w ∷ q) f = refl
callers-unlocked n true false false (w ∷ q) f = refl

callers-resumed : (n : ℕ) (l k v : Bool) (q : List Waiter) (f : Flight) (now : ℕ) → (resumed f q now (state n l k v q f)).0.callers ≡ n
callers-resumed n l k v q flight.Nobody now = refl
callers-resumed n l k v [] flight.Handed now = refl
callers-resumed n l k v (w ∷ q) flight.Handed now = refl
callers-resumed n true k v q (flight.Woken w) now = refl
callers-resumed n false k v q (flight.Woken w) now = refl

callers-open : (n : ℕ) (b : Bool) (s t : State × MutexReply) → s.0.callers ≡ n → t.0.callers ≡ n → (if b then s else t).0.callers ≡ n
callers-open n true s t e f = e
callers-open n false s t e f = f

callers-at_place : (e : MutexEvent) (p : Place) (c : ℕ) (s : State) → (at_place e p c s).0.callers ≡ s.callers
callers-at_place (event.Arrive now) place.Out c s = callers-open s.callers (is_open s) _ _ refl refl
callers-at_place (event.Arrive now) _ c s = refl
callers-at_place event.Try place.Out c s = callers-open s.callers (is_open s) _ _ refl refl
callers-at_place event.Try _ c s = refl
callers-at_place event.Unlock _ c s = callers-unlocked s.callers s.locked s.woken s.starving s.queue s.flight
callers-at_place (event.Woken now) place.Woken c s = callers-resumed s.callers s.locked s.woken s.starving s.queue s.flight now
callers-at_place (event.Woken now) place.Handed c s = callers-resumed s.callers s.locked s.woken s.starving s.queue s.flight now
callers-at_place (event.Woken now) _ c s = refl

pub callers-next : (s : State) (c : ℕ) (e : MutexEvent) → (next s c e).0.callers ≡ s.callers
callers-next s c e = callers-open s.callers (nat_lt c s.callers) _ _ (callers-at_place e (place_of s c) c s) refl

-- the callers stay the same
pub callers-after : (s : State) (log : List (Entry MutexEvent MutexReply)) → (after next s log).callers ≡ s.callers
callers-after s [] = refl
callers-after s (entry ∷ log) = callers-after (next s entry.caller entry.event).0 log ∙ callers-next s entry.caller entry.event
