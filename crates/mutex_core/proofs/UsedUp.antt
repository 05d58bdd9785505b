-- Every event by which a caller waits uses up what callers can still do.
use Rattle.std.proofs.Common.{◌≡◌, ℕ, ◌+◌, ◌<◌, ◌≤◌, Bool, true, false, List, [], ◌∷◌, ◌++◌, length, refl, arith, length-append}
use Rattle.std.specs.Prelude.{nat_lt, if◌then◌else◌}
use borrow.Author.Tests.{ltb-true}
use Rattle.std.proofs.lemmas.Bool.{false≢true}
use Rattle.mutex_core.specs.declared.event.MutexEvent.{MutexEvent}
use Rattle.mutex_core.specs.declared.event.MutexEvent.TheVariants as event
use Rattle.mutex_core.specs.declared.place.Place.{Place}
use Rattle.mutex_core.specs.declared.place.Place.TheVariants as place
use Rattle.mutex_core.specs.declared.reply.MutexReply.{MutexReply}
use Rattle.mutex_core.specs.declared.waiter.Waiter.{Waiter}
use Rattle.mutex_core.specs.declared.waiter.Flight.{Flight}
use Rattle.mutex_core.specs.declared.waiter.Flight.TheVariants as flight
use Rattle.mutex_core.specs.MutexMachine.{State, place_by, place_of, arrived, tried, unlocked, resumed, still, at_place, next, waiting_by, IsValid}
use Rattle.mutex_core.specs.EventsLeft.{events_left, used_by, given_by}
use Rattle.mutex_core.proofs.Validity.{state, queued-valid}
use Rattle.mutex_core.proofs.Waiting.{waiting_by-push, length-apart}

abbrev UsesUp : State → State × MutexReply → Type 0
UsesUp s step = events_left step.0 + used_by step.1 ≤ events_left s + given_by step.1

-- no more callers wait than there are
length-waiting : (s : State) → IsValid s → length (waiting_by s.flight s.queue) ≤ s.callers
length-waiting s h = length-apart s.callers (waiting_by s.flight s.queue) h.callers h.apart

queued-uses : (n : ℕ) (l k v : Bool) (q : List Waiter) (f : Flight) (w : Waiter) → w.caller < n → place_by f q w.caller ≡ place.Out → IsValid (state n l k v q f)
    → events_left (state n l k v (q ++ w ∷ []) f) + 2 ≤ events_left (state n l k v q f)
queued-uses n l k v q f w below out h =
    let fits : length (waiting_by f (q ++ w ∷ [])) ≤ n = length-waiting _ (queued-valid n l k v q f w below out h) in
    let more : length (waiting_by f (q ++ w ∷ [])) ≡ length (waiting_by f q) + 1 = rw waiting_by-push (length-append (waiting_by f q) (w.caller ∷ [])) in
    omega (arith, fits, more)

arrived-uses : (n : ℕ) (l k v : Bool) (q : List Waiter) (f : Flight) (c now : ℕ) → c < n → place_by f q c ≡ place.Out → IsValid (state n l k v q f) → UsesUp (state n l k v q f) (arrived (state n l k v q f) c now)
arrived-uses n false k false q f c now below out h = omega arith
arrived-uses n true k v q f c now below out h = omega (arith, queued-uses n true k v q f (record { caller = c; arrival = now; asked = false }) below out h)
arrived-uses n false k true q f c now below out h = omega (arith, queued-uses n false k true q f (record { caller = c; arrival = now; asked = false }) below out h)

tried-uses : (n : ℕ) (l k v : Bool) (q : List Waiter) (f : Flight) → UsesUp (state n l k v q f) (tried (state n l k v q f))
tried-uses n false k false q f = omega arith
tried-uses n true k v q f = omega arith
tried-uses n false k true q f = omega arith

unlocked-uses : (n : ℕ) (l k v : Bool) (q : List Waiter) (f : Flight) → IsValid (state n l k v q f) → UsesUp (state n l k v q f) (unlocked (state n l k v q f))
unlocked-uses n false k v q f h = omega arith
unlocked-uses n true k v [] f h = omega arith
unlocked-uses n true k true (w ∷ q) flight.Nobody h = omega arith
unlocked-uses n true k true (w ∷ q) (flight.Woken x) h = absurd (false≢true (cc (h.unwoken refl, h.woken)))
unlocked-uses n true k true (w ∷ q) flight.Handed h = absurd (false≢true (cc h.handed))
unlocked-uses n true false false (w ∷ q) flight.Nobody h = omega arith
unlocked-uses n true false false (w ∷ q) (flight.Woken x) h = absurd (false≢true h.woken)
unlocked-uses n true false false (w ∷ q) flight.Handed h = absurd (false≢true (cc h.handed))
unlocked-uses n true true false (w ∷ q) f h = omega arith

resumed-uses : (n : ℕ) (l k v : Bool) (q : List Waiter) (f : Flight) (now : ℕ) → UsesUp (state n l k v q f) (resumed f q now (state n l k v q f))
resumed-uses n l k v q flight.Nobody now = omega arith
resumed-uses n l k v [] flight.Handed now = omega arith
resumed-uses n l k v (w ∷ q) flight.Handed now = omega arith
resumed-uses n true k v q (flight.Woken w) now = omega arith
resumed-uses n false k v q (flight.Woken w) now = omega arith

at_place-uses : (e : MutexEvent) (p : Place) (c : ℕ) (s : State) → c < s.callers → place_of s c ≡ p → IsValid s → UsesUp s (at_place e p c s)
at_place-uses (event.Arrive now) place.Out c s below at h = arrived-uses s.callers s.locked s.woken s.starving s.queue s.flight c now below at h
at_place-uses (event.Arrive now) _ c s below at h = omega arith
at_place-uses event.Try place.Out c s below at h = tried-uses s.callers s.locked s.woken s.starving s.queue s.flight
at_place-uses event.Try _ c s below at h = omega arith
at_place-uses event.Unlock _ c s below at h = unlocked-uses s.callers s.locked s.woken s.starving s.queue s.flight h
at_place-uses (event.Woken now) place.Woken c s below at h = resumed-uses s.callers s.locked s.woken s.starving s.queue s.flight now
at_place-uses (event.Woken now) place.Handed c s below at h = resumed-uses s.callers s.locked s.woken s.starving s.queue s.flight now
at_place-uses (event.Woken now) _ c s below at h = omega arith

pub next-uses : (s : State) (c : ℕ) (e : MutexEvent) → IsValid s → UsesUp s (next s c e)
next-uses s c e h = by_test (nat_lt c s.callers) refl
  where
    by_test : (b : Bool) → nat_lt c s.callers ≡ b → UsesUp s (if b then at_place e (place_of s c) c s else still s)
    by_test true below = at_place-uses e (place_of s c) c s (ltb-true c s.callers below) refl h
    by_test false _ = omega arith
