-- The queue is first in, first out, and a try succeeds where an arrival would.
use Rattle.std.proofs.Common.{◌≡◌, ℕ, Bool, true, false, List, [], ◌∷◌, refl}
use Rattle.std.specs.Prelude.{nat_lt, if◌then◌else◌}
use Rattle.std.proofs.lemmas.Bool.{false≢true}
use Rattle.mutex_core.specs.declared.event.MutexEvent.{MutexEvent}
use Rattle.mutex_core.specs.declared.event.MutexEvent.TheVariants as event
use Rattle.mutex_core.specs.declared.place.Place.{Place}
use Rattle.mutex_core.specs.declared.place.Place.TheVariants as place
use Rattle.mutex_core.specs.declared.reply.MutexReply.{MutexReply}
use Rattle.mutex_core.specs.declared.reply.MutexReply.TheVariants.{Arrived, Tried}
use Rattle.mutex_core.specs.declared.reply.Arrival.TheVariants as arrival
use Rattle.mutex_core.specs.declared.waiter.Waiter.{Waiter}
use Rattle.mutex_core.specs.declared.waiter.Flight.{Flight}
use Rattle.mutex_core.specs.declared.waiter.Flight.TheVariants as flight
use Rattle.mutex_core.specs.MutexMachine.{State, place_of, arrived, tried, unlocked, resumed, still, at_place, next}
use Rattle.mutex_core.specs.Order.{QueuesOn}
use Rattle.mutex_core.specs.Starving.{is_starving}
use Rattle.mutex_core.proofs.Validity.{state}

no : {A : Type 0} → false ≡ true → A
no e = absurd (false≢true e)

-- who joins and leaves the queue
abbrev Queued : State → ℕ → MutexEvent → State × MutexReply → Type 0
Queued s c e step = QueuesOn s c e step.1 step.0

arrived-queues : (n : ℕ) (l k v : Bool) (q : List Waiter) (f : Flight) (c now : ℕ) → Queued (state n l k v q f) c (event.Arrive now) (arrived (state n l k v q f) c now)
arrived-queues n false k false q f c now = refl
arrived-queues n true k v q f c now = (record { caller = c; arrival = now; asked = false }, refl, refl, refl)
arrived-queues n false k true q f c now = (record { caller = c; arrival = now; asked = false }, refl, refl, refl)

tried-queues : (n : ℕ) (l k v : Bool) (q : List Waiter) (f : Flight) (c : ℕ) → Queued (state n l k v q f) c event.Try (tried (state n l k v q f))
tried-queues n false k false q f c = refl
tried-queues n true k v q f c = refl
tried-queues n false k true q f c = refl

unlocked-queues : (n : ℕ) (l k v : Bool) (q : List Waiter) (f : Flight) (c : ℕ) → Queued (state n l k v q f) c event.Unlock (unlocked (state n l k v q f))
unlocked-queues n false k v q f c = refl
unlocked-queues n true k v [] f c = refl
unlocked-queues n true k true (w ∷ q) f c = (w, q, refl, refl, refl)
unlocked-queues n true true false (w ∷ q) f c = refl
unlocked-queues n true false false (w ∷ q) f c = (w, refl, refl, refl)

resumed-queues : (n : ℕ) (l k v : Bool) (q : List Waiter) (f : Flight) (c now : ℕ) → Queued (state n l k v q f) c (event.Woken now) (resumed f q now (state n l k v q f))
resumed-queues n l k v q flight.Nobody c now = refl
resumed-queues n l k v [] flight.Handed c now = refl
resumed-queues n l k v (w ∷ q) flight.Handed c now = (w, refl)
resumed-queues n true k v q (flight.Woken w) c now = (w, record w { asked = is_starving w now }, refl, refl, refl, refl)
resumed-queues n false k v q (flight.Woken w) c now = refl

at_place-queues : (e : MutexEvent) (p : Place) (c : ℕ) (s : State) → Queued s c e (at_place e p c s)
at_place-queues (event.Arrive now) place.Out c s = arrived-queues s.callers s.locked s.woken s.starving s.queue s.flight c now
at_place-queues (event.Arrive now) _ c s = refl
at_place-queues event.Try place.Out c s = tried-queues s.callers s.locked s.woken s.starving s.queue s.flight c
at_place-queues event.Try _ c s = refl
at_place-queues event.Unlock _ c s = unlocked-queues s.callers s.locked s.woken s.starving s.queue s.flight c
at_place-queues (event.Woken now) place.Woken c s = resumed-queues s.callers s.locked s.woken s.starving s.queue s.flight c now
at_place-queues (event.Woken now) place.Handed c s = resumed-queues s.callers s.locked s.woken s.starving s.queue s.flight c now
at_place-queues (event.Woken now) _ c s = refl

pub next-queues : (s : State) (c : ℕ) (e : MutexEvent) → QueuesOn s c e (next s c e).1 (next s c e).0
next-queues s c e = by_test (nat_lt c s.callers)
  where
    by_test : (b : Bool) → Queued s c e (if b then at_place e (place_of s c) c s else still s)
    by_test true = at_place-queues e (place_of s c) c s
    by_test false = refl

-- what a try and an arrival of a caller come to
record Alike (try arrive : State × MutexReply) : Type 0 where
  would : try.1 ≡ Tried true → (arrive.1 ≡ Arrived arrival.Acquired) × (try.0 ≡ arrive.0)
  does : arrive.1 ≡ Arrived arrival.Acquired → try.1 ≡ Tried true

open-alike : (n : ℕ) (l k v : Bool) (q : List Waiter) (f : Flight) (c now : ℕ) → Alike (tried (state n l k v q f)) (arrived (state n l k v q f) c now)
open-alike n false k false q f c now = record { would = λ _. (refl, refl); does = λ _. refl }
open-alike n true k v q f c now = record { would = λ e. cc; does = λ e. cc }
open-alike n false k true q f c now = record { would = λ e. cc; does = λ e. cc }

place-alike : (p : Place) (c now : ℕ) (s : State) → Alike (at_place event.Try p c s) (at_place (event.Arrive now) p c s)
place-alike place.Out c now s = open-alike s.callers s.locked s.woken s.starving s.queue s.flight c now
place-alike place.Waiting c now s = record { would = λ e. cc; does = λ e. cc }
place-alike place.Woken c now s = record { would = λ e. cc; does = λ e. cc }
place-alike place.Handed c now s = record { would = λ e. cc; does = λ e. cc }

alike : (s : State) (c now : ℕ) → Alike (next s c event.Try) (next s c (event.Arrive now))
alike s c now = by_test (nat_lt c s.callers)
  where
    by_test : (b : Bool) → Alike (if b then at_place event.Try (place_of s c) c s else still s) (if b then at_place (event.Arrive now) (place_of s c) c s else still s)
    by_test true = place-alike (place_of s c) c now s
    by_test false = record { would = λ e. cc; does = λ e. cc }

pub try_would : (s : State) (c now : ℕ) → (next s c event.Try).1 ≡ Tried true → ((next s c (event.Arrive now)).1 ≡ Arrived arrival.Acquired) × ((next s c event.Try).0 ≡ (next s c (event.Arrive now)).0)
try_would s c now is = let both = alike s c now in both.would is

pub try_does : (s : State) (c now : ℕ) → (next s c (event.Arrive now)).1 ≡ Arrived arrival.Acquired → (next s c event.Try).1 ≡ Tried true
try_does s c now is = let both = alike s c now in both.does is
