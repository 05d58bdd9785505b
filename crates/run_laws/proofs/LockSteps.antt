-- What an answer of a mutex says of whether it is locked.
use Rattle.std.proofs.Common.{◌≡◌, ℕ, Bool, true, false, List, [], ◌∷◌, refl, sym}
use Rattle.std.specs.Prelude.{nat_lt, ◌&&◌, not, if◌then◌else◌}
use Rattle.std.proofs.lemmas.Bool.{false≢true}
use Rattle.mutex_core.specs.declared.event.MutexEvent.{MutexEvent}
use Rattle.mutex_core.specs.declared.event.MutexEvent.TheVariants as event
use Rattle.mutex_core.specs.declared.place.Place.{Place}
use Rattle.mutex_core.specs.declared.place.Place.TheVariants as place
use Rattle.mutex_core.specs.declared.reply.MutexReply.{MutexReply}
use Rattle.mutex_core.specs.declared.reply.MutexReply.TheVariants.{Unlocked}
use Rattle.mutex_core.specs.declared.waiter.Waiter.{Waiter}
use Rattle.mutex_core.specs.declared.waiter.Flight.{Flight}
use Rattle.mutex_core.specs.declared.waiter.Flight.TheVariants as flight
use Rattle.mutex_core.specs.Edges.{acquires, releases}
use Rattle.mutex_core.specs.Exclusion.{held_after}
use Rattle.mutex_core.specs.MutexMachine.{State, next, at_place, arrived, tried, unlocked, resumed, contended, received, place_of, still, is_handed, IsValid}

-- whether it answers an unlock
abbrev pub is_unlocking : MutexReply → Bool
is_unlocking (Unlocked u) = true
is_unlocking reply = false

-- an answer, by whether the mutex was locked before and is locked after: it is acquired where it isn't locked, and an unlock releases it exactly where it is
pub record LockStep (before : Bool) (r : MutexReply) (later : Bool) : Type 0 where
  pub acquired : acquires r ≡ true → before ≡ false
  pub unlocked : is_unlocking r ≡ true → releases r ≡ before
  pub releasing : releases r ≡ true → is_unlocking r ≡ true
  pub after : later ≡ held_after before r

abbrev MutexStepsTo : State → State × MutexReply → Type 0
MutexStepsTo s given = LockStep s.locked given.1 given.0.locked

abbrev made : ℕ → Bool → Bool → Bool → List Waiter → Flight → State
made n l w st q f = record { callers = n; locked = l; woken = w; starving = st; queue = q; flight = f }

no : {A : Type 0} → false ≡ true → A
no e = absurd (false≢true e)

still_steps : (s : State) → MutexStepsTo s (still s)
still_steps s = record { acquired = λ e. no e; unlocked = λ e. no e; releasing = λ e. no e; after = refl }

arrived_steps : (n : ℕ) (l w st : Bool) (q : List Waiter) (f : Flight) (c now : ℕ) → MutexStepsTo (made n l w st q f) (arrived (made n l w st q f) c now)
arrived_steps n false w false q f c now = record { acquired = λ e. refl; unlocked = λ e. no e; releasing = λ e. no e; after = refl }
arrived_steps n false w true q f c now = record { acquired = λ e. no e; unlocked = λ e. no e; releasing = λ e. no e; after = refl }
arrived_steps n true w st q f c now = record { acquired = λ e. no e; unlocked = λ e. no e; releasing = λ e. no e; after = refl }

tried_steps : (n : ℕ) (l w st : Bool) (q : List Waiter) (f : Flight) → MutexStepsTo (made n l w st q f) (tried (made n l w st q f))
tried_steps n false w false q f = record { acquired = λ e. refl; unlocked = λ e. no e; releasing = λ e. no e; after = refl }
tried_steps n false w true q f = record { acquired = λ e. no e; unlocked = λ e. no e; releasing = λ e. no e; after = refl }
tried_steps n true w st q f = record { acquired = λ e. no e; unlocked = λ e. no e; releasing = λ e. no e; after = refl }

unlocked_steps : (n : ℕ) (l w st : Bool) (q : List Waiter) (f : Flight) → MutexStepsTo (made n l w st q f) (unlocked (made n l w st q f))
unlocked_steps n false w st q f = record { acquired = λ e. no e; unlocked = λ e. refl; releasing = λ e. no e; after = refl }
unlocked_steps n true w st [] f = record { acquired = λ e. no e; unlocked = λ e. refl; releasing = λ e. refl; after = refl }
unlocked_steps n true w true (x ∷ q) f = record { acquired = λ e. no e; unlocked = λ e. refl; releasing = λ e. refl; after = refl }
unlocked_steps n true true false (x ∷ q) f = record { acquired = λ e. no e; unlocked = λ e. refl; releasing = λ e. refl; after = refl }
unlocked_steps n true false false (x ∷ q) f = record { acquired = λ e. no e; unlocked = λ e. refl; releasing = λ e. refl; after = refl }

contended_steps : (n : ℕ) (l w st : Bool) (q : List Waiter) (f : Flight) (waiter : Waiter) (now : ℕ) → MutexStepsTo (made n l w st q f) (contended waiter now (made n l w st q f))
contended_steps n false w st q f waiter now = record { acquired = λ e. refl; unlocked = λ e. no e; releasing = λ e. no e; after = refl }
contended_steps n true w st q f waiter now = record { acquired = λ e. no e; unlocked = λ e. no e; releasing = λ e. no e; after = refl }

-- a waiter that was handed the mutex finds it unlocked
received_steps : (n : ℕ) (l w st : Bool) (q : List Waiter) (f : Flight) (front : Waiter) (rest : List Waiter) (now : ℕ) → true ≡ (st && not l) → MutexStepsTo (made n l w st q f) (received front rest now (made n l w st q f))
received_steps n false w st q f front rest now handed = record { acquired = λ e. refl; unlocked = λ e. no e; releasing = λ e. no e; after = refl }
received_steps n true w false q f front rest now handed = no (sym handed)
received_steps n true w true q f front rest now handed = no (sym handed)

resumed_steps : (s : State) (f : Flight) (q : List Waiter) (now : ℕ) → is_handed f ≡ (s.starving && not s.locked) → MutexStepsTo s (resumed f q now s)
resumed_steps s (flight.Woken waiter) q now handed = contended_steps s.callers s.locked s.woken s.starving s.queue s.flight waiter now
resumed_steps s flight.Handed (front ∷ rest) now handed = received_steps s.callers s.locked s.woken s.starving s.queue s.flight front rest now handed
resumed_steps s flight.Handed [] now handed = still_steps s
resumed_steps s flight.Nobody q now handed = still_steps s

at_place_steps : (e : MutexEvent) (p : Place) (c : ℕ) (s : State) → IsValid s → MutexStepsTo s (at_place e p c s)
at_place_steps (event.Arrive now) place.Out c s valid = arrived_steps s.callers s.locked s.woken s.starving s.queue s.flight c now
at_place_steps (event.Arrive now) p c s valid = still_steps s
at_place_steps event.Try place.Out c s valid = tried_steps s.callers s.locked s.woken s.starving s.queue s.flight
at_place_steps event.Try p c s valid = still_steps s
at_place_steps event.Unlock p c s valid = unlocked_steps s.callers s.locked s.woken s.starving s.queue s.flight
at_place_steps (event.Woken now) place.Woken c s valid = resumed_steps s s.flight s.queue now valid.handed
at_place_steps (event.Woken now) place.Handed c s valid = resumed_steps s s.flight s.queue now valid.handed
at_place_steps (event.Woken now) p c s valid = still_steps s

by_caller : (b : Bool) (e : MutexEvent) (c : ℕ) (s : State) → IsValid s → MutexStepsTo s (if b then at_place e (place_of s c) c s else still s)
by_caller true e c s valid = at_place_steps e (place_of s c) c s valid
by_caller false e c s valid = still_steps s

pub lock_step : (s : State) (c : ℕ) (e : MutexEvent) → IsValid s → LockStep s.locked (next s c e).1 (next s c e).0.locked
lock_step s c e valid = by_caller (nat_lt c s.callers) e c s valid
