-- Acquires and releases take turns, since the mutex is locked exactly from an acquire to a release.
use Rattle.std.proofs.Common.{◌≡◌, ℕ, Bool, true, false, ◌&&◌, ◌||◌, List, [], ◌∷◌, ◌++◌, refl, subst, sym}
use Rattle.std.specs.Prelude.{nat_lt, not, IsTrue, IsFalse, if◌then◌else◌}
use Rattle.std.specs.List.{list_any}
use Rattle.std.proofs.lemmas.Bool.{false≢true}
use Rattle.sync_model.specs.Log.{Entry, Follows}
use Rattle.mutex_core.specs.declared.event.MutexEvent.{MutexEvent}
use Rattle.mutex_core.specs.declared.event.MutexEvent.TheVariants as event
use Rattle.mutex_core.specs.declared.place.Place.{Place}
use Rattle.mutex_core.specs.declared.place.Place.TheVariants as place
use Rattle.mutex_core.specs.declared.reply.MutexReply.{MutexReply}
use Rattle.mutex_core.specs.declared.waiter.Waiter.{Waiter}
use Rattle.mutex_core.specs.declared.waiter.Flight.{Flight}
use Rattle.mutex_core.specs.declared.waiter.Flight.TheVariants as flight
use Rattle.mutex_core.specs.MutexMachine.{State, start, place_of, arrived, tried, unlocked, resumed, still, at_place, next, IsValid}
use Rattle.mutex_core.specs.Edges.{Log, acquires, releases}
use Rattle.mutex_core.specs.Exclusion.{held_after, TakesTurns}
use Rattle.mutex_core.proofs.Validity.{state, next-valid, start-valid}

-- how an answer goes with the lock: where it was held before, and where it is after
record Moves (before : Bool) (step : State × MutexReply) : Type 0 where
  acquired : IsTrue (acquires step.1) → IsFalse before
  released : IsTrue (releases step.1) → IsTrue before
  held : step.0.locked ≡ held_after before step.1

no : {A : Type 0} → false ≡ true → A
no e = absurd (false≢true e)

arrived-moves : (n : ℕ) (l k v : Bool) (q : List Waiter) (f : Flight) (c now : ℕ) → Moves l (arrived (state n l k v q f) c now)
arrived-moves n false k false q f c now = record { acquired = λ _. refl; released = λ e. no e; held = refl }
arrived-moves n true k v q f c now = record { acquired = λ e. no e; released = λ e. no e; held = refl }
arrived-moves n false k true q f c now = record { acquired = λ e. no e; released = λ e. no e; held = refl }

tried-moves : (n : ℕ) (l k v : Bool) (q : List Waiter) (f : Flight) → Moves l (tried (state n l k v q f))
tried-moves n false k false q f = record { acquired = λ _. refl; released = λ e. no e; held = refl }
tried-moves n true k v q f = record { acquired = λ e. no e; released = λ e. no e; held = refl }
tried-moves n false k true q f = record { acquired = λ e. no e; released = λ e. no e; held = refl }

unlocked-moves : (n : ℕ) (l k v : Bool) (q : List Waiter) (f : Flight) → Moves l (unlocked (state n l k v q f))
unlocked-moves n false k v q f = record { acquired = λ e. no e; released = λ e. no e; held = refl }
unlocked-moves n true k v [] f = record { acquired = λ e. no e; released = λ _. refl; held = refl }
unlocked-moves n true k true (w ∷ q) f = record { acquired = λ e. no e; released = λ _. refl; held = refl }
unlocked-moves n true true false (w ∷ q) f = record { acquired = λ e. no e; released = λ _. refl; held = refl }
unlocked-moves n true false false (w ∷ q) f = record { acquired = λ e. no e; released = λ _. refl; held = refl }

still-moves : (s : State) → Moves s.locked (still s)
still-moves s = record { acquired = λ e. no e; released = λ e. no e; held = refl }

-- a handed waiter finds the mutex unlocked
unlocked_for : (v l : Bool) → true ≡ (v && not l) → l ≡ false
unlocked_for true false e = refl
unlocked_for true true e = no (sym e)
unlocked_for false l e = no (sym e)

resumed-moves : (n : ℕ) (l k v : Bool) (q : List Waiter) (f : Flight) (now : ℕ) → IsValid (state n l k v q f) → Moves l (resumed f q now (state n l k v q f))
resumed-moves n l k v q flight.Nobody now h = still-moves (state n l k v q flight.Nobody)
resumed-moves n l k v [] flight.Handed now h = still-moves (state n l k v [] flight.Handed)
resumed-moves n l k v (w ∷ q) flight.Handed now h = record { acquired = λ _. unlocked_for v l h.handed; released = λ e. no e; held = refl }
resumed-moves n true k v q (flight.Woken w) now h = record { acquired = λ e. no e; released = λ e. no e; held = refl }
resumed-moves n false k v q (flight.Woken w) now h = record { acquired = λ _. refl; released = λ e. no e; held = refl }

at_place-moves : (e : MutexEvent) (p : Place) (c : ℕ) (s : State) → IsValid s → Moves s.locked (at_place e p c s)
at_place-moves (event.Arrive now) place.Out c s h = arrived-moves s.callers s.locked s.woken s.starving s.queue s.flight c now
at_place-moves (event.Arrive now) _ c s h = still-moves s
at_place-moves event.Try place.Out c s h = tried-moves s.callers s.locked s.woken s.starving s.queue s.flight
at_place-moves event.Try _ c s h = still-moves s
at_place-moves event.Unlock _ c s h = unlocked-moves s.callers s.locked s.woken s.starving s.queue s.flight
at_place-moves (event.Woken now) place.Woken c s h = resumed-moves s.callers s.locked s.woken s.starving s.queue s.flight now h
at_place-moves (event.Woken now) place.Handed c s h = resumed-moves s.callers s.locked s.woken s.starving s.queue s.flight now h
at_place-moves (event.Woken now) _ c s h = still-moves s

next-moves : (s : State) (c : ℕ) (e : MutexEvent) → IsValid s → Moves s.locked (next s c e)
next-moves s c e h = by_test (nat_lt c s.callers)
  where
    by_test : (b : Bool) → Moves s.locked (if b then at_place e (place_of s c) c s else still s)
    by_test true = at_place-moves e (place_of s c) c s h
    by_test false = still-moves s

-- from a valid state on, locked or not
pub turns-from : (s : State) (log : Log) → IsValid s → Follows next s log → TakesTurns s.locked log
turns-from s [] h follows = tt
turns-from s (entry ∷ log) h follows =
    let moves = next-moves s entry.caller entry.event h in
    let later = turns-from (next s entry.caller entry.event).0 log (next-valid s entry.caller entry.event h) follows.1 in
    let P : MutexReply → Type 0 = λ reply.
    (IsTrue (acquires reply) → IsFalse s.locked) × (IsTrue (releases reply) → IsTrue s.locked) × TakesTurns (held_after s.locked reply) log in
    subst P follows.0 (moves.acquired, moves.released, subst (λ held. TakesTurns held log) moves.held later)

pub turns : (callers : ℕ) (log : Log) → Follows next (start callers) log → TakesTurns false log
turns callers log follows = turns-from (start callers) log (start-valid callers) follows

-- once the mutex is held, it is released before it is acquired
released_before : (between later : Log) (second : Entry MutexEvent MutexReply) → TakesTurns true (between ++ second ∷ later) → acquires second.reply ≡ true → list_any (λ entry. releases entry.reply) between ≡ true
released_before [] later second turns acquired = no (sym (turns.0 acquired))
released_before (entry ∷ between) later second turns acquired = by_answer (acquires entry.reply) (releases entry.reply) turns.0 (λ t. released_before between later second t acquired) turns.2
  where
    by_answer : (a r : Bool) → (a ≡ true → true ≡ false) → (TakesTurns true (between ++ second ∷ later) → list_any (λ e. releases e.reply) between ≡ true) → TakesTurns (if a then true else if r then false else true) (between ++ second ∷ later) → (r || list_any (λ e. releases e.reply) between) ≡ true
    by_answer true r never later_on t = no (sym (never refl))
    by_answer false true never later_on t = refl
    by_answer false false never later_on t = later_on t

-- the same past what was before
pub released_between : (held : Bool) (earlier between later : Log) (first second : Entry MutexEvent MutexReply) → TakesTurns held (earlier ++ first ∷ (between ++ second ∷ later)) → acquires first.reply ≡ true → acquires second.reply ≡ true → list_any (λ entry. releases entry.reply) between ≡ true
released_between held [] between later first second turns first_acquires second_acquires =
    released_before between later second (subst (λ a. TakesTurns (if a then true else if releases first.reply then false else held) (between ++ second ∷ later)) first_acquires turns.2) second_acquires
released_between held (entry ∷ earlier) between later first second turns first_acquires second_acquires =
    released_between (held_after held entry.reply) earlier between later first second turns.2 first_acquires second_acquires
