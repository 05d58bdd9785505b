-- An event moves callers as its answer says.
use Rattle.std.proofs.Common.{◌≡◌, ◌≢◌, ℕ, inl, inr, Bool, true, false, ◌||◌, List, [], ◌∷◌, ◌++◌, refl, ap, sym, ◌∙◌}
use Rattle.std.specs.Prelude.{nat_eq, nat_lt, ◌==◌, if◌then◌else◌}
use Rattle.std.specs.List.{list_any}
use Rattle.std.proofs.lemmas.Bool.{eqb-true, eq-eqb}
use Rattle.mutex_core.specs.declared.event.MutexEvent.{MutexEvent}
use Rattle.mutex_core.specs.declared.event.MutexEvent.TheVariants as event
use Rattle.mutex_core.specs.declared.place.Place.{Place}
use Rattle.mutex_core.specs.declared.place.Place.TheVariants as place
use Rattle.mutex_core.specs.declared.reply.MutexReply.{MutexReply}
use Rattle.mutex_core.specs.declared.reply.MutexReply.TheVariants.{Arrived, Tried, Unlocked, Resumed, Still}
use Rattle.mutex_core.specs.declared.reply.Arrival.TheVariants as arrival
use Rattle.mutex_core.specs.declared.reply.Resumption.TheVariants as resumption
use Rattle.mutex_core.specs.declared.reply.Unlocking.TheVariants as unlocking
use Rattle.mutex_core.specs.declared.waiter.Waiter.{Waiter}
use Rattle.mutex_core.specs.declared.waiter.Flight.{Flight}
use Rattle.mutex_core.specs.declared.waiter.Flight.TheVariants as flight
use Rattle.mutex_core.specs.MutexMachine.{State, is_waiter_of, place_in, place_by, place_of, arrived, tried, unlocked, resumed, still, at_place, next, IsValid}
use Rattle.mutex_core.specs.Starving.{is_starving}
use Rattle.mutex_core.specs.Moves.{place_after, tells}
use Rattle.mutex_core.proofs.Validity.{state}
use Rattle.mutex_core.proofs.Waiting.{callers_of, waiting-out}
use Rattle.mutex_core.proofs.Standing.{no, IsInFlight, first_by, absent-rest, in_place}

-- what an event of a caller does to the place of each
abbrev Moves : ℕ → State → State × MutexReply → Type 0
Moves by s step = (x : ℕ) → place_of step.0 x ≡ place_after x by (place_of s x) step.1

-- ---- a waiter more

any-push : (x : ℕ) (q : List Waiter) (w : Waiter) → list_any (is_waiter_of x) (q ++ w ∷ []) ≡ (list_any (is_waiter_of x) q || (x == w.caller))
any-push x [] w = or-last (x == w.caller)
  where
    or-last : (b : Bool) → (b || false) ≡ b
    or-last true = refl
    or-last false = refl
any-push x (y ∷ q) w = ap (λ (b : Bool). is_waiter_of x y || b) (any-push x q w) ∙ or-assoc (is_waiter_of x y) (list_any (is_waiter_of x) q) (x == w.caller)
  where
    or-assoc : (a b c : Bool) → (a || (b || c)) ≡ ((a || b) || c)
    or-assoc true b c = refl
    or-assoc false b c = refl

queued-by : (any here : Bool) → (if any || here then place.Waiting else place.Out) ≡ (if here then place.Waiting else (if any then place.Waiting else place.Out))
queued-by true true = refl
queued-by true false = refl
queued-by false true = refl
queued-by false false = refl

place_in-push : (x : ℕ) (q : List Waiter) (w : Waiter) → place_in (q ++ w ∷ []) x ≡ (if x == w.caller then place.Waiting else place_in q x)
place_in-push x q w = ap (λ (b : Bool). if b then place.Waiting else place.Out) (any-push x q w) ∙ queued-by (list_any (is_waiter_of x) q) (x == w.caller)

-- the first of those that wait isn't the new one
first-push : (x : ℕ) (p : Place) (first : ℕ) (q : List Waiter) (w : Waiter) → nat_eq w.caller first ≡ false
    → (if x == first then p else place_in (q ++ w ∷ []) x) ≡ (if x == w.caller then place.Waiting else (if x == first then p else place_in q x))
first-push x p first q w apart = by_test (x == first) (x == w.caller) refl refl
  where
    by_test : (here new : Bool) → (x == first) ≡ here → (x == w.caller) ≡ new
        → (if here then p else place_in (q ++ w ∷ []) x) ≡ (if new then place.Waiting else (if here then p else place_in q x))
    by_test true true is same = no (sym apart ∙ eq-eqb w.caller first (sym (eqb-true x w.caller same) ∙ eqb-true x first is))
    by_test true false is same = refl
    by_test false new is same = place_in-push x q w ∙ ap (λ (b : Bool). if b then place.Waiting else place_in q x) same

or-first : (a b : Bool) → (a || b) ≡ false → a ≡ false
or-first true b e = e
or-first false b e = refl

queued-moves : (n : ℕ) (l k v : Bool) (q : List Waiter) (f : Flight) (w : Waiter) → place_by f q w.caller ≡ place.Out → IsValid (state n l k v q f)
    → (x : ℕ) → place_by f (q ++ w ∷ []) x ≡ (if x == w.caller then place.Waiting else place_by f q x)
queued-moves n l k v q flight.Nobody w out h x = place_in-push x q w
queued-moves n l k v q (flight.Woken y) w out h x = first-push x place.Woken y.caller q w (or-first _ _ (waiting-out (flight.Woken y) q w.caller out))
queued-moves n l k true [] flight.Handed w out h x = no (h.contended refl)
queued-moves n l k false [] flight.Handed w out h x = no (sym h.handed)
queued-moves n l k v (y ∷ q) flight.Handed w out h x = first-push x place.Handed y.caller q w (or-first _ _ (waiting-out flight.Handed (y ∷ q) w.caller out))

arrived-moves : (n : ℕ) (l k v : Bool) (q : List Waiter) (f : Flight) (c now : ℕ) → place_by f q c ≡ place.Out → IsValid (state n l k v q f) → Moves c (state n l k v q f) (arrived (state n l k v q f) c now)
arrived-moves n false k false q f c now out h = λ x. refl
arrived-moves n true k v q f c now out h = queued-moves n true k v q f (record { caller = c; arrival = now; asked = false }) out h
arrived-moves n false k true q f c now out h = queued-moves n false k true q f (record { caller = c; arrival = now; asked = false }) out h

tried-moves : (n : ℕ) (l k v : Bool) (q : List Waiter) (f : Flight) (c : ℕ) → Moves c (state n l k v q f) (tried (state n l k v q f))
tried-moves n false k false q f c = λ x. refl
tried-moves n true k v q f c = λ x. refl
tried-moves n false k true q f c = λ x. refl

-- ---- the front waiter is told

told-by : (here any : Bool) (p : Place) → (if here then p else (if any then place.Waiting else place.Out)) ≡ (if here then p else (if here || any then place.Waiting else place.Out))
told-by true any p = refl
told-by false any p = refl

unlocked-moves : (n : ℕ) (l k v : Bool) (q : List Waiter) (f : Flight) (c : ℕ) → IsValid (state n l k v q f) → Moves c (state n l k v q f) (unlocked (state n l k v q f))
unlocked-moves n false k v q f c h = λ x. refl
unlocked-moves n true k true [] f c h = λ x. refl
unlocked-moves n true k false [] f c h = λ x. refl
unlocked-moves n true k true (w ∷ q) flight.Nobody c h = λ x. told-by (is_waiter_of x w) (list_any (is_waiter_of x) q) place.Handed
unlocked-moves n true k true (w ∷ q) (flight.Woken y) c h = no (cc (h.unwoken refl, h.woken))
unlocked-moves n true k true (w ∷ q) flight.Handed c h = no (cc h.handed)
unlocked-moves n true false false (w ∷ q) flight.Nobody c h = λ x. told-by (is_waiter_of x w) (list_any (is_waiter_of x) q) place.Woken
unlocked-moves n true false false (w ∷ q) (flight.Woken y) c h = no h.woken
unlocked-moves n true false false (w ∷ q) flight.Handed c h = no (cc h.handed)
unlocked-moves n true true false (w ∷ q) f c h = λ x. refl

-- ---- a waiter goes on

-- it is out, and nobody else moves
gone : (x c first : ℕ) (p : Place) (q : List Waiter) → c ≡ first → place_in q first ≡ place.Out → place_in q x ≡ (if x == c then place.Out else (if x == first then p else place_in q x))
gone x c first p q same out = by_test (x == c) refl
  where
    by_test : (b : Bool) → (x == c) ≡ b → place_in q x ≡ (if b then place.Out else (if x == first then p else place_in q x))
    by_test true is = ap (place_in q) (eqb-true x c is ∙ same) ∙ out
    by_test false is = sym (ap (λ (b : Bool). if b then p else place_in q x) (ap (λ (y : ℕ). x == y) (sym same) ∙ is))

-- it is queued again, and nobody else moves
back : (x c : ℕ) (w : Waiter) (asked : Bool) (q : List Waiter) → c ≡ w.caller
    → place_in (record w { asked = asked } ∷ q) x ≡ (if x == c then place.Waiting else (if is_waiter_of x w then place.Woken else place_in q x))
back x c w asked q same = by_test (is_waiter_of x w) refl
  where
    by_test : (b : Bool) → is_waiter_of x w ≡ b → (if b || list_any (is_waiter_of x) q then place.Waiting else place.Out) ≡ (if x == c then place.Waiting else (if b then place.Woken else place_in q x))
    by_test true is = sym (ap (λ (b : Bool). if b then place.Waiting else place.Woken) (ap (λ (y : ℕ). x == y) same ∙ is))
    by_test false is = sym (ap (λ (b : Bool). if b then place.Waiting else place_in q x) (ap (λ (y : ℕ). x == y) same ∙ is))

resumed-moves : (n : ℕ) (l k v : Bool) (q : List Waiter) (f : Flight) (c now : ℕ) → IsInFlight (place_by f q c) → IsValid (state n l k v q f) → Moves c (state n l k v q f) (resumed f q now (state n l k v q f))
resumed-moves n l k v q flight.Nobody c now at h = λ x. refl
resumed-moves n l k v [] flight.Handed c now at h = λ x. refl
resumed-moves n l k v (w ∷ q) flight.Handed c now at h =
    λ x. gone x c w.caller place.Handed q (first_by (is_waiter_of c w) place.Handed q c w.caller refl at) (in_place false q w.caller (absent-rest w.caller (callers_of q) h.apart))
resumed-moves n true k v q (flight.Woken w) c now at h =
    λ x. back x c w (is_starving w now) q (first_by (is_waiter_of c w) place.Woken q c w.caller refl at)
resumed-moves n false k v q (flight.Woken w) c now at h =
    λ x. gone x c w.caller place.Woken q (first_by (is_waiter_of c w) place.Woken q c w.caller refl at) (in_place false q w.caller (absent-rest w.caller (callers_of q) h.apart))

-- ---- any event

at_place-moves : (e : MutexEvent) (p : Place) (c : ℕ) (s : State) → place_of s c ≡ p → IsValid s → Moves c s (at_place e p c s)
at_place-moves (event.Arrive now) place.Out c s at h = arrived-moves s.callers s.locked s.woken s.starving s.queue s.flight c now at h
at_place-moves (event.Arrive now) _ c s at h = λ x. refl
at_place-moves event.Try place.Out c s at h = tried-moves s.callers s.locked s.woken s.starving s.queue s.flight c
at_place-moves event.Try _ c s at h = λ x. refl
at_place-moves event.Unlock _ c s at h = unlocked-moves s.callers s.locked s.woken s.starving s.queue s.flight c h
at_place-moves (event.Woken now) place.Woken c s at h = resumed-moves s.callers s.locked s.woken s.starving s.queue s.flight c now (inl at) h
at_place-moves (event.Woken now) place.Handed c s at h = resumed-moves s.callers s.locked s.woken s.starving s.queue s.flight c now (inr at) h
at_place-moves (event.Woken now) _ c s at h = λ x. refl

pub moves : (s : State) (c : ℕ) (e : MutexEvent) (x : ℕ) → IsValid s → place_of (next s c e).0 x ≡ place_after x c (place_of s x) (next s c e).1
moves s c e x h = by_test (nat_lt c s.callers) x
  where
    by_test : (b : Bool) → Moves c s (if b then at_place e (place_of s c) c s else still s)
    by_test true = at_place-moves e (place_of s c) c s refl h
    by_test false = λ x. refl

-- ---- whom an answer tells

-- only an unlock does, and one that waits in the queue
abbrev Tells : State → MutexEvent → State × MutexReply → Type 0
Tells s e step = (x : ℕ) → tells x step.1 ≡ true → (e ≡ event.Unlock) × (place_of s x ≡ place.Waiting)

front-waits : (x : ℕ) (w : Waiter) (q : List Waiter) → is_waiter_of x w ≡ true → place_in (w ∷ q) x ≡ place.Waiting
front-waits x w q is = ap (λ (b : Bool). if b || list_any (is_waiter_of x) q then place.Waiting else place.Out) is

arrived-tells : (n : ℕ) (l k v : Bool) (q : List Waiter) (f : Flight) (c now : ℕ) (e : MutexEvent) → Tells (state n l k v q f) e (arrived (state n l k v q f) c now)
arrived-tells n false k false q f c now e = λ x told. no told
arrived-tells n true k v q f c now e = λ x told. no told
arrived-tells n false k true q f c now e = λ x told. no told

tried-tells : (n : ℕ) (l k v : Bool) (q : List Waiter) (f : Flight) (e : MutexEvent) → Tells (state n l k v q f) e (tried (state n l k v q f))
tried-tells n false k false q f e = λ x told. no told
tried-tells n true k v q f e = λ x told. no told
tried-tells n false k true q f e = λ x told. no told

unlocked-tells : (n : ℕ) (l k v : Bool) (q : List Waiter) (f : Flight) → IsValid (state n l k v q f) → Tells (state n l k v q f) event.Unlock (unlocked (state n l k v q f))
unlocked-tells n false k v q f h = λ x told. no told
unlocked-tells n true k true [] f h = λ x told. no told
unlocked-tells n true k false [] f h = λ x told. no told
unlocked-tells n true k true (w ∷ q) flight.Nobody h = λ x told. (refl, front-waits x w q told)
unlocked-tells n true k true (w ∷ q) (flight.Woken y) h = no (cc (h.unwoken refl, h.woken))
unlocked-tells n true k true (w ∷ q) flight.Handed h = no (cc h.handed)
unlocked-tells n true false false (w ∷ q) flight.Nobody h = λ x told. (refl, front-waits x w q told)
unlocked-tells n true false false (w ∷ q) (flight.Woken y) h = no h.woken
unlocked-tells n true false false (w ∷ q) flight.Handed h = no (cc h.handed)
unlocked-tells n true true false (w ∷ q) f h = λ x told. no told

resumed-tells : (n : ℕ) (l k v : Bool) (q : List Waiter) (f : Flight) (now : ℕ) (e : MutexEvent) → Tells (state n l k v q f) e (resumed f q now (state n l k v q f))
resumed-tells n l k v q flight.Nobody now e = λ x told. no told
resumed-tells n l k v [] flight.Handed now e = λ x told. no told
resumed-tells n l k v (w ∷ q) flight.Handed now e = λ x told. no told
resumed-tells n true k v q (flight.Woken w) now e = λ x told. no told
resumed-tells n false k v q (flight.Woken w) now e = λ x told. no told

at_place-tells : (e : MutexEvent) (p : Place) (c : ℕ) (s : State) → IsValid s → Tells s e (at_place e p c s)
at_place-tells (event.Arrive now) place.Out c s h = arrived-tells s.callers s.locked s.woken s.starving s.queue s.flight c now (event.Arrive now)
at_place-tells (event.Arrive now) _ c s h = λ x told. no told
at_place-tells event.Try place.Out c s h = tried-tells s.callers s.locked s.woken s.starving s.queue s.flight event.Try
at_place-tells event.Try _ c s h = λ x told. no told
at_place-tells event.Unlock _ c s h = unlocked-tells s.callers s.locked s.woken s.starving s.queue s.flight h
at_place-tells (event.Woken now) place.Woken c s h = resumed-tells s.callers s.locked s.woken s.starving s.queue s.flight now (event.Woken now)
at_place-tells (event.Woken now) place.Handed c s h = resumed-tells s.callers s.locked s.woken s.starving s.queue s.flight now (event.Woken now)
at_place-tells (event.Woken now) _ c s h = λ x told. no told

pub tells_waiters : (s : State) (c : ℕ) (e : MutexEvent) (x : ℕ) → IsValid s → tells x (next s c e).1 ≡ true → (e ≡ event.Unlock) × (place_of s x ≡ place.Waiting)
tells_waiters s c e x h told = by_test (nat_lt c s.callers) x told
  where
    by_test : (b : Bool) → Tells s e (if b then at_place e (place_of s c) c s else still s)
    by_test true = at_place-tells e (place_of s c) c s h
    by_test false = λ x told. no told

-- ---- whom nobody tells

other_test : (x by : ℕ) → x ≢ by → (x == by) ≡ false
other_test x by apart = by_test (x == by) refl
  where
    by_test : (b : Bool) → (x == by) ≡ b → b ≡ false
    by_test true same = absurd (apart (eqb-true x by same))
    by_test false same = refl

place_other : (x by : ℕ) (p : Place) (r : MutexReply) → (x == by) ≡ false → tells x r ≡ false → place_after x by p r ≡ p
place_other x by p (Arrived arrival.Acquired) other told = refl
place_other x by p (Arrived (arrival.Queued ticket)) other told = ap (λ (b : Bool). if b then place.Waiting else p) other
place_other x by p (Tried taken) other told = refl
place_other x by p (Unlocked unlocking.Free) other told = refl
place_other x by p (Unlocked (unlocking.Woke ticket)) other told = ap (λ (b : Bool). if b then place.Woken else p) told
place_other x by p (Unlocked (unlocking.Handed ticket)) other told = ap (λ (b : Bool). if b then place.Handed else p) told
place_other x by p (Unlocked (unlocking.Misuse misuse)) other told = refl
place_other x by p (Resumed resumption.Acquired) other told = ap (λ (b : Bool). if b then place.Out else p) other
place_other x by p (Resumed resumption.Requeued) other told = ap (λ (b : Bool). if b then place.Waiting else p) other
place_other x by p Still other told = refl

pub unmoved : (s : State) (c : ℕ) (e : MutexEvent) (x : ℕ) → IsValid s → x ≢ c → tells x (next s c e).1 ≡ false → place_of (next s c e).0 x ≡ place_of s x
unmoved s c e x h apart told = moves s c e x h ∙ place_other x c (place_of s x) (next s c e).1 (other_test x c apart) told
