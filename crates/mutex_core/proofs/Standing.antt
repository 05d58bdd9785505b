-- A caller's own answers say whether it waits.
use Rattle.std.proofs.Common.{◌≡◌, ℕ, ◌⊎◌, inl, inr, Bool, true, false, ◌||◌, ◌&&◌, List, [], ◌∷◌, ◌++◌, refl, ap, sym, subst, ◌∙◌}
use Rattle.std.specs.Prelude.{nat_eq, nat_lt, ◌==◌, if◌then◌else◌}
use Rattle.std.specs.List.{list_any, IsDistinct, AllByRecursion}
use Rattle.std.proofs.lemmas.Bool.{false≢true, eqb-true, eq-eqb}
use Rattle.sync_model.specs.Log.{after, Follows}
use Rattle.mutex_core.specs.declared.event.MutexEvent.{MutexEvent}
use Rattle.mutex_core.specs.declared.event.MutexEvent.TheVariants as event
use Rattle.mutex_core.specs.declared.place.Place.{Place}
use Rattle.mutex_core.specs.declared.place.Place.TheVariants as place
use Rattle.mutex_core.specs.declared.reply.MutexReply.{MutexReply}
use Rattle.mutex_core.specs.declared.reply.MutexReply.TheVariants.{Arrived, Tried, Unlocked, Resumed, Still}
use Rattle.mutex_core.specs.declared.reply.Arrival.TheVariants as arrival
use Rattle.mutex_core.specs.declared.reply.Resumption.TheVariants as resumption
use Rattle.mutex_core.specs.declared.waiter.Waiter.{Waiter}
use Rattle.mutex_core.specs.declared.waiter.Flight.{Flight}
use Rattle.mutex_core.specs.declared.waiter.Flight.TheVariants as flight
use Rattle.mutex_core.specs.MutexMachine.{State, start, is_waiter_of, place_in, place_by, place_of, arrived, tried, unlocked, resumed, still, at_place, next, is_needed, may_make, waiting_by, IsValid}
use Rattle.mutex_core.specs.Edges.{Log}
use Rattle.mutex_core.specs.Standing.{is_answer, waits_after, is_waiting}
use Rattle.mutex_core.proofs.Validity.{state, next-valid, start-valid}
use Rattle.mutex_core.proofs.Waiting.{callers_of, waiting_by-push, list_any-callers_of}

pub no : {A : Type 0} → false ≡ true → A
no e = absurd (false≢true e)

-- those that wait
abbrev pub waiting : State → List ℕ
waiting s = waiting_by s.flight s.queue

-- what a caller's answer does to those that wait
abbrev Shifts : ℕ → MutexReply → List ℕ → List ℕ → Type 0
Shifts caller (Arrived arrival.Acquired) old new = new ≡ old
Shifts caller (Arrived (arrival.Queued _)) old new = new ≡ old ++ caller ∷ []
Shifts caller (Tried _) old new = new ≡ old
Shifts caller (Unlocked _) old new = new ≡ old
Shifts caller (Resumed resumption.Acquired) old new = old ≡ caller ∷ new
Shifts caller (Resumed resumption.Requeued) old new = new ≡ old
Shifts caller Still old new = new ≡ old

abbrev ShiftsBy : ℕ → State → State × MutexReply → Type 0
ShiftsBy caller s step = Shifts caller step.1 (waiting s) (waiting step.0)

arrived-shifts : (n : ℕ) (l k v : Bool) (q : List Waiter) (f : Flight) (c now : ℕ) → ShiftsBy c (state n l k v q f) (arrived (state n l k v q f) c now)
arrived-shifts n false k false q f c now = refl
arrived-shifts n true k v q f c now = waiting_by-push f q (record { caller = c; arrival = now; asked = false })
arrived-shifts n false k true q f c now = waiting_by-push f q (record { caller = c; arrival = now; asked = false })

tried-shifts : (n : ℕ) (l k v : Bool) (q : List Waiter) (f : Flight) (c : ℕ) → ShiftsBy c (state n l k v q f) (tried (state n l k v q f))
tried-shifts n false k false q f c = refl
tried-shifts n true k v q f c = refl
tried-shifts n false k true q f c = refl

unlocked-shifts : (n : ℕ) (l k v : Bool) (q : List Waiter) (f : Flight) (c : ℕ) → IsValid (state n l k v q f) → ShiftsBy c (state n l k v q f) (unlocked (state n l k v q f))
unlocked-shifts n false k v q f c h = refl
unlocked-shifts n true k true [] f c h = refl
unlocked-shifts n true k false [] f c h = refl
unlocked-shifts n true k true (w ∷ q) flight.Nobody c h = refl
unlocked-shifts n true k true (w ∷ q) (flight.Woken x) c h = no (cc (h.unwoken refl, h.woken))
unlocked-shifts n true k true (w ∷ q) flight.Handed c h = refl
unlocked-shifts n true false false (w ∷ q) flight.Nobody c h = refl
unlocked-shifts n true false false (w ∷ q) (flight.Woken x) c h = no h.woken
unlocked-shifts n true false false (w ∷ q) flight.Handed c h = no (cc h.handed)
unlocked-shifts n true true false (w ∷ q) f c h = refl

-- the place of a waiter that goes on
abbrev pub IsInFlight : Place → Type 0
IsInFlight p = (p ≡ place.Woken) ⊎ (p ≡ place.Handed)

not_queued : (q : List Waiter) (c : ℕ) → IsInFlight (place_in q c) → ⊥
not_queued q c at = by_test (list_any (is_waiter_of c) q) at
  where
    by_test : (b : Bool) → IsInFlight (if b then place.Waiting else place.Out) → ⊥
    by_test true (inl e) = cc
    by_test true (inr e) = cc
    by_test false (inl e) = cc
    by_test false (inr e) = cc

-- who goes on is the first of those that wait
pub first_by : (b : Bool) (p : Place) (q : List Waiter) (c d : ℕ) → (c == d) ≡ b → IsInFlight (if b then p else place_in q c) → c ≡ d
first_by true p q c d same at = eqb-true c d same
first_by false p q c d same at = absurd (not_queued q c at)

resumed-shifts : (n : ℕ) (l k v : Bool) (q : List Waiter) (f : Flight) (c now : ℕ) → IsInFlight (place_by f q c) → ShiftsBy c (state n l k v q f) (resumed f q now (state n l k v q f))
resumed-shifts n l k v q flight.Nobody c now at = refl
resumed-shifts n l k v [] flight.Handed c now at = refl
resumed-shifts n l k v (w ∷ q) flight.Handed c now at =
    ap (λ (x : ℕ). x ∷ callers_of q) (sym (first_by (is_waiter_of c w) place.Handed q c w.caller refl at))
resumed-shifts n true k v q (flight.Woken w) c now at = refl
resumed-shifts n false k v q (flight.Woken w) c now at =
    ap (λ (x : ℕ). x ∷ callers_of q) (sym (first_by (is_waiter_of c w) place.Woken q c w.caller refl at))

at_place-shifts : (e : MutexEvent) (p : Place) (c : ℕ) (s : State) → place_of s c ≡ p → IsValid s → ShiftsBy c s (at_place e p c s)
at_place-shifts (event.Arrive now) place.Out c s at h = arrived-shifts s.callers s.locked s.woken s.starving s.queue s.flight c now
at_place-shifts (event.Arrive now) _ c s at h = refl
at_place-shifts event.Try place.Out c s at h = tried-shifts s.callers s.locked s.woken s.starving s.queue s.flight c
at_place-shifts event.Try _ c s at h = refl
at_place-shifts event.Unlock _ c s at h = unlocked-shifts s.callers s.locked s.woken s.starving s.queue s.flight c h
at_place-shifts (event.Woken now) place.Woken c s at h = resumed-shifts s.callers s.locked s.woken s.starving s.queue s.flight c now (inl at)
at_place-shifts (event.Woken now) place.Handed c s at h = resumed-shifts s.callers s.locked s.woken s.starving s.queue s.flight c now (inr at)
at_place-shifts (event.Woken now) _ c s at h = refl

next-shifts : (s : State) (c : ℕ) (e : MutexEvent) → IsValid s → ShiftsBy c s (next s c e)
next-shifts s c e h = by_test (nat_lt c s.callers)
  where
    by_test : (b : Bool) → ShiftsBy c s (if b then at_place e (place_of s c) c s else still s)
    by_test true = at_place-shifts e (place_of s c) c s refl h
    by_test false = refl

-- whether a caller is among those that wait
abbrev Among : ℕ → List ℕ → Bool
Among c xs = list_any (nat_eq c) xs

among-push : (c d : ℕ) (xs : List ℕ) → nat_eq c d ≡ false → Among c (xs ++ d ∷ []) ≡ Among c xs
among-push c d [] other = rw other refl
among-push c d (x ∷ xs) other = ap (λ (b : Bool). nat_eq c x || b) (among-push c d xs other)

among-pushed : (c : ℕ) (xs : List ℕ) → Among c (xs ++ c ∷ []) ≡ true
among-pushed c [] = rw (eq-eqb c c refl) refl
among-pushed c (x ∷ xs) = ap (λ (b : Bool). nat_eq c x || b) (among-pushed c xs) ∙ or-true (nat_eq c x)
  where
    or-true : (b : Bool) → (b || true) ≡ true
    or-true true = refl
    or-true false = refl

apart-absent : (c : ℕ) (xs : List ℕ) → AllByRecursion (λ y. nat_eq c y ≡ false) xs → Among c xs ≡ false
apart-absent c [] apart = refl
apart-absent c (x ∷ xs) apart = rw (apart.0, apart-absent c xs apart.1) refl

pub absent-rest : (c : ℕ) (xs : List ℕ) → IsDistinct nat_eq (c ∷ xs) → Among c xs ≡ false
unfolding IsDistinct
absent-rest c xs apart = apart-absent c xs apart.0

other-way : (c d : ℕ) → (d == c) ≡ false → nat_eq c d ≡ false
other-way c d other = by_test (nat_eq c d) refl
  where
    by_test : (b : Bool) → nat_eq c d ≡ b → b ≡ false
    by_test true same = no (sym other ∙ eq-eqb d c (sym (eqb-true c d same)))
    by_test false same = refl

-- after its own answer
own-among : (c : ℕ) (r : MutexReply) (old new : List ℕ) (w : Bool) → Shifts c r old new → IsDistinct nat_eq old → Among c old ≡ w → Among c new ≡ waits_after w r
own-among c (Arrived arrival.Acquired) old new w shifts apart is = ap (Among c) shifts ∙ is
own-among c (Arrived (arrival.Queued _)) old new w shifts apart is = ap (Among c) shifts ∙ among-pushed c old
own-among c (Tried _) old new w shifts apart is = ap (Among c) shifts ∙ is
own-among c (Unlocked _) old new w shifts apart is = ap (Among c) shifts ∙ is
own-among c (Resumed resumption.Acquired) old new w shifts apart is = absent-rest c new (subst (IsDistinct nat_eq) shifts apart)
own-among c (Resumed resumption.Requeued) old new w shifts apart is = ap (Among c) shifts ∙ is
own-among c Still old new w shifts apart is = ap (Among c) shifts ∙ is

-- after another caller's answer
other-among : (c d : ℕ) (r : MutexReply) (old new : List ℕ) → Shifts d r old new → nat_eq c d ≡ false → Among c new ≡ Among c old
other-among c d (Arrived arrival.Acquired) old new shifts other = ap (Among c) shifts
other-among c d (Arrived (arrival.Queued _)) old new shifts other = ap (Among c) shifts ∙ among-push c d old other
other-among c d (Tried _) old new shifts other = ap (Among c) shifts
other-among c d (Unlocked _) old new shifts other = ap (Among c) shifts
other-among c d (Resumed resumption.Acquired) old new shifts other = sym (ap (Among c) shifts ∙ ap (λ (b : Bool). b || Among c new) other)
other-among c d (Resumed resumption.Requeued) old new shifts other = ap (Among c) shifts
other-among c d Still old new shifts other = ap (Among c) shifts

-- whoever was answered
step-among : (c d : ℕ) (r : MutexReply) (old new : List ℕ) (w : Bool) → Shifts d r old new → IsDistinct nat_eq old → Among c old ≡ w → Among c new ≡ (if d == c then waits_after w r else w)
step-among c d r old new w shifts apart is = by_test (d == c) refl
  where
    by_test : (b : Bool) → (d == c) ≡ b → Among c new ≡ (if b then waits_after w r else w)
    by_test true same = own-among c r old new w (subst (λ (x : ℕ). Shifts x r old new) (eqb-true d c same) shifts) apart is
    by_test false other = other-among c d r old new shifts (other-way c d other) ∙ is

after-among : (s : State) (c : ℕ) (w : Bool) (log : Log) → IsValid s → Among c (waiting s) ≡ w → Follows next s log → Among c (waiting (after next s log)) ≡ is_waiting w c log
after-among s c w [] h is follows = is
after-among s c w (entry ∷ log) h is follows =
    let t = next s entry.caller entry.event in
    after-among t.0 c (if entry.caller == c then waits_after w entry.reply else w) log (next-valid s entry.caller entry.event h)
    (step-among c entry.caller entry.reply (waiting s) (waiting t.0) w (subst (λ (r : MutexReply). Shifts entry.caller r (waiting s) (waiting t.0)) follows.0 (next-shifts s entry.caller entry.event h)) h.apart is)
    follows.1

-- a caller's place in the queue
pub in_place : (b : Bool) (q : List Waiter) (c : ℕ) → Among c (callers_of q) ≡ b → place_in q c ≡ (if b then place.Waiting else place.Out)
in_place b q c is = ap (λ (x : Bool). if x then place.Waiting else place.Out) (sym (list_any-callers_of c q) ∙ is)

or-parts : (a b : Bool) → (a || b) ≡ false → (a ≡ false) × (b ≡ false)
or-parts true b e = no (sym e)
or-parts false b e = (refl, e)

-- who isn't among those that wait is out
absent-out : (f : Flight) (q : List Waiter) (c : ℕ) → Among c (waiting_by f q) ≡ false → place_by f q c ≡ place.Out
absent-out flight.Nobody q c out = in_place false q c out
absent-out (flight.Woken w) q c out = let parts = or-parts (is_waiter_of c w) _ out in rw (parts.0, in_place false q c parts.1) refl
absent-out flight.Handed [] c out = refl
absent-out flight.Handed (w ∷ q) c out = let parts = or-parts (is_waiter_of c w) _ out in rw (parts.0, in_place false q c parts.1) refl

-- who is among them is elsewhere
abbrev IsElsewhere : Place → Type 0
IsElsewhere p = p ≡ place.Out → ⊥

queued-elsewhere : (q : List Waiter) (c : ℕ) → Among c (callers_of q) ≡ true → IsElsewhere (place_in q c)
queued-elsewhere q c among = subst IsElsewhere (sym (in_place true q c among)) (λ e. cc)

first-elsewhere : (p : Place) (b : Bool) (q : List Waiter) (c : ℕ) → IsElsewhere p → (b || Among c (callers_of q)) ≡ true → IsElsewhere (if b then p else place_in q c)
first-elsewhere p true q c is among = is
first-elsewhere p false q c is among = queued-elsewhere q c among

among-elsewhere : (f : Flight) (q : List Waiter) (c : ℕ) → Among c (waiting_by f q) ≡ true → IsElsewhere (place_by f q c)
among-elsewhere flight.Nobody q c among = queued-elsewhere q c among
among-elsewhere (flight.Woken w) q c among = first-elsewhere place.Woken (is_waiter_of c w) q c (λ e. cc) among
among-elsewhere flight.Handed [] c among = no among
among-elsewhere flight.Handed (w ∷ q) c among = first-elsewhere place.Handed (is_waiter_of c w) q c (λ e. cc) among

-- whether a caller is among those that wait is what its own answers say
among_by_answers : (callers : ℕ) (log : Log) (caller : ℕ) → Follows next (start callers) log → Among caller (waiting (after next (start callers) log)) ≡ is_waiting false caller log
among_by_answers callers log caller = after-among (start callers) caller false log (start-valid callers) refl

pub stands : (callers : ℕ) (log : Log) (caller : ℕ) → Follows next (start callers) log → is_waiting false caller log ≡ false → place_of (after next (start callers) log) caller ≡ place.Out
stands callers log caller follows is =
    let s = after next (start callers) log in absent-out s.flight s.queue caller (among_by_answers callers log caller follows ∙ is)

pub waits : (callers : ℕ) (log : Log) (caller : ℕ) → Follows next (start callers) log → is_waiting false caller log ≡ true → place_of (after next (start callers) log) caller ≡ place.Out → ⊥
waits callers log caller follows is =
    let s = after next (start callers) log in among-elsewhere s.flight s.queue caller (among_by_answers callers log caller follows ∙ is)

-- the answers to an event
arrived-answer : (n : ℕ) (l k v : Bool) (q : List Waiter) (f : Flight) (c now : ℕ) → is_answer (event.Arrive now) (arrived (state n l k v q f) c now).1 ≡ true
arrived-answer n false k false q f c now = refl
arrived-answer n true k v q f c now = refl
arrived-answer n false k true q f c now = refl

tried-answer : (n : ℕ) (l k v : Bool) (q : List Waiter) (f : Flight) → is_answer event.Try (tried (state n l k v q f)).1 ≡ true
tried-answer n false k false q f = refl
tried-answer n true k v q f = refl
tried-answer n false k true q f = refl

unlocked-answer : (n : ℕ) (l k v : Bool) (q : List Waiter) (f : Flight) → is_answer event.Unlock (unlocked (state n l k v q f)).1 ≡ true
unlocked-answer n false k v q f = refl
unlocked-answer n true k v [] f = refl
unlocked-answer n true k true (w ∷ q) f = refl
unlocked-answer n true true false (w ∷ q) f = refl
unlocked-answer n true false false (w ∷ q) f = refl

resumed-answer : (n : ℕ) (l k v : Bool) (q : List Waiter) (f : Flight) (c now : ℕ) → IsInFlight (place_by f q c) → is_answer (event.Woken now) (resumed f q now (state n l k v q f)).1 ≡ true
resumed-answer n l k v q flight.Nobody c now at = absurd (not_queued q c at)
resumed-answer n l k v [] flight.Handed c now (inl e) = cc
resumed-answer n l k v [] flight.Handed c now (inr e) = cc
resumed-answer n l k v (w ∷ q) flight.Handed c now at = refl
resumed-answer n true k v q (flight.Woken w) c now at = refl
resumed-answer n false k v q (flight.Woken w) c now at = refl

at_place-answer : (e : MutexEvent) (p : Place) (c : ℕ) (s : State) → place_of s c ≡ p → is_needed e p ≡ true → is_answer e (at_place e p c s).1 ≡ true
at_place-answer (event.Arrive now) place.Out c s at needed = arrived-answer s.callers s.locked s.woken s.starving s.queue s.flight c now
at_place-answer (event.Arrive now) _ c s at needed = no needed
at_place-answer event.Try place.Out c s at needed = tried-answer s.callers s.locked s.woken s.starving s.queue s.flight
at_place-answer event.Try _ c s at needed = no needed
at_place-answer event.Unlock _ c s at needed = unlocked-answer s.callers s.locked s.woken s.starving s.queue s.flight
at_place-answer (event.Woken now) place.Woken c s at needed = resumed-answer s.callers s.locked s.woken s.starving s.queue s.flight c now (inl at)
at_place-answer (event.Woken now) place.Handed c s at needed = resumed-answer s.callers s.locked s.woken s.starving s.queue s.flight c now (inr at)
at_place-answer (event.Woken now) _ c s at needed = no needed

pub answers : (s : State) (c : ℕ) (e : MutexEvent) → may_make s c e ≡ true → is_answer e (next s c e).1 ≡ true
answers s c e may = by_test (nat_lt c s.callers) may
  where
    by_test : (b : Bool) → (b && is_needed e (place_of s c)) ≡ true → is_answer e (if b then at_place e (place_of s c) c s else still s).1 ≡ true
    by_test true may = at_place-answer e (place_of s c) c s refl may
    by_test false may = no may

at_place-still : (e : MutexEvent) (p : Place) (c : ℕ) (s : State) → is_needed e p ≡ false → at_place e p c s ≡ still s
at_place-still (event.Arrive now) place.Out c s needed = no (sym needed)
at_place-still (event.Arrive now) _ c s needed = refl
at_place-still event.Try place.Out c s needed = no (sym needed)
at_place-still event.Try _ c s needed = refl
at_place-still event.Unlock _ c s needed = no (sym needed)
at_place-still (event.Woken now) place.Woken c s needed = no (sym needed)
at_place-still (event.Woken now) place.Handed c s needed = no (sym needed)
at_place-still (event.Woken now) _ c s needed = refl

pub stays : (s : State) (c : ℕ) (e : MutexEvent) → may_make s c e ≡ false → next s c e ≡ still s
stays s c e may = by_test (nat_lt c s.callers) may
  where
    by_test : (b : Bool) → (b && is_needed e (place_of s c)) ≡ false → (if b then at_place e (place_of s c) c s else still s) ≡ still s
    by_test true may = at_place-still e (place_of s c) c s may
    by_test false may = refl

-- `Still` is no answer
still-answers-nothing : (e : MutexEvent) → is_answer e Still ≡ false
still-answers-nothing (event.Arrive now) = refl
still-answers-nothing event.Try = refl
still-answers-nothing event.Unlock = refl
still-answers-nothing (event.Woken now) = refl

-- so an event that its caller may make isn't answered so
pub made : (s : State) (c : ℕ) (e : MutexEvent) → may_make s c e ≡ true → (next s c e).1 ≡ Still → ⊥
made s c e may is = no (sym (still-answers-nothing e) ∙ subst (λ (r : MutexReply). is_answer e r ≡ true) is (answers s c e may))
