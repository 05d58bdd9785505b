-- A starving mutex goes to the first waiter of its queue.
use Rattle.std.proofs.Common.{◌≡◌, ℕ, ◌<◌, Bool, true, false, List, [], ◌∷◌, refl, ap, subst, sym, ◌∙◌, lt-ltb}
use Rattle.std.specs.Prelude.{nat_lt, IsFalse, if◌then◌else◌}
use Rattle.std.specs.Bool.{MatchBool}
use Rattle.std.specs.List.{list_any}
use Rattle.std.proofs.lemmas.Bool.{false≢true, eqb-true}
use Rattle.sync_model.specs.Log.{Entry, after, Follows}
use Rattle.mutex_core.specs.declared.event.MutexEvent.{MutexEvent}
use Rattle.mutex_core.specs.declared.event.MutexEvent.TheVariants as event
use Rattle.mutex_core.specs.declared.place.Place.{Place}
use Rattle.mutex_core.specs.declared.place.Place.TheVariants as place
use Rattle.mutex_core.specs.declared.reply.MutexReply.{MutexReply}
use Rattle.mutex_core.specs.declared.reply.MutexReply.TheVariants.{Resumed}
use Rattle.mutex_core.specs.declared.reply.Resumption.TheVariants.{Acquired}
use Rattle.mutex_core.specs.declared.waiter.Waiter.{Waiter}
use Rattle.mutex_core.specs.declared.waiter.Flight.{Flight}
use Rattle.mutex_core.specs.declared.waiter.Flight.TheVariants as flight
use Rattle.mutex_core.specs.MutexMachine.{State, start, is_waiter_of, place_in, place_of, unlocked, still, at_place, next, IsValid}
use Rattle.mutex_core.specs.Edges.{Log, acquires}
use Rattle.mutex_core.specs.HandOff.{goes_on, GoesTo, HandsOff}
use Rattle.mutex_core.proofs.Validity.{state, start-valid, after-valid, callers-after, unlocked-valid}

-- the state in which the mutex is kept for the first waiter
abbrev pub kept : ℕ → Waiter → List Waiter → State
kept n w q = state n false false true (w ∷ q) flight.Handed

-- a step that nobody acquires by, and that keeps the mutex for the waiter
record Keeps (n : ℕ) (w : Waiter) (step : State × MutexReply) : Type 0 where
  unacquired : acquires step.1 ≡ false
  queue : List Waiter
  still_kept : step.0 ≡ kept n w queue

still-keeps : (n : ℕ) (w : Waiter) (q : List Waiter) → Keeps n w (still (kept n w q))
still-keeps n w q = record { unacquired = refl; queue = q; still_kept = refl }

arrive-keeps : (n : ℕ) (w : Waiter) (q : List Waiter) (now : ℕ) (p : Place) (c : ℕ) → Keeps n w (at_place (event.Arrive now) p c (kept n w q))
arrive-keeps n w q now place.Out c = record { unacquired = refl; queue = _; still_kept = refl }
arrive-keeps n w q now _ c = still-keeps n w q

try-keeps : (n : ℕ) (w : Waiter) (q : List Waiter) (p : Place) (c : ℕ) → Keeps n w (at_place event.Try p c (kept n w q))
try-keeps n w q place.Out c = record { unacquired = refl; queue = q; still_kept = refl }
try-keeps n w q _ c = still-keeps n w q

-- a caller behind the first waiter has nothing to go on with
woken-keeps : (n : ℕ) (w : Waiter) (q : List Waiter) (now c : ℕ) (queued : Bool) → Keeps n w (at_place (event.Woken now) (if queued then place.Waiting else place.Out) c (kept n w q))
woken-keeps n w q now c true = still-keeps n w q
woken-keeps n w q now c false = still-keeps n w q

at_place-keeps : (n : ℕ) (w : Waiter) (q : List Waiter) (c : ℕ) (e : MutexEvent) → goes_on w.caller c e ≡ false → Keeps n w (at_place e (place_of (kept n w q) c) c (kept n w q))
at_place-keeps n w q c (event.Arrive now) other = arrive-keeps n w q now (place_of (kept n w q) c) c
at_place-keeps n w q c event.Try other = try-keeps n w q (place_of (kept n w q) c) c
at_place-keeps n w q c event.Unlock other = record { unacquired = refl; queue = q; still_kept = refl }
at_place-keeps n w q c (event.Woken now) other =
    let P : Bool → Type 0 = λ first. Keeps n w (at_place (event.Woken now) (if first then place.Handed else place_in q c) c (kept n w q)) in
    subst P (sym other) (woken-keeps n w q now c (list_any (is_waiter_of c) q))

next-keeps : (n : ℕ) (w : Waiter) (q : List Waiter) (c : ℕ) (e : MutexEvent) → goes_on w.caller c e ≡ false → Keeps n w (next (kept n w q) c e)
next-keeps n w q c e other = by_test (nat_lt c n)
  where
    by_test : (b : Bool) → Keeps n w (if b then at_place e (place_of (kept n w q) c) c (kept n w q) else still (kept n w q))
    by_test true = at_place-keeps n w q c e other
    by_test false = still-keeps n w q

-- the waiter's own event
next-gives : (n : ℕ) (w : Waiter) (q : List Waiter) (c : ℕ) (e : MutexEvent) → w.caller < n → goes_on w.caller c e ≡ true → (next (kept n w q) c e).1 ≡ Resumed Acquired
next-gives n w q c (event.Woken now) below own =
    let same : c ≡ w.caller = eqb-true c w.caller own in
    let first : is_waiter_of c w ≡ true = own in
    let here : nat_lt c n ≡ true = lt-ltb c n (subst (λ x. x < n) (sym same) below) in
    rw (here, first) refl
next-gives n w q c (event.Arrive now) below own = absurd (false≢true own)
next-gives n w q c event.Try below own = absurd (false≢true own)
next-gives n w q c event.Unlock below own = absurd (false≢true own)

goes_to-kept : (n : ℕ) (w : Waiter) (q : List Waiter) (log : Log) → w.caller < n → Follows next (kept n w q) log → GoesTo w.caller log
goes_to-kept n w q [] below follows = tt
goes_to-kept n w q (entry ∷ log) below follows =
    by_test (goes_on w.caller entry.caller entry.event) refl (λ queue. goes_to-kept n w queue log below)
  where
    by_test : (b : Bool) → goes_on w.caller entry.caller entry.event ≡ b → ((queue : List Waiter) → Follows next (kept n w queue) log → GoesTo w.caller log) → MatchBool b (entry.reply ≡ Resumed Acquired) (IsFalse (acquires entry.reply) × GoesTo w.caller log)
    by_test true own later = sym follows.0 ∙ next-gives n w q entry.caller entry.event below own
    by_test false other later =
        let keeps = next-keeps n w q entry.caller entry.event other in
        (ap acquires (sym follows.0) ∙ keeps.unacquired, later keeps.queue (subst (λ s. Follows next s log) keeps.still_kept follows.1))

-- an unlock of a locked mutex in starvation mode
released-hands_off : (n : ℕ) (l k v : Bool) (q : List Waiter) (f : Flight) (reply : MutexReply) (later : Log) → IsValid (state n l k v q f) → l ≡ true → v ≡ true → (unlocked (state n l k v q f)).1 ≡ reply → Follows next (unlocked (state n l k v q f)).0 later → HandsOff q reply later
released-hands_off n false k v q f reply later h locked starving answer follows = absurd (false≢true locked)
released-hands_off n true k false q f reply later h locked starving answer follows = absurd (false≢true starving)
released-hands_off n true k true [] f reply later h locked starving answer follows = absurd (false≢true (h.contended refl))
released-hands_off n true k true (w ∷ q) f reply later h locked starving answer follows =
    (sym answer, goes_to-kept n w q later (unlocked-valid n true k true (w ∷ q) f h).callers.0 (rw (h.unwoken refl) at follows))

pub hands_off : (s : State) (c : ℕ) (reply : MutexReply) (later : Log) → IsValid s → c < s.callers → s.locked ≡ true → s.starving ≡ true → (next s c event.Unlock).1 ≡ reply → Follows next (next s c event.Unlock).0 later → HandsOff s.queue reply later
hands_off s c reply later h below locked starving answer follows =
    let here : nat_lt c s.callers ≡ true = lt-ltb c s.callers below in
    released-hands_off s.callers s.locked s.woken s.starving s.queue s.flight reply later h locked starving (rw here at answer) (rw here at follows)

-- in a run from the unlocked mutex on
pub hand_off : (callers : ℕ) (earlier later : Log) (unlock : Entry MutexEvent MutexReply) → Follows next (after next (start callers) earlier) (unlock ∷ later) → unlock.event ≡ event.Unlock → unlock.caller < callers → (after next (start callers) earlier).locked ≡ true → (after next (start callers) earlier).starving ≡ true → HandsOff (after next (start callers) earlier).queue unlock.reply later
hand_off callers earlier later unlock follows is below locked starving =
    let s : State = after next (start callers) earlier in
    let h = after-valid (start callers) earlier (start-valid callers) in
    let among : unlock.caller < s.callers = subst (λ n. unlock.caller < n) (sym (callers-after (start callers) earlier)) below in
    hands_off s unlock.caller unlock.reply later h among locked starving (rw is at follows.0) (rw is at follows.1)
