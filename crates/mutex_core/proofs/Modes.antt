-- The mode changes where the table says, and nowhere else.
use Rattle.std.proofs.Common.{◌≡◌, ℕ, Bool, true, false, ◌&&◌, ◌⊎◌, inl, inr, List, [], ◌∷◌, refl, sym, ap, ◌∙◌}
use Rattle.std.specs.Prelude.{nat_lt, if◌then◌else◌}
use Rattle.std.proofs.lemmas.Bool.{false≢true}
use Rattle.mutex_core.specs.declared.event.MutexEvent.{MutexEvent}
use Rattle.mutex_core.specs.declared.event.MutexEvent.TheVariants as event
use Rattle.mutex_core.specs.declared.place.Place.{Place}
use Rattle.mutex_core.specs.declared.place.Place.TheVariants as place
use Rattle.mutex_core.specs.declared.reply.MutexReply.{MutexReply}
use Rattle.mutex_core.specs.declared.waiter.Waiter.{Waiter}
use Rattle.mutex_core.specs.declared.waiter.Flight.{Flight}
use Rattle.mutex_core.specs.declared.waiter.Flight.TheVariants as flight
use Rattle.mutex_core.specs.MutexMachine.{State, place_of, is_contended, arrived, tried, unlocked, resumed, still, at_place, next}
use Rattle.mutex_core.specs.Modes.{StarvesAndLoses, IsTheLastToStarve}
use Rattle.mutex_core.specs.Starving.{is_starving}
use Rattle.mutex_core.proofs.Validity.{state}

no : {A : Type 0} → false ≡ true → A
no e = absurd (false≢true e)

both : {A : Type 0} (b : Bool) → b ≡ true → b ≡ false → A
both b holds fails = no (sym fails ∙ holds)

-- how a step changes the mode
record Changes (s : State) (e : MutexEvent) (step : State × MutexReply) : Type 0 where
  begins : s.starving ≡ false → step.0.starving ≡ true → StarvesAndLoses s e step.1
  begun : StarvesAndLoses s e step.1 → step.0.starving ≡ true
  ends : s.starving ≡ true → step.0.starving ≡ false → IsTheLastToStarve s e step.1
  ended : IsTheLastToStarve s e step.1 → step.0.starving ≡ false

still-changes : (s : State) (e : MutexEvent) → Changes s e (still s)
still-changes s e = record {
  begins = λ was is. both s.starving is was;
  begun = λ lost. let h = lost.lost in (cc);
  ends = λ was is. both s.starving was is;
  ended = λ last. let h = last.acquired in (cc);
}

arrived-changes : (n : ℕ) (l k v : Bool) (q : List Waiter) (f : Flight) (c now : ℕ) → Changes (state n l k v q f) (event.Arrive now) (arrived (state n l k v q f) c now)
arrived-changes n false k false q f c now = record { begins = λ was is. no is; begun = λ lost. let h = lost.lost in (cc); ends = λ was is. no was; ended = λ last. let h = last.acquired in (cc) }
arrived-changes n true k v q f c now = record { begins = λ was is. both v is was; begun = λ lost. let h = lost.lost in (cc); ends = λ was is. both v was is; ended = λ last. let h = last.acquired in (cc) }
arrived-changes n false k true q f c now = record { begins = λ was is. no (sym was); begun = λ lost. let h = lost.lost in (cc); ends = λ was is. no (sym is); ended = λ last. let h = last.acquired in (cc) }

tried-changes : (n : ℕ) (l k v : Bool) (q : List Waiter) (f : Flight) → Changes (state n l k v q f) event.Try (tried (state n l k v q f))
tried-changes n false k false q f = record { begins = λ was is. no is; begun = λ lost. let h = lost.lost in (cc); ends = λ was is. no was; ended = λ last. let h = last.acquired in (cc) }
tried-changes n true k v q f = record { begins = λ was is. both v is was; begun = λ lost. let h = lost.lost in (cc); ends = λ was is. both v was is; ended = λ last. let h = last.acquired in (cc) }
tried-changes n false k true q f = record { begins = λ was is. no (sym was); begun = λ lost. let h = lost.lost in (cc); ends = λ was is. no (sym is); ended = λ last. let h = last.acquired in (cc) }

unlocked-changes : (n : ℕ) (l k v : Bool) (q : List Waiter) (f : Flight) → Changes (state n l k v q f) event.Unlock (unlocked (state n l k v q f))
unlocked-changes n false k v q f = record { begins = λ was is. both v is was; begun = λ lost. let h = lost.lost in (cc); ends = λ was is. both v was is; ended = λ last. let h = last.acquired in (cc) }
unlocked-changes n true k v [] f = record { begins = λ was is. both v is was; begun = λ lost. let h = lost.lost in (cc); ends = λ was is. both v was is; ended = λ last. let h = last.acquired in (cc) }
unlocked-changes n true k true (w ∷ q) f = record { begins = λ was is. no (sym was); begun = λ lost. let h = lost.lost in (cc); ends = λ was is. no (sym is); ended = λ last. let h = last.acquired in (cc) }
unlocked-changes n true true false (w ∷ q) f = record { begins = λ was is. no is; begun = λ lost. let h = lost.lost in (cc); ends = λ was is. no was; ended = λ last. let h = last.acquired in (cc) }
unlocked-changes n true false false (w ∷ q) f = record { begins = λ was is. no is; begun = λ lost. let h = lost.lost in (cc); ends = λ was is. no was; ended = λ last. let h = last.acquired in (cc) }

abbrev waiter_in : Flight → Waiter → Waiter
waiter_in (flight.Woken waiter) other = waiter
waiter_in flight.Nobody other = other
waiter_in flight.Handed other = other

abbrev moment_in : MutexEvent → ℕ
moment_in (event.Arrive now) = now
moment_in event.Try = 0
moment_in event.Unlock = 0
moment_in (event.Woken now) = now

abbrev head_or : Waiter → List Waiter → Waiter
head_or other [] = other
head_or other (w ∷ q) = w

abbrev tail_of : List Waiter → List Waiter
tail_of [] = []
tail_of (w ∷ q) = q

-- a loser that starves
starves_here : (w : Waiter) (now : ℕ) (s : State) (reply : MutexReply) → s.flight ≡ flight.Woken w → StarvesAndLoses s (event.Woken now) reply → is_starving w now ≡ true
starves_here w now s reply here lost =
    let same : w ≡ lost.waiter = ap (λ (f : Flight). waiter_in f w) (sym here ∙ lost.in_flight) in
    let moment : now ≡ lost.now = ap moment_in lost.goes_on in
    ap (λ (x : Waiter). is_starving x now) same ∙ (ap (λ (m : ℕ). is_starving lost.waiter m) moment ∙ lost.starves)

one_of : (a b : Bool) → (a && b) ≡ false → (a ≡ false) ⊎ (b ≡ false)
one_of true b is = inr is
one_of false b is = inl refl

none_of : (a : Bool) → (a && false) ≡ false
none_of true = refl
none_of false = refl

nobody : (q : List Waiter) → is_contended q ≡ false → q ≡ []
nobody [] is = refl
nobody (w ∷ q) is = no (sym is)

last_by : (w : Waiter) (q : List Waiter) (now : ℕ) → (is_starving w now && is_contended q) ≡ false → (is_starving w now ≡ false) ⊎ (q ≡ [])
last_by w q now is = by_case (one_of (is_starving w now) (is_contended q) is)
  where
    by_case : (is_starving w now ≡ false) ⊎ (is_contended q ≡ false) → (is_starving w now ≡ false) ⊎ (q ≡ [])
    by_case (inl calm) = inl calm
    by_case (inr alone) = inr (nobody q alone)

ends_here : (w : Waiter) (q : List Waiter) (now : ℕ) (s : State) (reply : MutexReply) → s.queue ≡ w ∷ q → IsTheLastToStarve s (event.Woken now) reply → (is_starving w now && is_contended q) ≡ false
ends_here w q now s reply here last =
    let split : w ∷ q ≡ last.front ∷ last.rest = sym here ∙ last.queue in
    let front : w ≡ last.front = ap (head_or w) split in
    let rest : q ≡ last.rest = ap tail_of split in
    let moment : now ≡ last.now = ap moment_in last.goes_on in
    by_case front rest moment last.enough
  where
    by_case : {front : Waiter} {rest : List Waiter} {moment : ℕ} → w ≡ front → q ≡ rest → now ≡ moment → (is_starving front moment ≡ false) ⊎ (rest ≡ []) → (is_starving w now && is_contended q) ≡ false
    by_case {front} {rest} {moment} a b m (inl calm) = ap (λ (x : Bool). x && is_contended q) (ap (λ (x : Waiter). is_starving x now) a ∙ (ap (λ (x : ℕ). is_starving front x) m ∙ calm))
    by_case {front} {rest} {moment} a b m (inr alone) = ap (λ (x : List Waiter). is_starving w now && is_contended x) (b ∙ alone) ∙ none_of (is_starving w now)

resumed-changes : (n : ℕ) (l k v : Bool) (q : List Waiter) (f : Flight) (now : ℕ) → Changes (state n l k v q f) (event.Woken now) (resumed f q now (state n l k v q f))
resumed-changes n l k v q flight.Nobody now = still-changes (state n l k v q flight.Nobody) (event.Woken now)
resumed-changes n l k v [] flight.Handed now = still-changes (state n l k v [] flight.Handed) (event.Woken now)
resumed-changes n l k true (w ∷ q) flight.Handed now = record {
  begins = λ was is. no (sym was);
  begun = λ lost. let h = lost.lost in (cc);
  ends = λ was is. record { front = w; rest = q; now = now; handed = refl; queue = refl; goes_on = refl; acquired = refl; enough = last_by w q now is };
  ended = λ last. ends_here w q now (state n l k true (w ∷ q) flight.Handed) _ refl last;
}
resumed-changes n l k false (w ∷ q) flight.Handed now = record { begins = λ was is. no is; begun = λ lost. let h = lost.lost in (cc); ends = λ was is. no was; ended = λ last. refl }
resumed-changes n true k true q (flight.Woken w) now = record { begins = λ was is. no (sym was); begun = λ lost. refl; ends = λ was is. no (sym is); ended = λ last. let h = last.acquired in (cc) }
resumed-changes n true k false q (flight.Woken w) now = record {
  begins = λ was is. record { waiter = w; now = now; in_flight = refl; goes_on = refl; lost = refl; starves = is };
  begun = λ lost. starves_here w now (state n true k false q (flight.Woken w)) _ refl lost;
  ends = λ was is. no was;
  ended = λ last. let h = last.acquired in (cc);
}
resumed-changes n false k v q (flight.Woken w) now = record { begins = λ was is. both v is was; begun = λ lost. let h = lost.lost in (cc); ends = λ was is. both v was is; ended = λ last. let h = last.handed in (cc) }

at_place-changes : (e : MutexEvent) (p : Place) (c : ℕ) (s : State) → Changes s e (at_place e p c s)
at_place-changes (event.Arrive now) place.Out c s = arrived-changes s.callers s.locked s.woken s.starving s.queue s.flight c now
at_place-changes (event.Arrive now) _ c s = still-changes s (event.Arrive now)
at_place-changes event.Try place.Out c s = tried-changes s.callers s.locked s.woken s.starving s.queue s.flight
at_place-changes event.Try _ c s = still-changes s event.Try
at_place-changes event.Unlock _ c s = unlocked-changes s.callers s.locked s.woken s.starving s.queue s.flight
at_place-changes (event.Woken now) place.Woken c s = resumed-changes s.callers s.locked s.woken s.starving s.queue s.flight now
at_place-changes (event.Woken now) place.Handed c s = resumed-changes s.callers s.locked s.woken s.starving s.queue s.flight now
at_place-changes (event.Woken now) _ c s = still-changes s (event.Woken now)

changes : (s : State) (c : ℕ) (e : MutexEvent) → Changes s e (next s c e)
changes s c e = by_test (nat_lt c s.callers)
  where
    by_test : (b : Bool) → Changes s e (if b then at_place e (place_of s c) c s else still s)
    by_test true = at_place-changes e (place_of s c) c s
    by_test false = still-changes s e

pub next-begins : (s : State) (c : ℕ) (e : MutexEvent) → s.starving ≡ false → (next s c e).0.starving ≡ true → StarvesAndLoses s e (next s c e).1
next-begins s c e was is = let all = changes s c e in all.begins was is

pub next-begun : (s : State) (c : ℕ) (e : MutexEvent) → StarvesAndLoses s e (next s c e).1 → (next s c e).0.starving ≡ true
next-begun s c e lost = let all = changes s c e in all.begun lost

pub next-ends : (s : State) (c : ℕ) (e : MutexEvent) → s.starving ≡ true → (next s c e).0.starving ≡ false → IsTheLastToStarve s e (next s c e).1
next-ends s c e was is = let all = changes s c e in all.ends was is

pub next-ended : (s : State) (c : ℕ) (e : MutexEvent) → IsTheLastToStarve s e (next s c e).1 → (next s c e).0.starving ≡ false
next-ended s c e last = let all = changes s c e in all.ended last
