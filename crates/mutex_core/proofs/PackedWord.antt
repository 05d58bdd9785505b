-- What the packed word tells of the states that the machine comes to.
use Rattle.std.proofs.Common.{◌≡◌, ℕ, zero, suc, ◌+◌, ◌*◌, ◌^◌, ◌<◌, ◌≤◌, Bool, true, false, ◌&&◌, not, ◌==◌, List, [], ◌∷◌, length, refl, sym, ap, ◌∙◌, subst, arith, lt-ltb}
use Rattle.std.specs.Prelude.{nat_lt, if◌then◌else◌}
use Rattle.std.proofs.lemmas.Bool.{false≢true}
use Rattle.mutex_core.specs.declared.event.MutexEvent.{MutexEvent}
use Rattle.mutex_core.specs.declared.event.MutexEvent.TheVariants as event
use Rattle.mutex_core.specs.declared.place.Place.TheVariants as place
use Rattle.mutex_core.specs.declared.reply.MutexReply.{MutexReply}
use Rattle.mutex_core.specs.declared.waiter.Flight.{Flight}
use Rattle.mutex_core.specs.declared.waiter.Flight.TheVariants as flight
use Rattle.mutex_core.specs.declared.waiter.Waiter.{Waiter}
use Rattle.mutex_core.specs.MutexMachine.{State, next, still, at_place, waiting_by, IsValid}
use Rattle.mutex_core.specs.Word.{bit, word_of, is_quiet, told_by, queues, is_uncontended}
use Rattle.mutex_core.proofs.Validity.{state}
use Rattle.mutex_core.proofs.Waiting.{length-callers_of}

not_true : (b : Bool) → not b ≡ true → b ≡ false
not_true true e = absurd (false≢true e)
not_true false e = refl

-- nobody waits and nobody is in flight
abbrev pub quiet_state : ℕ → Bool → State
quiet_state callers locked = state callers locked false false [] flight.Nobody

quiet_by : (n : ℕ) (l k v : Bool) (q : List Waiter) (f : Flight) → IsValid (state n l k v q f) → is_quiet (state n l k v q f) ≡ true → state n l k v q f ≡ quiet_state n l
quiet_by n l false false [] flight.Nobody h e = refl
quiet_by n l true v [] flight.Nobody h e = absurd (false≢true (sym h.woken))
quiet_by n l false true [] flight.Nobody h e = absurd (false≢true (h.contended refl))
quiet_by n l k v [] (flight.Woken w) h e = absurd (false≢true e)
quiet_by n l k v [] flight.Handed h e = absurd (false≢true e)
quiet_by n l k v (w ∷ q) f h e = absurd (false≢true e)

-- a quiet state is known, but for who has it
pub quiet_is : (s : State) → IsValid s → is_quiet s ≡ true → s ≡ quiet_state s.callers s.locked
quiet_is s h e = quiet_by s.callers s.locked s.woken s.starving s.queue s.flight h e

small_by : (n : ℕ) (l k v : Bool) (q : List Waiter) (f : Flight) → IsValid (state n l k v q f) → word_of (state n l k v q f) ≤ 1 → is_quiet (state n l k v q f) ≡ true
small_by n l k v [] flight.Nobody h e = refl
small_by n l true v [] (flight.Woken w) h e = absurd (omega arith)
small_by n l false v [] (flight.Woken w) h e = absurd (false≢true h.woken)
small_by n l k true [] flight.Handed h e = absurd (false≢true (h.contended refl))
small_by n l k false [] flight.Handed h e = absurd (false≢true (sym h.handed))
small_by n l k v (w ∷ q) f h e = absurd (omega arith)

-- where the word is at most 1, nobody waits and nobody is in flight
pub small_quiet : (s : State) → IsValid s → word_of s ≤ 1 → is_quiet s ≡ true
small_quiet s h e = small_by s.callers s.locked s.woken s.starving s.queue s.flight h e

-- and the other way round
pub bit_small : (b : Bool) → bit b ≤ 1
bit_small true = omega arith
bit_small false = omega arith

-- a kept state that isn't quiet is up to date
pub told_unquiet : (s : State) (w : ℕ) → is_quiet s ≡ false → told_by s w ≡ s
told_unquiet s w e = ap (λ b. if b then record s { locked = w == 1 } else s) e

locked_again : (l : Bool) → (bit l + 2 * 0 + 4 * 0 + 8 * 0 == 1) ≡ l
locked_again true = refl
locked_again false = refl

kept_by : (s : State) → IsValid s → (b : Bool) → is_quiet s ≡ b → told_by s (word_of s) ≡ s
kept_by s h true e = let is = quiet_is s h e in subst (λ t. told_by t (word_of t) ≡ t) (sym is) (ap (λ l. quiet_state s.callers l) (locked_again s.locked))
kept_by s h false e = told_unquiet s (word_of s) e

-- with its own word a state stands for itself
pub kept : (s : State) → IsValid s → told_by s (word_of s) ≡ s
kept s h = kept_by s h (is_quiet s) refl

known_by : (s : State) (w : ℕ) → IsValid s → word_of (told_by s w) ≡ w → w ≤ 1 → (b : Bool) → is_quiet s ≡ b → s ≡ quiet_state s.callers s.locked
known_by s w h is small true e = quiet_is s h e
known_by s w h is small false e = let own = ap word_of (told_unquiet s w e) in quiet_is s h (small_quiet s h (omega arith))

-- a kept state is known, but for who has it, where the word is at most 1
pub known : (s : State) (w : ℕ) → IsValid s → word_of (told_by s w) ≡ w → w ≤ 1 → s ≡ quiet_state s.callers s.locked
known s w h is small = known_by s w h is small (is_quiet s) refl

next_quiet : (n caller : ℕ) (l : Bool) (e : MutexEvent) → caller < n → next (quiet_state n l) caller e ≡ at_place e place.Out caller (quiet_state n l)
next_quiet n caller l e below = ap (λ b. if b then at_place e place.Out caller (quiet_state n l) else still (quiet_state n l)) (lt-ltb caller n below)

small_word : (a : ℕ) → a ≤ 1 → bit (a == 1) + 2 * 0 + 4 * 0 + 8 * 0 ≡ a
small_word zero small = refl
small_word (suc zero) small = refl
small_word (suc (suc a)) small = absurd (omega arith)

-- what an event that the word alone decides leaves
pub decided : (s : State) (w caller : ℕ) (e : MutexEvent) (after : ℕ) (reply : MutexReply) → IsValid s → word_of (told_by s w) ≡ w → w ≤ 1 → caller < s.callers → after ≤ 1
    → at_place e place.Out caller (quiet_state s.callers (w == 1)) ≡ (quiet_state s.callers (after == 1), reply)
    → (next (told_by s w) caller e ≡ (told_by s after, reply)) × (word_of (told_by s after) ≡ after) × (after < 2 ^ 63)
decided s w caller e after reply h is small below small_after made =
    subst (λ t. (next (told_by t w) caller e ≡ (told_by t after, reply)) × (word_of (told_by t after) ≡ after) × (after < 2 ^ 63)) (sym (known s w h is small))
    (next_quiet s.callers caller (w == 1) e below ∙ made, small_word after small_after, omega arith)

-- an event that the word alone doesn't decide
pub queued : (s : State) (w caller now : ℕ) → IsValid s → word_of (told_by s w) ≡ w → w ≡ 1 → caller < s.callers → is_uncontended (told_by s w) caller (event.Arrive now) ≡ false
queued s w caller now h is one below =
    let same = known s w h is (omega arith) in
    subst (λ t. is_uncontended (told_by t w) caller (event.Arrive now) ≡ false) (sym same)
    (subst (λ v. is_uncontended (quiet_state s.callers (v == 1)) caller (event.Arrive now) ≡ false) (sym one) (ap (λ z. not (queues z.1)) (next_quiet s.callers caller true (event.Arrive now) below)))

contended_by : (s : State) (w caller : ℕ) (e : MutexEvent) → IsValid s → word_of (told_by s w) ≡ w → 1 < w → (b : Bool) → is_quiet s ≡ b → is_uncontended (told_by s w) caller e ≡ false
contended_by s w caller e h is large true q =
    let same : word_of (told_by s w) ≡ bit (w == 1) + 2 * 0 + 4 * 0 + 8 * 0 = ap (λ t. word_of (told_by t w)) (quiet_is s h q) in
    let low = bit_small (w == 1) in absurd (omega arith)
contended_by s w caller e h is large false q = subst (λ t. is_uncontended t caller e ≡ false) (sym (told_unquiet s w q)) (ap (λ b. b && not (queues (next s caller e).1)) q)

pub contended : (s : State) (w caller : ℕ) (e : MutexEvent) → IsValid s → word_of (told_by s w) ≡ w → 1 < w → is_uncontended (told_by s w) caller e ≡ false
contended s w caller e h is large = contended_by s w caller e h is large (is_quiet s) refl

-- the word of a quiet state
pub quiet_word : (s : State) → IsValid s → is_quiet s ≡ true → word_of s ≡ bit s.locked
quiet_word s h q = let same = ap word_of (quiet_is s h q) in omega arith

counts_by : (n : ℕ) (l k v : Bool) (q : List Waiter) (f : Flight) → IsValid (state n l k v q f)
    → word_of (state n l k v q f) + 8 * bit k ≡ bit l + 2 * bit k + 4 * bit v + 8 * length (waiting_by f q)
counts_by n l k v q flight.Nobody h = let none : bit k ≡ 0 = ap bit h.woken in omega (arith, length-callers_of q)
counts_by n l k v q (flight.Woken w) h = let one : bit k ≡ 1 = ap bit h.woken in omega (arith, length-callers_of q)
counts_by n l k v q flight.Handed h = let none : bit k ≡ 0 = ap bit h.woken in omega (arith, length-callers_of q)

pub counts : (s : State) → IsValid s → word_of s + 8 * bit s.woken ≡ bit s.locked + 2 * bit s.woken + 4 * bit s.starving + 8 * length (waiting_by s.flight s.queue)
counts s h = counts_by s.callers s.locked s.woken s.starving s.queue s.flight h

place_quiet : (n caller : ℕ) (l : Bool) (e : MutexEvent) → queues (at_place e place.Out caller (quiet_state n l)).1 ≡ false → (at_place e place.Out caller (quiet_state n l)).0 ≡ quiet_state n (at_place e place.Out caller (quiet_state n l)).0.locked
place_quiet n caller true (event.Arrive now) q = absurd (false≢true (sym q))
place_quiet n caller false (event.Arrive now) q = refl
place_quiet n caller true event.Try q = refl
place_quiet n caller false event.Try q = refl
place_quiet n caller true event.Unlock q = refl
place_quiet n caller false event.Unlock q = refl
place_quiet n caller true (event.Woken now) q = refl
place_quiet n caller false (event.Woken now) q = refl

leaves_quiet : (n caller : ℕ) (l : Bool) (e : MutexEvent) (b : Bool) → nat_lt caller n ≡ b → is_uncontended (quiet_state n l) caller e ≡ true
    → (next (quiet_state n l) caller e).0 ≡ quiet_state n (next (quiet_state n l) caller e).0.locked
leaves_quiet n caller l e true below u =
    let made : next (quiet_state n l) caller e ≡ at_place e place.Out caller (quiet_state n l) = ap (λ b. if b then at_place e place.Out caller (quiet_state n l) else still (quiet_state n l)) below in
    subst (λ z. z.0 ≡ quiet_state n z.0.locked) (sym made) (place_quiet n caller l e (not_true (queues (at_place e place.Out caller (quiet_state n l)).1) (sym (ap (λ z. not (queues z.1)) made) ∙ u)))
leaves_quiet n caller l e false below u =
    let made : next (quiet_state n l) caller e ≡ still (quiet_state n l) = ap (λ b. if b then at_place e place.Out caller (quiet_state n l) else still (quiet_state n l)) below in
    subst (λ z. z.0 ≡ quiet_state n z.0.locked) (sym made) refl

leaves_by : (s : State) (caller : ℕ) (e : MutexEvent) → IsValid s → (b : Bool) → is_quiet s ≡ b → is_uncontended s caller e ≡ true → (next s caller e).0 ≡ quiet_state s.callers (next s caller e).0.locked
leaves_by s caller e h true q u = subst (λ t. is_uncontended t caller e ≡ true → (next t caller e).0 ≡ quiet_state t.callers (next t caller e).0.locked) (sym (quiet_is s h q)) (leaves_quiet s.callers caller s.locked e (nat_lt caller s.callers) refl) u
leaves_by s caller e h false q u = absurd (false≢true (sym (ap (λ b. b && not (queues (next s caller e).1)) q) ∙ u))

quiet_of : (s : State) (caller : ℕ) (e : MutexEvent) (b : Bool) → is_quiet s ≡ b → is_uncontended s caller e ≡ true → is_quiet s ≡ true
quiet_of s caller e true q u = q
quiet_of s caller e false q u = absurd (false≢true (sym (ap (λ b. b && not (queues (next s caller e).1)) q) ∙ u))

-- an uncontended event changes at most whether the mutex is locked
pub leaves : (s : State) (caller : ℕ) (e : MutexEvent) → IsValid s → is_uncontended s caller e ≡ true → (next s caller e).0 ≡ record s { locked = (next s caller e).0.locked }
leaves s caller e h u =
    leaves_by s caller e h (is_quiet s) refl u ∙ ap (λ (t : State). record t { locked = (next s caller e).0.locked }) (sym (quiet_is s h (quiet_of s caller e (is_quiet s) refl u)))

pub leaves_word : (s : State) (caller : ℕ) (e : MutexEvent) → IsValid s → is_uncontended s caller e ≡ true → word_of (next s caller e).0 ≡ bit (next s caller e).0.locked
leaves_word s caller e h u = let same = ap word_of (leaves_by s caller e h (is_quiet s) refl u) in omega arith
