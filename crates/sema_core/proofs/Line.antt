-- Whoever stands waiting is in the queue once, and nobody else is in it.
use Rattle.std.proofs.Common.{◌≡◌, ◌≢◌, ℕ, zero, suc, ◌+◌, ◌<◌, Bool, true, false, cond, ◌==◌, List, [], ◌∷◌, ◌++◌, length, set, replicate, refl, sym, ap, ◌∙◌, subst, arith}
use Rattle.std.specs.Prelude.{count_by, unwrap_or}
use Rattle.std.specs.List.{slice_get}
use Rattle.std.proofs.lemmas.Bool.Decides.{nat_tests}
use Rattle.std.proofs.lemmas.List.Sums.{sum_by-cons, sum_by-append}
use Rattle.sema_core.specs.declared.event.SemaPlace.{SemaPlace}
use Rattle.sema_core.specs.declared.event.SemaPlace.TheVariants.{Out, Waiting, Granted}
use Rattle.sema_core.specs.declared.event.SemaWaiter.{SemaWaiter}
use Rattle.sema_core.specs.SemaLaws.{is_by}
use Rattle.sema_core.specs.SemaMachine.{SemaState, granted, fits, first_granted, granted_on}
use Rattle.sema_core.specs.SemaStanding.{waits_in}
use Rattle.sema_core.proofs.QueueLemmas.{one_at_most}

abbrev at : List SemaPlace → ℕ → SemaPlace
at places c = unwrap_or (slice_get places c) Out

-- how often a caller stands in a queue
abbrev times : ℕ → List SemaWaiter → ℕ
times c queue = count_by (is_by c) queue

-- one for a waiter who is the caller
abbrev one_if : Bool → ℕ
one_if b = cond b 1 0

-- each caller that stands waiting is in the queue once, and no other
abbrev pub InLine : List SemaPlace → List SemaWaiter → Type 0
InLine places queue = (c : ℕ) → times c queue ≡ waits_in (at places c)

equal : (a b : ℕ) → (a == b) ≡ true → a ≡ b
equal a b is = grind (arith, nat_tests)

unequal : (a b : ℕ) → (a == b) ≡ false → b ≢ a
unequal a b is same = let is' : (a == a) ≡ false = subst (λ (n : ℕ). (a == n) ≡ false) same is in absurd (grind (arith, nat_tests))

set_other : (places : List SemaPlace) (i j : ℕ) (p : SemaPlace) → j ≢ i → at (set places i p) j ≡ at places j
set_other [] i j p ne = refl
set_other (x ∷ places) zero zero p ne = absurd (ne refl)
set_other (x ∷ places) zero (suc j) p ne = refl
set_other (x ∷ places) (suc i) zero p ne = refl
set_other (x ∷ places) (suc i) (suc j) p ne = set_other places i j p (λ e. ne (ap suc e))

set_here : (places : List SemaPlace) (i : ℕ) (p : SemaPlace) → i < length places → at (set places i p) i ≡ p
set_here [] i p below = absurd (omega arith)
set_here (x ∷ places) zero p below = refl
set_here (x ∷ places) (suc i) p below = set_here places i p (omega arith)

out_here : (places : List SemaPlace) (i : ℕ) → at (set places i Out) i ≡ Out
out_here [] i = refl
out_here (x ∷ places) zero = refl
out_here (x ∷ places) (suc i) = out_here places i

waits_no_more : (place : SemaPlace) → waits_in (granted place) ≡ 0
waits_no_more Out = refl
waits_no_more Waiting = refl
waits_no_more Granted = refl

granted_here : (places : List SemaPlace) (i : ℕ) → waits_in (at (set places i (granted (at places i))) i) ≡ 0
granted_here [] i = refl
granted_here (x ∷ places) zero = waits_no_more x
granted_here (x ∷ places) (suc i) = granted_here places i

times_cons : (c : ℕ) (w : SemaWaiter) (queue : List SemaWaiter) → times c (w ∷ queue) ≡ one_if (w.caller == c) + times c queue
times_cons c w queue = sum_by-cons (λ (x : SemaWaiter). cond (is_by c x) 1 0) w queue

times_last : (c : ℕ) (queue : List SemaWaiter) (w : SemaWaiter) → times c (queue ++ w ∷ []) ≡ times c queue + one_if (w.caller == c)
times_last c queue w = omega (arith, sum_by-append (λ (x : SemaWaiter). cond (is_by c x) 1 0) queue (w ∷ []), sum_by-cons (λ (x : SemaWaiter). cond (is_by c x) 1 0) w [])

pub line_start : (callers : ℕ) → InLine (replicate callers Out) []
line_start zero c = refl
line_start (suc callers) zero = refl
line_start (suc callers) (suc c) = line_start callers c

-- one who is out comes to wait
pub line_more : (places : List SemaPlace) (queue : List SemaWaiter) (c weight : ℕ) → c < length places → at places c ≡ Out → InLine places queue → InLine (set places c Waiting) (queue ++ record { caller = c; weight = weight } ∷ [])
line_more places queue c weight below out h d = by_test (c == d) refl where
  last : times d (queue ++ record { caller = c; weight = weight } ∷ []) ≡ times d queue + one_if (c == d)
  last = times_last d queue (record { caller = c; weight = weight })

  by_test : (b : Bool) → (c == d) ≡ b → times d (queue ++ record { caller = c; weight = weight } ∷ []) ≡ waits_in (at (set places c Waiting) d)
  by_test true is =
      let same : c ≡ d = equal c d is in
      let none : times d queue ≡ 0 = h d ∙ ap waits_in (ap (at places) (sym same) ∙ out) in
      let one : waits_in (at (set places c Waiting) d) ≡ 1 = subst (λ (n : ℕ). waits_in (at (set places c Waiting) n) ≡ 1) same (ap waits_in (set_here places c Waiting below)) in
      let more : one_if (c == d) ≡ 1 = ap one_if is in
      omega (arith, last)
  by_test false is =
      let there : waits_in (at (set places c Waiting) d) ≡ waits_in (at places d) = ap waits_in (set_other places c d Waiting (unequal c d is)) in
      let more : one_if (c == d) ≡ 0 = ap one_if is in
      omega (arith, last, h d)

-- one who was granted its weight leaves
pub line_less : (places : List SemaPlace) (queue : List SemaWaiter) (c : ℕ) → at places c ≡ Granted → InLine places queue → InLine (set places c Out) queue
line_less places queue c is h d = by_test (c == d) refl where
  by_test : (b : Bool) → (c == d) ≡ b → times d queue ≡ waits_in (at (set places c Out) d)
  by_test true e =
      let same : c ≡ d = equal c d e in
      h d ∙ ap waits_in (ap (at places) (sym same) ∙ is) ∙ sym (ap waits_in (ap (λ (n : ℕ). at (set places c Out) n) (sym same) ∙ out_here places c))
  by_test false e = h d ∙ sym (ap waits_in (set_other places c d Out (unequal c d e)))

-- the one in front is granted its weight
line_first : (places : List SemaPlace) (w : SemaWaiter) (rest : List SemaWaiter) → InLine places (w ∷ rest) → InLine (set places w.caller (granted (at places w.caller))) rest
line_first places w rest h d = by_test (w.caller == d) refl where
  place : SemaPlace
  place = granted (at places w.caller)

  by_test : (b : Bool) → (w.caller == d) ≡ b → times d rest ≡ waits_in (at (set places w.caller place) d)
  by_test true is =
      let same : w.caller ≡ d = equal w.caller d is in
      let none : waits_in (at (set places w.caller place) d) ≡ 0 = subst (λ (n : ℕ). waits_in (at (set places w.caller place) n) ≡ 0) same (granted_here places w.caller) in
      let more : one_if (w.caller == d) ≡ 1 = ap one_if is in
      omega (arith, times_cons d w rest, h d, one_at_most (at places d))
  by_test false is =
      let there : waits_in (at (set places w.caller place) d) ≡ waits_in (at places d) = ap waits_in (set_other places w.caller d place (unequal w.caller d is)) in
      let more : one_if (w.caller == d) ≡ 0 = ap one_if is in
      omega (arith, times_cons d w rest, h d)

pub line_granted : (queue : List SemaWaiter) (s : SemaState) → InLine s.places queue → InLine (granted_on queue s).places (granted_on queue s).queue
line_granted [] s h = h
line_granted (w ∷ rest) s h = by_test (fits s w.weight) (line_granted rest (first_granted s w rest) (line_first s.places w rest h)) where
  on : SemaState
  on = granted_on rest (first_granted s w rest)

  by_test : (b : Bool) → InLine on.places on.queue → InLine (cond b on (record s { queue = w ∷ rest })).places (cond b on (record s { queue = w ∷ rest })).queue
  by_test true later = later
  by_test false later = h
