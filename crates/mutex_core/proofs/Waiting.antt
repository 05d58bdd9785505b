-- The list of those that wait, as waiters come.
use Rattle.std.proofs.Common.{◌≡◌, ℕ, ◌<◌, ◌≤◌, Bool, true, false, ◌||◌, List, [], ◌∷◌, ◌++◌, map, length, refl, ap, sym, subst, suc}
use Rattle.std.specs.Prelude.{nat_eq, if◌then◌else◌}
use Rattle.std.specs.List.{list_any, IsDistinct, AllByRecursion}
use Rattle.std.proofs.lemmas.Map.Steps.{length-le_from_distinct_below}
use Rattle.std.proofs.lemmas.Bool.{false≢true, eqb-true}
use Rattle.mutex_core.specs.declared.place.Place.{Place}
use Rattle.mutex_core.specs.declared.place.Place.TheVariants as place
use Rattle.mutex_core.specs.declared.waiter.Waiter.{Waiter}
use Rattle.mutex_core.specs.declared.waiter.Flight.{Flight}
use Rattle.mutex_core.specs.declared.waiter.Flight.TheVariants as flight
use Rattle.mutex_core.specs.MutexMachine.{is_waiter_of, place_in, place_by, waiting_by}

-- the callers in a queue
abbrev pub callers_of : List Waiter → List ℕ
callers_of queue = map (λ w. w.caller) queue

pub callers_of-push : (queue : List Waiter) (w : Waiter) → callers_of (queue ++ w ∷ []) ≡ callers_of queue ++ w.caller ∷ []
callers_of-push [] w = refl
callers_of-push (x ∷ queue) w = ap (λ cs. x.caller ∷ cs) (callers_of-push queue w)

pub waiting_by-push : (f : Flight) (queue : List Waiter) (w : Waiter) → waiting_by f (queue ++ w ∷ []) ≡ waiting_by f queue ++ w.caller ∷ []
waiting_by-push flight.Nobody queue w = callers_of-push queue w
waiting_by-push (flight.Woken x) queue w = ap (λ cs. x.caller ∷ cs) (callers_of-push queue w)
waiting_by-push flight.Handed queue w = callers_of-push queue w

pub list_any-callers_of : (c : ℕ) (queue : List Waiter) → list_any (nat_eq c) (callers_of queue) ≡ list_any (is_waiter_of c) queue
list_any-callers_of c [] = refl
list_any-callers_of c (x ∷ queue) = ap (λ b. nat_eq c x.caller || b) (list_any-callers_of c queue)

-- out by a test: the test fails, and the caller is out past it
out_past : (b : Bool) (p q : Place) → (p ≡ place.Out → false ≡ true) → (if b then p else q) ≡ place.Out → (b ≡ false) × (q ≡ place.Out)
out_past true p q never out = absurd (false≢true (never out))
out_past false p q never out = (refl, out)

out_of_queue : (c : ℕ) (queue : List Waiter) → place_in queue c ≡ place.Out → list_any (nat_eq c) (callers_of queue) ≡ false
out_of_queue c queue out = rw list_any-callers_of ((out_past (list_any (is_waiter_of c) queue) place.Waiting place.Out (λ e. cc) out).0)

-- a caller that is out isn't among those that wait
pub waiting-out : (f : Flight) (queue : List Waiter) (c : ℕ) → place_by f queue c ≡ place.Out → list_any (nat_eq c) (waiting_by f queue) ≡ false
waiting-out flight.Nobody queue c out = out_of_queue c queue out
waiting-out (flight.Woken w) queue c out =
    let parts = out_past (is_waiter_of c w) place.Woken (place_in queue c) (λ e. cc) out in
    rw (parts.0, out_of_queue c queue parts.1) refl
waiting-out flight.Handed [] c out = refl
waiting-out flight.Handed (w ∷ queue) c out =
    let parts = out_past (is_waiter_of c w) place.Handed (place_in queue c) (λ e. cc) out in
    rw (parts.0, out_of_queue c queue parts.1) refl

pub AllByRecursion-push : {X : Type 0} (P : X → Type 0) (xs : List X) (x : X) → AllByRecursion P xs → P x → AllByRecursion P (xs ++ x ∷ [])
AllByRecursion-push P [] x all here = (here, tt)
AllByRecursion-push P (y ∷ xs) x all here = (all.0, AllByRecursion-push P xs x all.1 here)

-- what is true of each number of a list is true of one that is found
found_in : (P : ℕ → Type 0) (xs : List ℕ) → AllByRecursion P xs → (q : ℕ) → list_any (nat_eq q) xs ≡ true → P q
found_in P [] all q found = absurd (false≢true found)
found_in P (x ∷ xs) all q found = by_test (nat_eq q x) refl (found_in P xs all.1 q) found
  where
    by_test : (b : Bool) → nat_eq q x ≡ b → (list_any (nat_eq q) xs ≡ true → P q) → (b || list_any (nat_eq q) xs) ≡ true → P q
    by_test true same later found = subst P (sym (eqb-true q x same)) all.0
    by_test false other later found = later found

-- numbers below n of which no two are equal are at most n
pub length-apart : (n : ℕ) (xs : List ℕ) → AllByRecursion (λ x. x < n) xs → IsDistinct nat_eq xs → length xs ≤ n
length-apart n xs below apart = length-le_from_distinct_below xs n apart (found_in (λ x. x < n) xs below)

pub length-callers_of : (queue : List Waiter) → length (callers_of queue) ≡ length queue
length-callers_of [] = refl
length-callers_of (w ∷ queue) = ap suc (length-callers_of queue)
