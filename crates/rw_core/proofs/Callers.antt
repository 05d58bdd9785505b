-- How often a caller is in a list of callers.
use Rattle.std.proofs.Common.{◌≡◌, ℕ, ◌+◌, ◌<◌, ◌≤◌, Bool, true, false, ◌||◌, List, [], ◌∷◌, ◌++◌, length, refl, ap, sym, arith, inl, inr}
use Rattle.std.specs.Prelude.{nat_eq, ◌==◌, not, cond, if◌then◌else◌}
use Rattle.std.specs.List.{IsDistinct, AllByRecursion}
use Rattle.std.proofs.lemmas.Bool.{false≢true, eq-eqb, cases_lt}
use Rattle.std.proofs.lemmas.Map.Steps.{length-le_from_distinct_below}
use Rattle.rw_core.specs.RwMachine.{is_among, without, times_in}

-- once, where it is the caller
abbrev pub once : ℕ → ℕ → ℕ
once caller other = if caller == other then 1 else 0

pub times_in-append : (c : ℕ) (xs ys : List ℕ) → times_in c (xs ++ ys) ≡ times_in c xs + times_in c ys
times_in-append c [] ys = omega arith
times_in-append c (x ∷ xs) ys = omega (arith, times_in-append c xs ys)

pub times_in-push : (c : ℕ) (xs : List ℕ) (x : ℕ) → times_in c (xs ++ x ∷ []) ≡ times_in c xs + once c x
times_in-push c xs x = omega (arith, times_in-append c xs (x ∷ []))

-- a caller that isn't in the list is there no times
pub times_in-absent : (c : ℕ) (xs : List ℕ) → is_among c xs ≡ false → times_in c xs ≡ 0
times_in-absent c [] absent = refl
times_in-absent c (x ∷ xs) absent = by_test (c == x) absent (times_in-absent c xs)
  where
    by_test : (b : Bool) → (b || is_among c xs) ≡ false → (is_among c xs ≡ false → times_in c xs ≡ 0) → (if b then 1 else 0) + times_in c xs ≡ 0
    by_test true e later = absurd (false≢true (sym e))
    by_test false e later = omega (arith, later e)

-- a caller that is in the list is there once at least
pub times_in-present : (c : ℕ) (xs : List ℕ) → is_among c xs ≡ true → 0 < times_in c xs
times_in-present c [] here = absurd (false≢true here)
times_in-present c (x ∷ xs) here = by_test (c == x) here (times_in-present c xs)
  where
    by_test : (b : Bool) → (b || is_among c xs) ≡ true → (is_among c xs ≡ true → 0 < times_in c xs) → 0 < (if b then 1 else 0) + times_in c xs
    by_test true e later = omega arith
    by_test false e later = omega (arith, later e)

pub times_in-without : (c x : ℕ) (xs : List ℕ) → times_in c (without x xs) ≤ times_in c xs
times_in-without c x [] = omega arith
times_in-without c x (y ∷ xs) = by_test (x == y) (times_in-without c x xs)
  where
    by_count : (k m n : ℕ) → m ≤ n → m ≤ k + n
    by_count k m n le = omega (arith, le)

    by_step : (k m n : ℕ) → m ≤ n → k + m ≤ k + n
    by_step k m n le = omega (arith, le)

    by_test : (b : Bool) → times_in c (without x xs) ≤ times_in c xs → times_in c (cond (not b) (y ∷ without x xs) (without x xs)) ≤ (if c == y then 1 else 0) + times_in c xs
    by_test true le = by_count (if c == y then 1 else 0) _ _ le
    by_test false le = by_step (if c == y then 1 else 0) _ _ le

-- a caller is itself
pub once-same : (c : ℕ) → once c c ≡ 1
once-same c = rw (eq-eqb c c refl) refl

once-zero : (c x : ℕ) (xs : List ℕ) → once c x + times_in c xs ≤ 1 → c ≡ x → times_in c xs ≡ 0
once-zero c x xs le is = omega (arith, le, ap (λ y. once c y) is, once-same c)

apart_from : (x : ℕ) (xs : List ℕ) → times_in x xs ≡ 0 → AllByRecursion (λ y. nat_eq x y ≡ false) xs
apart_from x [] none = tt
apart_from x (y ∷ xs) none = by_test (nat_eq x y) refl none (apart_from x xs)
  where
    by_test : (b : Bool) → nat_eq x y ≡ b → (if b then 1 else 0) + times_in x xs ≡ 0 → (times_in x xs ≡ 0 → AllByRecursion (λ z. nat_eq x z ≡ false) xs) → (nat_eq x y ≡ false) × AllByRecursion (λ z. nat_eq x z ≡ false) xs
    by_test true is sum later = absurd (omega (arith, sum))
    by_test false is sum later = (is, later (omega (arith, sum)))

-- a list in which nobody is twice
pub distinct-from_count : (xs : List ℕ) → ((c : ℕ) → times_in c xs ≤ 1) → IsDistinct nat_eq xs
unfolding IsDistinct
distinct-from_count [] apart = tt
distinct-from_count (x ∷ xs) apart =
    (apart_from x xs (once-zero x x xs (apart x) refl), distinct-from_count xs (λ c. omega (arith, apart c)))

below-from_count : (n c : ℕ) (xs : List ℕ) → (n ≤ c → times_in c xs ≡ 0) → is_among c xs ≡ true → c < n
below-from_count n c xs among here =
    elim (cases_lt c n) [ inl below ↦ below | inr above ↦ absurd (omega (arith, times_in-present c xs here, among above)) ]

-- a list of callers in which nobody is twice is no longer than there are callers
pub length-from_count : (n : ℕ) (xs : List ℕ) → ((c : ℕ) → times_in c xs ≤ 1) → ((c : ℕ) → n ≤ c → times_in c xs ≡ 0) → length xs ≤ n
length-from_count n xs apart among =
    length-le_from_distinct_below xs n (distinct-from_count xs apart) (λ c. below-from_count n c xs (among c))
