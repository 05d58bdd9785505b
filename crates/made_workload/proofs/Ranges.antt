-- What holds of each number of a range.
use Rattle.std.proofs.Common.{◌≡◌, ℕ, zero, suc, ◌+◌, ◌*◌, ◌<◌, ◌≤◌, Bool, true, false, ◌&&◌, map, inl, inr, refl, ap, subst, ◌∙◌, arith}
use Rattle.std.specs.List.{list_all, range_with_len, sum_by}
use Rattle.std.proofs.lemmas.Bool.{cases_lt}
use Rattle.std.proofs.lemmas.List.Sums.{sum_by-cons}

pub both : (a b : Bool) → (a && b) ≡ true → (a ≡ true) × (b ≡ true)
both true b h = (refl, h)
both false b h = absurd cc

pub pair : (a b : Bool) → a ≡ true → b ≡ true → (a && b) ≡ true
pair a b h k = ap (λ (x : Bool). x && b) h ∙ k

-- a test that passes at each number of a range passes at one of them
pub passes_at : (test : ℕ → Bool) (a n k : ℕ) → list_all test (range_with_len a n) ≡ true → a ≤ k → k < a + n → test k ≡ true
passes_at test a zero k all low high = absurd (omega arith)
passes_at test a (suc n) k all low high =
    let parts = both (test a) (list_all test (range_with_len (a + 1) n)) all in
    elim (cases_lt a k) [
      | inl above ↦ passes_at test (a + 1) n k parts.1 (omega arith) (omega arith)
      | inr here ↦ let same : a ≡ k = omega arith in subst (λ (m : ℕ). test m ≡ true) same parts.0
    ]

-- and the other way round, of what a function makes of the numbers
pub all_pass : {X : Type 0} (test : X → Bool) (f : ℕ → X) (a n : ℕ) → ((k : ℕ) → k < a + n → test (f k) ≡ true) → list_all test (map f (range_with_len a n)) ≡ true
all_pass test f a zero each = refl
all_pass test f a (suc n) each =
    pair (test (f a)) (list_all test (map f (range_with_len (a + 1) n))) (each a (omega arith)) (all_pass test f (a + 1) n (λ k below. each k (omega arith)))

-- a sum over it, where each number counts the same
pub sum_of_same : {X : Type 0} (count : X → ℕ) (f : ℕ → X) (m a n : ℕ) → ((k : ℕ) → k < a + n → count (f k) ≡ m) → sum_by count (map f (range_with_len a n)) ≡ n * m
sum_of_same count f m a zero each = omega arith
sum_of_same count f m a (suc n) each =
    let first = each a (omega arith) in
    let others = sum_of_same count f m (a + 1) n (λ k below. each k (omega arith)) in
    sum_by-cons count (f a) (map f (range_with_len (a + 1) n)) ∙ omega (arith, first, others)
