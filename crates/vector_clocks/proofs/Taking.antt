-- What a clock knows that takes in one channel after the other.
use Rattle.std.proofs.Common.{◌≡◌, ◌⊎◌, inl, inr, ℕ, ◌+◌, ◌<◌, ◌≤◌, true, ◌==◌, ◌||◌, List, [], ◌∷◌, length, take, get_or, refl, sym, ap, ◌∙◌, subst}
use Rattle.std.proofs.lemmas.Bool.{or_cases, eqb-true, eq-eqb, false≢true}
use Rattle.std.proofs.Math.Bool.{or-true, true-or, or-false}
use Rattle.std.proofs.lemmas.List.{take_more, take_all}
use Rattle.std.proofs.lemmas.List.Folds.{list_any-append}
use Rattle.vector_clocks.specs.declared.step.Step.{Step}
use Rattle.vector_clocks.specs.Before.{is_among}
use Rattle.vector_clocks.specs.Joins.{Joins}
use Rattle.vector_clocks.specs.Knowing.{WorkerKnows, ChannelKnows, Taken, Shows}
use Rattle.vector_clocks.proofs.Steps.{joined, same_shown}

pub among_more : (xs : List ℕ) (i c : ℕ) → i < length xs → is_among (take (i + 1) xs) c ≡ (is_among (take i xs) c || (get_or xs i 0 == c))
among_more xs i c within =
    ap (λ ys. is_among ys c) (take_more xs i 0 within) ∙ list_any-append (λ d. d == c) (take i xs) (get_or xs i 0 ∷ [])
    ∙ ap (λ b. is_among (take i xs) c || b) (or-false (get_or xs i 0 == c))

module _ (trace : List Step) (n worker : ℕ) where
  pub takes_none : (a : List ℕ) → Shows trace n a (WorkerKnows trace n worker) → Shows trace n a (Taken trace n worker [])
  takes_none a shows = same_shown trace n a (WorkerKnows trace n worker) (Taken trace n worker []) (λ i within knows. inl knows) (λ i within taken. from i taken) shows where
    from : (i : ℕ) → Taken trace n worker [] i → WorkerKnows trace n worker i
    from i (inl knows) = knows
    from i (inr (c, nothing, knows)) = absurd (false≢true nothing)

  module _ (xs : List ℕ) (m : ℕ) (within : m < length xs) where
    to : (i : ℕ) → Taken trace n worker (take m xs) i ⊎ ChannelKnows trace n (get_or xs m 0) i → Taken trace n worker (take (m + 1) xs) i
    to i (inl (inl knows)) = inl knows
    to i (inl (inr (c, among, knows))) = inr (c, among_more xs m c within ∙ ap (λ b. b || (get_or xs m 0 == c)) among ∙ true-or (get_or xs m 0 == c), knows)
    to i (inr knows) = inr (get_or xs m 0, among_more xs m (get_or xs m 0) within ∙ ap (λ b. is_among (take m xs) (get_or xs m 0) || b) (eq-eqb (get_or xs m 0) (get_or xs m 0) refl) ∙ or-true (is_among (take m xs) (get_or xs m 0)), knows)

    by_which : (i c : ℕ) → ChannelKnows trace n c i → (is_among (take m xs) c ≡ true) ⊎ ((get_or xs m 0 == c) ≡ true) → Taken trace n worker (take m xs) i ⊎ ChannelKnows trace n (get_or xs m 0) i
    by_which i c knows (inl among) = inl (inr (c, among, knows))
    by_which i c knows (inr is) = inr (subst (λ d. ChannelKnows trace n d i) (sym (eqb-true (get_or xs m 0) c is)) knows)

    from : (i : ℕ) → Taken trace n worker (take (m + 1) xs) i → Taken trace n worker (take m xs) i ⊎ ChannelKnows trace n (get_or xs m 0) i
    from i (inl knows) = inl (inl knows)
    from i (inr (c, among, knows)) = by_which i c knows (or_cases (is_among (take m xs) c) (get_or xs m 0 == c) (sym (among_more xs m c within) ∙ among))

    pub takes_more : (a b c : List ℕ) → Shows trace n a (Taken trace n worker (take m xs)) → Shows trace n b (ChannelKnows trace n (get_or xs m 0)) → Joins a b c → Shows trace n c (Taken trace n worker (take (m + 1) xs))
    takes_more a b c of_a of_b joins =
        same_shown trace n c (λ i. Taken trace n worker (take m xs) i ⊎ ChannelKnows trace n (get_or xs m 0) i) (Taken trace n worker (take (m + 1) xs)) (λ i within t. to i t) (λ i within t. from i t)
        (joined trace n a b c (Taken trace n worker (take m xs)) (ChannelKnows trace n (get_or xs m 0)) of_a of_b joins)

  pub takes_all : (a xs : List ℕ) (m : ℕ) → length xs ≤ m → Shows trace n a (Taken trace n worker (take m xs)) → Shows trace n a (Taken trace n worker xs)
  takes_all a xs m past shows = subst (λ ys. Shows trace n a (Taken trace n worker ys)) (take_all m xs past) shows
