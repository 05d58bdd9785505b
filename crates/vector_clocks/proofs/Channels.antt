-- Channels into which a step gives, and those that it sets.
use Rattle.std.proofs.Common.{◌≡◌, ◌≢◌, ◌⊎◌, inl, inr, ℕ, zero, suc, ◌+◌, ◌<◌, Bool, true, false, ◌==◌, ◌||◌, List, [], ◌∷◌, length, take, set, get_or, Some, slice_get, slice_index, refl, sym, ap, ◌∙◌, subst, arith}
use Rattle.std.proofs.lemmas.Bool.{ne_eqb, eq-eqb}
use Rattle.std.proofs.lemmas.Bool.Decides.{eqb_tells}
use Rattle.std.proofs.Math.Bool.{or-true, or-false}
use Rattle.std.proofs.lemmas.Option.{none-some, same_Some}
use Rattle.vector_clocks.specs.Before.{is_among}
use Rattle.vector_clocks.specs.Joins.{Joins}
use Rattle.vector_clocks.specs.Knowing.{GivenBy, AreGiven, SetBy, AreSet}
use Rattle.vector_clocks.specs.declared.clock.Clock.{Clock}
use Rattle.vector_clocks.proofs.Taking.{among_more}

module _ {A : Type 0} where
  pub set_there : (xs : List A) (i : ℕ) (x y : A) → slice_get (set xs i x) i ≡ Some y → y ≡ x
  set_there [] i x y e = absurd (none-some y e)
  set_there (a ∷ xs) zero x y e = sym (same_Some x y e)
  set_there (a ∷ xs) (suc i) x y e = set_there xs i x y e

  pub set_elsewhere : (xs : List A) (i j : ℕ) (x y : A) → i ≢ j → slice_get (set xs i x) j ≡ Some y → slice_get xs j ≡ Some y
  set_elsewhere [] i j x y other e = e
  set_elsewhere (a ∷ xs) zero zero x y other e = absurd (other refl)
  set_elsewhere (a ∷ xs) zero (suc j) x y other e = e
  set_elsewhere (a ∷ xs) (suc i) zero x y other e = e
  set_elsewhere (a ∷ xs) (suc i) (suc j) x y other e = set_elsewhere xs i j x y (λ same. other (ap suc same)) e

-- a clock that is given twice
twice : (a b c d : List ℕ) → Joins a b c → Joins c b d → Joins a b d
twice a b c d one two = record {
  first = λ w. let e = one.first w in let f = two.first w in omega arith;
  second = two.second;
  one = λ w. by w (two.one w) (one.one w);
} where
  by : (w : ℕ) → (slice_index d w ≡ slice_index c w) ⊎ (slice_index d w ≡ slice_index b w) → (slice_index c w ≡ slice_index a w) ⊎ (slice_index c w ≡ slice_index b w) → (slice_index d w ≡ slice_index a w) ⊎ (slice_index d w ≡ slice_index b w)
  by w (inr e) g = inr e
  by w (inl e) (inl g) = inl (e ∙ g)
  by w (inl e) (inr g) = inr (e ∙ g)

given_more : (b : Bool) (clock was mid new : Clock) → GivenBy b clock was mid → Joins mid.counts clock.counts new.counts → Joins was.counts clock.counts new.counts
given_more true clock was mid new given joins = twice was.counts clock.counts mid.counts new.counts given joins
given_more false clock was mid new given joins = subst (λ (k : Clock). Joins k.counts clock.counts new.counts) given joins

module _ (gives : List ℕ) (m : ℕ) (within : m < length gives) (clock : Clock) (start old : List Clock) where
  there : (c : ℕ) → get_or gives m 0 ≡ c → is_among (take (m + 1) gives) c ≡ true
  there c is = among_more gives m c within ∙ ap (λ b. is_among (take m gives) c || b) (eq-eqb (get_or gives m 0) c is) ∙ or-true (is_among (take m gives) c)

  elsewhere : (c : ℕ) → get_or gives m 0 ≢ c → is_among (take (m + 1) gives) c ≡ is_among (take m gives) c
  elsewhere c other = among_more gives m c within ∙ ap (λ b. is_among (take m gives) c || b) (ne_eqb (get_or gives m 0) c other) ∙ or-false (is_among (take m gives) c)

  pub gives_more : (mid new : Clock) → slice_get old (get_or gives m 0) ≡ Some mid → Joins mid.counts clock.counts new.counts → AreGiven (take m gives) clock start old → AreGiven (take (m + 1) gives) clock start (set old (get_or gives m 0) new)
  gives_more mid new at joins are = λ c k at_c. by c k at_c (eqb_tells (get_or gives m 0) c) where
    by_own : (c : ℕ) (k : Clock) → k ≡ new → (was : Clock) × (slice_get start c ≡ Some was) × GivenBy (is_among (take m gives) c) clock was mid → get_or gives m 0 ≡ c → (was : Clock) × (slice_get start c ≡ Some was) × GivenBy (is_among (take (m + 1) gives) c) clock was k
    by_own c k is (was, at_was, given) same =
        (was, at_was, subst (λ b. GivenBy b clock was k) (sym (there c same)) (subst (λ (j : Clock). Joins was.counts clock.counts j.counts) (sym is) (given_more (is_among (take m gives) c) clock was mid new given joins)))

    by_other : (c : ℕ) (k : Clock) → (was : Clock) × (slice_get start c ≡ Some was) × GivenBy (is_among (take m gives) c) clock was k → get_or gives m 0 ≢ c → (was : Clock) × (slice_get start c ≡ Some was) × GivenBy (is_among (take (m + 1) gives) c) clock was k
    by_other c k (was, at_was, given) other = (was, at_was, subst (λ b. GivenBy b clock was k) (sym (elsewhere c other)) given)

    by : (c : ℕ) (k : Clock) → slice_get (set old (get_or gives m 0) new) c ≡ Some k → (((get_or gives m 0 == c) ≡ true) × (get_or gives m 0 ≡ c)) ⊎ (((get_or gives m 0 == c) ≡ false) × (get_or gives m 0 ≢ c)) → (was : Clock) × (slice_get start c ≡ Some was) × GivenBy (is_among (take (m + 1) gives) c) clock was k
    by c k at_c (inl (t, same)) = by_own c k (set_there old (get_or gives m 0) new k (ap (slice_get (set old (get_or gives m 0) new)) same ∙ at_c)) (are c mid (ap (slice_get old) (sym same) ∙ at)) same
    by c k at_c (inr (t, other)) = by_other c k (are c k (set_elsewhere old (get_or gives m 0) c new k other at_c)) other

  pub sets_more : (mid : Clock) → slice_get old (get_or gives m 0) ≡ Some mid → AreSet (take m gives) clock start old → AreSet (take (m + 1) gives) clock start (set old (get_or gives m 0) clock)
  sets_more mid at are = λ c k at_c. by c k at_c (eqb_tells (get_or gives m 0) c) where
    by_own : (c : ℕ) (k : Clock) → k ≡ clock → (was : Clock) × (slice_get start c ≡ Some was) × SetBy (is_among (take m gives) c) clock was mid → get_or gives m 0 ≡ c → (was : Clock) × (slice_get start c ≡ Some was) × SetBy (is_among (take (m + 1) gives) c) clock was k
    by_own c k is (was, at_was, given) same = (was, at_was, subst (λ b. SetBy b clock was k) (sym (there c same)) is)

    by_other : (c : ℕ) (k : Clock) → (was : Clock) × (slice_get start c ≡ Some was) × SetBy (is_among (take m gives) c) clock was k → get_or gives m 0 ≢ c → (was : Clock) × (slice_get start c ≡ Some was) × SetBy (is_among (take (m + 1) gives) c) clock was k
    by_other c k (was, at_was, given) other = (was, at_was, subst (λ b. SetBy b clock was k) (sym (elsewhere c other)) given)

    by : (c : ℕ) (k : Clock) → slice_get (set old (get_or gives m 0) clock) c ≡ Some k → (((get_or gives m 0 == c) ≡ true) × (get_or gives m 0 ≡ c)) ⊎ (((get_or gives m 0 == c) ≡ false) × (get_or gives m 0 ≢ c)) → (was : Clock) × (slice_get start c ≡ Some was) × SetBy (is_among (take (m + 1) gives) c) clock was k
    by c k at_c (inl (t, same)) = by_own c k (set_there old (get_or gives m 0) clock k (ap (slice_get (set old (get_or gives m 0) clock)) same ∙ at_c)) (are c mid (ap (slice_get old) (sym same) ∙ at)) same
    by c k at_c (inr (t, other)) = by_other c k (are c k (set_elsewhere old (get_or gives m 0) c clock k other at_c)) other
