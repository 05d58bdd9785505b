-- Laws of races, and of lists of them.
use Rattle.std.proofs.Common.{◌≡◌, ◌≢◌, ◌↔◌, ◌⊎◌, inl, inr, ℕ, zero, suc, ◌<◌, ◌≤◌, true, false, ◌||◌, List, [], ◌∷◌, get_or, Option, Some, None, slice_get, refl, sym, ap, ◌∙◌, subst, arith}
use Rattle.std.specs.Prelude.{AllPairs, Contains, map, option_map}
use Rattle.std.proofs.lemmas.Bool.{false≢true, cases_order}
use Rattle.std.proofs.lemmas.Option.{none-some, same_Some, slice_get_within, get_or_from_slice_get}
use Rattle.std.proofs.lemmas.List.Elements.{All-contains}
use Rattle.std.proofs.Math.Bool.{or-true}
use Rattle.workload.specs.Plan.{Plan}
use Rattle.step_runner.specs.declared.trace.TraceItem.{TraceItem}
use Rattle.race_clocks.specs.declared.race.Race.{Race}
use Rattle.race_clocks.specs.HappensBefore.{Before}
use Rattle.race_clocks.specs.Races.{Access, access_of, Conflicts, IsRace, Pair, pair, Precedes, ArePairs, race_of, AreRaces}
use Rattle.race_clocks.specs.Rows.{IsOwn}
use Rattle.race_clocks.proofs.Order.{before_earlier, own_before}

module _ (plan : Plan) (trace : List TraceItem) (i j : ℕ) where
  conflict_of : (x y : TraceItem) → slice_get trace i ≡ Some x → slice_get trace j ≡ Some y → IsRace plan trace i j → Conflicts x y
  conflict_of x y at_x at_y r = subst (λ s. Conflicts s y) (same_Some r.first x (sym r.at_first ∙ at_x)) (subst (Conflicts r.first) (same_Some r.second y (sym r.at_second ∙ at_y)) r.conflict)

  pub ordered : IsRace plan trace i j → (Before plan trace i j → ⊥) × (Before plan trace j i → ⊥)
  ordered r = (r.unordered, λ before. let one = before_earlier plan trace j i before in let two = r.earlier in omega (arith, one, two))

  pub told_once : IsRace plan trace i j → (i < j) × (IsRace plan trace j i → ⊥)
  told_once r = (r.earlier, λ other. let one = r.earlier in let two = other.earlier in omega (arith, one, two))

  pub of_one_worker : IsOwn trace i j → IsRace plan trace i j → ⊥
  of_one_worker own r = r.unordered (own_before plan trace i j own)

  pub first_without : (x : TraceItem) → slice_get trace i ≡ Some x → access_of x ≡ None → IsRace plan trace i j → ⊥
  first_without x at none r = none-some r.conflict.first (sym none ∙ ap access_of (same_Some x r.first (sym at ∙ r.at_first)) ∙ r.conflict.of_first)

  pub second_without : (y : TraceItem) → slice_get trace j ≡ Some y → access_of y ≡ None → IsRace plan trace i j → ⊥
  second_without y at none r = none-some r.conflict.second (sym none ∙ ap access_of (same_Some y r.second (sym at ∙ r.at_second)) ∙ r.conflict.of_second)

  module _ (x y : TraceItem) (a b : Access) (at_x : slice_get trace i ≡ Some x) (at_y : slice_get trace j ≡ Some y) (of_x : access_of x ≡ Some a) (of_y : access_of y ≡ Some b) where
    first_is : (c : Conflicts x y) → c.first ≡ a
    first_is c = sym (same_Some a c.first (sym of_x ∙ c.of_first))

    second_is : (c : Conflicts x y) → c.second ≡ b
    second_is c = sym (same_Some b c.second (sym of_y ∙ c.of_second))

    pub reads : a.writes ≡ false → b.writes ≡ false → IsRace plan trace i j → ⊥
    reads a_reads b_reads r = let c = conflict_of x y at_x at_y r in by c where
      by : Conflicts x y → ⊥
      by c = false≢true (sym (ap (λ w. w || c.second.writes) (ap (λ (k : Access). k.writes) (first_is c) ∙ a_reads) ∙ ap (λ (k : Access). k.writes) (second_is c) ∙ b_reads) ∙ c.written)

    pub variables : a.variable ≢ b.variable → IsRace plan trace i j → ⊥
    variables other r = by (conflict_of x y at_x at_y r) where
      by : Conflicts x y → ⊥
      by c = other (ap (λ (k : Access). k.variable) (sym (first_is c)) ∙ c.variable ∙ ap (λ (k : Access). k.variable) (second_is c))

    pub unordered : a.variable ≡ b.variable → (a.writes ≡ true) ⊎ (b.writes ≡ true) → i < j → (Before plan trace i j → ⊥) → IsRace plan trace i j
    unordered variable writes earlier apart = record {
      first = x;
      second = y;
      at_first = at_x;
      at_second = at_y;
      earlier = earlier;
      unordered = apart;
      conflict = record {
        first = a;
        second = b;
        of_first = of_x;
        of_second = of_y;
        variable = variable;
        written = by writes;
        workers = λ same. apart (own_before plan trace i j (record { first = x; second = y; at_first = at_x; at_second = at_y; earlier = earlier; worker = same }));
      };
    } where
      by : (a.writes ≡ true) ⊎ (b.writes ≡ true) → (a.writes || b.writes) ≡ true
      by (inl e) = ap (λ w. w || b.writes) e
      by (inr e) = ap (λ w. a.writes || w) e ∙ or-true a.writes

not_twice : (r s : Pair) → Precedes r s → Precedes s r → ⊥
not_twice r s (inl one) (inl two) = omega (arith, one, two)
not_twice r s (inl one) (inr (same, two)) = omega (arith, one, same)
not_twice r s (inr (same, one)) (inl two) = omega (arith, two, same)
not_twice r s (inr (same, one)) (inr (also, two)) = omega (arith, one, two)

-- two lists of one order that have the same elements are one list
module _ (x : Pair) (xs : List Pair) (sorted : AllPairs Precedes (x ∷ xs)) where
  head_precedes : (r : Pair) → Contains xs r → Precedes x r
  head_precedes r (k, within, is) = subst (Precedes x) is (sorted 0 (suc k) r (omega arith) (omega (arith, within)))

  tail_sorted : AllPairs Precedes xs
  tail_sorted i j d less within = sorted (suc i) (suc j) d (omega (arith, less)) (omega (arith, within))

among_cons : (x r : Pair) (xs : List Pair) → Contains (x ∷ xs) r → (x ≡ r) ⊎ Contains xs r
among_cons x r xs (zero, within, is) = inl is
among_cons x r xs (suc k, within, is) = inr (k, omega (arith, within), is)

within_cons : (x r : Pair) (xs : List Pair) → Contains xs r → Contains (x ∷ xs) r
within_cons x r xs (k, within, is) = (suc k, omega (arith, within), is)

heads : (x y : Pair) (xs ys : List Pair) → AllPairs Precedes (x ∷ xs) → AllPairs Precedes (y ∷ ys) → (y ≡ x) ⊎ Contains ys x → (x ≡ y) ⊎ Contains xs y → x ≡ y
heads x y xs ys of_xs of_ys (inl e) f = sym e
heads x y xs ys of_xs of_ys (inr e) (inl f) = f
heads x y xs ys of_xs of_ys (inr e) (inr f) = absurd (not_twice x y (head_precedes x xs of_xs y f) (head_precedes y ys of_ys x e))

pub same_lists : (xs ys : List Pair) → AllPairs Precedes xs → AllPairs Precedes ys → ((r : Pair) → Contains xs r → Contains ys r) → ((r : Pair) → Contains ys r → Contains xs r) → xs ≡ ys
same_lists [] [] of_xs of_ys to from = refl
same_lists [] (y ∷ ys) of_xs of_ys to from = absurd (none (from y (0, omega arith, refl))) where
  none : Contains [] y → ⊥
  none (k, within, is) = omega (arith, within)
same_lists (x ∷ xs) [] of_xs of_ys to from = absurd (none (to x (0, omega arith, refl))) where
  none : Contains [] x → ⊥
  none (k, within, is) = omega (arith, within)
same_lists (x ∷ xs) (y ∷ ys) of_xs of_ys to from =
    ap (λ r. r ∷ xs) same ∙ ap (λ rs. y ∷ rs) (same_lists xs ys (tail_sorted x xs of_xs) (tail_sorted y ys of_ys)
    (λ r has. into r has (among_cons y r ys (to r (within_cons x r xs has)))) (λ r has. back r has (among_cons x r xs (from r (within_cons y r ys has)))))
  where
    same : x ≡ y
    same = heads x y xs ys of_xs of_ys (among_cons y x ys (to x (0, omega arith, refl))) (among_cons x y xs (from y (0, omega arith, refl)))

    into : (r : Pair) → Contains xs r → (y ≡ r) ⊎ Contains ys r → Contains ys r
    into r has (inl e) = let less = head_precedes x xs of_xs r has in let self = subst (λ h. Precedes h r) (same ∙ e) less in absurd (not_twice r r self self)
    into r has (inr old) = old

    back : (r : Pair) → Contains ys r → (x ≡ r) ⊎ Contains xs r → Contains xs r
    back r has (inl e) = let less = head_precedes y ys of_ys r has in let self = subst (λ h. Precedes h r) (sym same ∙ e) less in absurd (not_twice r r self self)
    back r has (inr old) = old

-- a list is known by its elements in `Some`
first_of_all : {A : Type 0} → List (Option A) → Option A
first_of_all [] = None
first_of_all (x ∷ xs) = x

all_but_first : {A : Type 0} → List (Option A) → List (Option A)
all_but_first [] = []
all_but_first (x ∷ xs) = xs

pub same_somes : {A : Type 0} (xs ys : List A) → map Some xs ≡ map Some ys → xs ≡ ys
unfolding first_of_all all_but_first
same_somes [] [] e = refl
same_somes [] (y ∷ ys) e = absurd (none-some y (ap first_of_all e))
same_somes (x ∷ xs) [] e = absurd (none-some x (sym (ap first_of_all e)))
same_somes (x ∷ xs) (y ∷ ys) e = ap (λ z. z ∷ xs) (same_Some x y (ap first_of_all e)) ∙ ap (λ zs. y ∷ zs) (same_somes xs ys (ap all_but_first e))

mapped_at : {A B : Type 0} (f : A → B) (xs : List A) (n : ℕ) → slice_get (map f xs) n ≡ option_map f (slice_get xs n)
mapped_at f [] n = refl
mapped_at f (x ∷ xs) zero = refl
mapped_at f (x ∷ xs) (suc n) = mapped_at f xs n

inner : {A : Type 0} (o q : Option A) → option_map Some o ≡ Some q → o ≡ q
inner None q e = absurd (none-some q e)
inner (Some x) q e = same_Some (Some x) q e

module _ (plan : Plan) (trace : List TraceItem) where
  one_pairs : (a b : List Pair) → ArePairs plan trace a → ArePairs plan trace b → a ≡ b
  one_pairs a b of_a of_b = same_lists a b of_a.sorted of_b.sorted
      (λ p has. of_b.complete p.earlier p.later (All-contains (λ (q : Pair). IsRace plan trace q.earlier q.later) a p of_a.sound has))
      (λ p has. of_a.complete p.earlier p.later (All-contains (λ (q : Pair). IsRace plan trace q.earlier q.later) b p of_b.sound has))

  pub one_list : (a b : List Race) → AreRaces plan trace a → AreRaces plan trace b → a ≡ b
  one_list a b of_a of_b = same_somes a b (sym of_a.told ∙ ap (map (race_of trace)) (one_pairs of_a.pairs of_b.pairs of_a.are of_b.are) ∙ of_b.told)

  pub told_at : (races : List Race) → (are : AreRaces plan trace races) → (n : ℕ) (p : Pair) → slice_get are.pairs n ≡ Some p → slice_get races n ≡ race_of trace p
  told_at races are n p at = inner (slice_get races n) (race_of trace p) (sym (mapped_at Some races n) ∙ ap (λ xs. slice_get xs n) (sym are.told) ∙ mapped_at (race_of trace) are.pairs n ∙ ap (option_map (race_of trace)) at)

module _ (plan : Plan) (trace : List TraceItem) (pairs : List Pair) (are : ArePairs plan trace pairs) where
  pub just_races : (i j : ℕ) → Contains pairs (pair i j) ↔ IsRace plan trace i j
  just_races i j = (λ has. All-contains (λ (s : Pair). IsRace plan trace s.earlier s.later) pairs (pair i j) are.sound has, are.complete i j)

  pub in_order : (m n : ℕ) (r s : Pair) → m < n → slice_get pairs m ≡ Some r → slice_get pairs n ≡ Some s → Precedes r s
  in_order m n r s less at_r at_s =
      let in_s = slice_get_within pairs n s at_s in
      subst (λ (k : Pair). Precedes k s) (get_or_from_slice_get pairs m r r at_r) (subst (Precedes (get_or pairs m r)) (get_or_from_slice_get pairs n s r at_s) (are.sorted m n r less in_s))

  pub just_once : (m n : ℕ) (r : Pair) → slice_get pairs m ≡ Some r → slice_get pairs n ≡ Some r → m ≡ n
  just_once m n r at also = by (cases_order m n) where
    by : (m ≡ n) ⊎ ((m < n) ⊎ (n < m)) → m ≡ n
    by (inl e) = e
    by (inr (inl less)) = let self = in_order m n r r less at also in absurd (not_twice r r self self)
    by (inr (inr more)) = let self = in_order n m r r more also at in absurd (not_twice r r self self)

  pub later_rise : (m n : ℕ) (r s : Pair) → m < n → slice_get pairs m ≡ Some r → slice_get pairs n ≡ Some s → r.later ≤ s.later
  later_rise m n r s less at_r at_s = by (in_order m n r s less at_r at_s) where
    by : Precedes r s → r.later ≤ s.later
    by (inl e) = omega (arith, e)
    by (inr (e, f)) = omega (arith, e)

  pub earlier_rise : (m n : ℕ) (r s : Pair) → m < n → slice_get pairs m ≡ Some r → slice_get pairs n ≡ Some s → r.later ≡ s.later → r.earlier < s.earlier
  earlier_rise m n r s less at_r at_s same = by (in_order m n r s less at_r at_s) where
    by : Precedes r s → r.earlier < s.earlier
    by (inl e) = absurd (omega (arith, e, same))
    by (inr (e, f)) = f
