-- Lists of calls in the order of places, and what a front knows of them.
use Rattle.std.proofs.Common.{◌≡◌, ◌↔◌, ◌⊎◌, inl, inr, ℕ, zero, suc, ◌+◌, ◌-◌, ◌<◌, ◌≤◌, List, [], ◌∷◌, length, get_or, Some, None, slice_get, slice_index, refl, sym, ap, ◌∙◌, subst, arith}
use Rattle.std.proofs.Math.Nat.{eq-or-lt_of_le}
use Rattle.std.proofs.lemmas.Option.{none-some, same_Some, slice_get_within, slice_get_cases, slice_get-get_or}
use Rattle.sync_model.specs.declared.item.Item.{Item}
use Rattle.sync_model.specs.Front.{AtLeast}
use Rattle.sync_model.specs.SharedCalls.{bound, Knows}
use Rattle.sync_model.proofs.SharedCallers.{bound_above}
use Rattle.shared_checks.specs.Calls.{calls_in}
use Rattle.shared_checks.specs.Fronts.{LawfulFronts, IsInOrder, IsNext, KnowsLast, KnowsEach}

-- comparing two fronts count by count: what is left of both decides
module _ (first count : ℕ) (counts counts_left others others_left : List ℕ) (is_first : first ≡ slice_index counts 0) (left : (c : ℕ) → slice_index counts_left c ≡ slice_index counts (c + 1)) (is_count : others ≡ count ∷ others_left) where
  other_at : (c : ℕ) → slice_index others (suc c) ≡ slice_index others_left c
  other_at c = ap (λ (xs : List ℕ). slice_index xs (suc c)) is_count

  other_first : slice_index others 0 ≡ count
  other_first = ap (λ (xs : List ℕ). slice_index xs 0) is_count

  pub least_on : count ≤ first → AtLeast counts_left others_left ↔ AtLeast counts others
  least_on less = (forth, back) where
    forth : AtLeast counts_left others_left → AtLeast counts others
    forth least zero = omega (arith, other_first, is_first, less)
    forth least (suc c) = let same : c + 1 ≡ suc c = omega arith in let there : slice_index counts_left c ≡ slice_index counts (suc c) = left c ∙ ap (slice_index counts) same in omega (arith, other_at c, there, least c)

    back : AtLeast counts others → AtLeast counts_left others_left
    back least c = let same : c + 1 ≡ suc c = omega arith in let there : slice_index counts_left c ≡ slice_index counts (suc c) = left c ∙ ap (slice_index counts) same in omega (arith, other_at c, there, least (suc c))

  pub not_least : first < count → AtLeast counts others → ⊥
  not_least less least = omega (arith, other_first, is_first, less, least 0)

-- the counts of a front from caller k on
module _ (lists : List (List Item)) (n k count : ℕ) (counts left : List ℕ) (is : counts ≡ count ∷ left) where
  abbrev pub From : ℕ → List ℕ → Type 0
  From k counts = (c : ℕ) → KnowsLast (calls_in lists (k + c)) (slice_index counts c) n

  pub known_on : KnowsLast (calls_in lists k) count n → From (k + 1) left ↔ From k counts
  known_on last = (forth, back) where
    forth : From (k + 1) left → From k counts
    forth from zero =
        let same : k ≡ k + 0 = omega arith in
        subst (λ (xs : List ℕ). KnowsLast (calls_in lists (k + 0)) (slice_index xs 0) n) (sym is) (subst (λ d. KnowsLast (calls_in lists d) count n) same last)
    forth from (suc c) =
        let same : (k + 1) + c ≡ k + suc c = omega arith in
        subst (λ (xs : List ℕ). KnowsLast (calls_in lists (k + suc c)) (slice_index xs (suc c)) n) (sym is) (subst (λ d. KnowsLast (calls_in lists d) (slice_index left c) n) same (from c))

    back : From k counts → From (k + 1) left
    back from c =
        let same : k + suc c ≡ (k + 1) + c = omega arith in
        subst (λ d. KnowsLast (calls_in lists d) (slice_index left c) n) same (subst (λ (xs : List ℕ). KnowsLast (calls_in lists (k + suc c)) (slice_index xs (suc c)) n) is (from (suc c)))

  pub known_first : From k counts → KnowsLast (calls_in lists k) count n
  known_first from =
      let same : k + 0 ≡ k = omega arith in
      subst (λ d. KnowsLast (calls_in lists d) count n) same (subst (λ (xs : List ℕ). KnowsLast (calls_in lists (k + 0)) (slice_index xs 0) n) is (from 0))

-- nobody's calls are counted where no count is left
pub known_none : (lists : List (List Item)) (n k : ℕ) (counts : List ℕ) → counts ≡ [] → (c : ℕ) → KnowsLast (calls_in lists (k + c)) (slice_index counts c) n
known_none lists n k counts is c = subst (λ (xs : List ℕ). KnowsLast (calls_in lists (k + c)) (slice_index xs c) n) (sym is) tt

module _ (c : ℕ) (items : List Item) where
  -- the first n calls are in order
  pub record InOrderTo (n : ℕ) : Type 0 where
    pub own : (j : ℕ) (x : Item) → j < n → slice_get items j ≡ Some x → slice_index x.front c ≡ j
    pub rises : (i j : ℕ) (x y : Item) → i < j → j < n → slice_get items i ≡ Some x → slice_get items j ≡ Some y → AtLeast y.front x.front
    pub behind : (i j : ℕ) (x y : Item) → i < j → j < n → slice_get items i ≡ Some x → slice_get items j ≡ Some y → bound x ≤ y.place

  pub none_in_order : InOrderTo 0
  none_in_order = record { own = λ j x below. absurd (omega (arith, below)); rises = λ i j x y before below. absurd (omega (arith, below)); behind = λ i j x y before below. absurd (omega (arith, below)) }

  pub one_more : (n : ℕ) → InOrderTo n → IsNext c items n → InOrderTo (n + 1)
  one_more n so_far next = record {
    own = λ j x below at. own_by j x at (eq-or-lt_of_le {n = j} {m = n} (omega (arith, below)));
    rises = λ i j x y before below at_i at_j. rises_by i j x y before at_i at_j (eq-or-lt_of_le {n = j} {m = n} (omega (arith, below)));
    behind = λ i j x y before below at_i at_j. behind_by i j x y before at_i at_j (eq-or-lt_of_le {n = j} {m = n} (omega (arith, below)));
  } where
    own_by : (j : ℕ) (x : Item) → slice_get items j ≡ Some x → (j ≡ n) ⊎ (j < n) → slice_index x.front c ≡ j
    own_by j x at (inl same) = next.own x (ap (slice_get items) (sym same) ∙ at) ∙ sym same
    own_by j x at (inr below) = so_far.own j x below at

    -- the call before number n
    last : (i : ℕ) (y : Item) → i < n → slice_get items n ≡ Some y → slice_get items (n - 1) ≡ Some (get_or items (n - 1) y)
    last i y before at = let inside = slice_get_within items n y at in slice_get-get_or items (n - 1) y (omega (arith, before, inside))

    rises_by : (i j : ℕ) (x y : Item) → i < j → slice_get items i ≡ Some x → slice_get items j ≡ Some y → (j ≡ n) ⊎ (j < n) → AtLeast y.front x.front
    rises_by i j x y before at_i at_j (inr below) = so_far.rises i j x y before below at_i at_j
    rises_by i j x y before at_i at_j (inl same) = by (eq-or-lt_of_le {n = i} {m = n - 1} (omega (arith, before, same))) where
      at_n : slice_get items n ≡ Some y
      at_n = ap (slice_get items) (sym same) ∙ at_j

      by : (i ≡ n - 1) ⊎ (i < n - 1) → AtLeast y.front x.front
      by (inl e) d = next.rises x y (omega (arith, before, same)) (ap (slice_get items) (sym e) ∙ at_i) at_n d
      by (inr below) d =
          let z : Item = get_or items (n - 1) y in
          let at_z = last i y (omega (arith, before, same)) at_n in
          let one = so_far.rises i (n - 1) x z below (omega (arith, below)) at_i at_z d in
          let two = next.rises z y (omega (arith, before, same)) at_z at_n d in
          omega (arith, one, two)

    behind_by : (i j : ℕ) (x y : Item) → i < j → slice_get items i ≡ Some x → slice_get items j ≡ Some y → (j ≡ n) ⊎ (j < n) → bound x ≤ y.place
    behind_by i j x y before at_i at_j (inr below) = so_far.behind i j x y before below at_i at_j
    behind_by i j x y before at_i at_j (inl same) = by (eq-or-lt_of_le {n = i} {m = n - 1} (omega (arith, before, same))) where
      at_n : slice_get items n ≡ Some y
      at_n = ap (slice_get items) (sym same) ∙ at_j

      by : (i ≡ n - 1) ⊎ (i < n - 1) → bound x ≤ y.place
      by (inl e) = next.behind x y (omega (arith, before, same)) (ap (slice_get items) (sym e) ∙ at_i) at_n
      by (inr below) =
          let z : Item = get_or items (n - 1) y in
          let at_z = last i y (omega (arith, before, same)) at_n in
          let one = so_far.behind i (n - 1) x z below (omega (arith, below)) at_i at_z in
          let two = next.behind z y (omega (arith, before, same)) at_z at_n in
          let above = bound_above z in
          omega (arith, one, two, above)

  pub all_in_order : (n : ℕ) → length items ≤ n → InOrderTo n → IsInOrder c items
  all_in_order n all so_far = record {
    own = λ j x at. so_far.own j x (within j x at) at;
    rises = λ i j x y before at_i at_j. so_far.rises i j x y before (within j y at_j) at_i at_j;
    behind = λ i j x y before at_i at_j. so_far.behind i j x y before (within j y at_j) at_i at_j;
  } where
    within : (j : ℕ) (x : Item) → slice_get items j ≡ Some x → j < n
    within j x at = let inside = slice_get_within items j x at in omega (arith, inside, all)

  pub next_of : IsInOrder c items → (n : ℕ) → IsNext c items n
  next_of order n = record {
    own = λ x at. order.own n x at;
    rises = λ x y some at_i at_j. order.rises (n - 1) n x y (omega (arith, some)) at_i at_j;
    behind = λ x y some at_i at_j. order.behind (n - 1) n x y (omega (arith, some)) at_i at_j;
  }

-- no calls are in order
pub empty_in_order : (c : ℕ) → IsInOrder c []
empty_in_order c = record { own = λ j x at. absurd (none-some x at); rises = λ i j x y before at. absurd (none-some x at); behind = λ i j x y before at. absurd (none-some x at) }

module _ (calls : ℕ → List Item) where
  pub order_of : LawfulFronts calls → (c : ℕ) → IsInOrder c (calls c)
  order_of law c = record {
    own = law.own c;
    rises = law.rises c;
    behind = λ i j x y before at_i at_j. let own = law.own c j y at_j in (law.knows c j y at_j).within c i x (omega (arith, own, before)) at_i;
  }

module _ (lists : List (List Item)) where
  -- a front that knows the calls that it counts knows the last one of each caller
  pub each_of : (front : List ℕ) (n : ℕ) → Knows (calls_in lists) front n → KnowsEach lists front n
  each_of front n knows c = by (slice_index front c) refl where
    by : (k : ℕ) → slice_index front c ≡ k → KnowsLast (calls_in lists c) k n
    by zero is = tt
    by (suc k) is = at (slice_get_cases (calls_in lists c) k).1 where
      made : k < length (calls_in lists c)
      made = let m = knows.made c in omega (arith, is, m)

      at : ((x : Item) × (k < length (calls_in lists c)) × (slice_get (calls_in lists c) k ≡ Some x) × (get_or (calls_in lists c) k x ≡ x)) ⊎ ((length (calls_in lists c) ≤ k) × (slice_get (calls_in lists c) k ≡ None))
          → (x : Item) × (slice_get (calls_in lists c) k ≡ Some x) × (bound x ≤ n)
      at (inl (x, inside, e, read)) = (x, e, knows.within c k x (omega (arith, is)) e)
      at (inr (past, none)) = absurd (omega (arith, past, made))

  -- and the other way round, where the lists are in order
  module _ (order : (c : ℕ) → IsInOrder c (calls_in lists c)) where
    pub knows_of : (front : List ℕ) (n : ℕ) → KnowsEach lists front n → Knows (calls_in lists) front n
    knows_of front n each = record { made = λ c. made c (slice_index front c) (each c); within = λ c j x below at. within c j x (slice_index front c) below at (each c) } where
      made : (c k : ℕ) → KnowsLast (calls_in lists c) k n → k ≤ length (calls_in lists c)
      made c zero last = omega arith
      made c (suc k) (x, at, below) = let inside = slice_get_within (calls_in lists c) k x at in omega (arith, inside)

      within : (c j : ℕ) (x : Item) (k : ℕ) → j < k → slice_get (calls_in lists c) j ≡ Some x → KnowsLast (calls_in lists c) k n → bound x ≤ n
      within c j x zero below at last = absurd (omega (arith, below))
      within c j x (suc k) below at (y, at_y, bounded) = by (eq-or-lt_of_le {n = j} {m = k} (omega (arith, below))) where
        by : (j ≡ k) ⊎ (j < k) → bound x ≤ n
        by (inl same) = subst (λ (z : Item). bound z ≤ n) (same_Some y x (sym at_y ∙ ap (slice_get (calls_in lists c)) (sym same) ∙ at)) bounded
        by (inr before) = let one = (order c).behind j k x y before at at_y in let above = bound_above y in omega (arith, one, above, bounded)

    pub fronts_of : ((c j : ℕ) (x : Item) → slice_get (calls_in lists c) j ≡ Some x → KnowsEach lists x.front x.place) → LawfulFronts (calls_in lists)
    fronts_of each = record { knows = λ c j x at. knows_of x.front x.place (each c j x at); own = λ c. (order c).own; rises = λ c. (order c).rises }
