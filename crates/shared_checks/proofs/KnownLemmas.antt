-- How much of the history a front knows of.
use Rattle.std.proofs.Common.{◌≡◌, ◌⊎◌, inl, inr, ℕ, zero, suc, ◌+◌, ◌<◌, ◌≤◌, List, [], ◌∷◌, length, take, max, Some, slice_get, slice_index, refl, sym, ap, ◌∙◌, subst, arith}
use Rattle.std.proofs.Math.Nat.{eq-or-lt_of_le}
use Rattle.std.proofs.lemmas.Option.{none-some, same_Some}
use Rattle.sync_model.specs.declared.item.Item.{Item}
use Rattle.sync_model.specs.SharedCalls.{bound, Knows}
use Rattle.sync_model.proofs.SharedCallers.{bound_above}
use Rattle.shared_checks.specs.Calls.{calls_in}
use Rattle.shared_checks.specs.Fronts.{CountsMade, bound_of, known_from, known}

-- the first k calls lie within n entries exactly where the greatest of their bounds does
bound_within : (k : ℕ) (items : List Item) (n : ℕ) → ((j : ℕ) (x : Item) → j < k → slice_get items j ≡ Some x → bound x ≤ n) → bound_of (take k items) ≤ n
bound_within zero items n each = omega arith
bound_within (suc k) [] n each = omega arith
bound_within (suc k) (x ∷ items) n each =
    let first = each 0 x (omega arith) refl in
    let rest = bound_within k items n (λ j y below at. each (suc j) y (omega (arith, below)) at) in
    omega (arith, first, rest)

within_bound : (k : ℕ) (items : List Item) (n : ℕ) → bound_of (take k items) ≤ n → (j : ℕ) (x : Item) → j < k → slice_get items j ≡ Some x → bound x ≤ n
within_bound zero items n most j x below at = absurd (omega (arith, below))
within_bound (suc k) [] n most j x below at = absurd (none-some x at)
within_bound (suc k) (y ∷ items) n most zero x below at = let first : bound y ≤ n = omega (arith, most) in subst (λ (z : Item). bound z ≤ n) (same_Some y x at) first
within_bound (suc k) (y ∷ items) n most (suc j) x below at = within_bound k items n (omega (arith, most)) j x (omega (arith, below)) at

module _ (front : List ℕ) (n : ℕ) where
  -- the counted calls of the lists from caller k on
  all_within : (k : ℕ) (lists : List (List Item)) → known_from k lists front ≤ n → (c : ℕ) → bound_of (take (slice_index front (k + c)) (calls_in lists c)) ≤ n
  all_within k [] most c = none_counted (slice_index front (k + c)) c where
    none_counted : (m c : ℕ) → bound_of (take m (calls_in [] c)) ≤ n
    none_counted zero c = omega arith
    none_counted (suc m) c = omega arith
  all_within k (items ∷ lists) most zero = let same : k ≡ k + 0 = omega arith in subst (λ d. bound_of (take (slice_index front d) items) ≤ n) same (omega (arith, most))
  all_within k (items ∷ lists) most (suc c) =
      let same : (k + 1) + c ≡ k + suc c = omega arith in
      subst (λ d. bound_of (take (slice_index front d) (calls_in lists c)) ≤ n) same (all_within (k + 1) lists (omega (arith, most)) c)

  within_all : (k : ℕ) (lists : List (List Item)) → ((c : ℕ) → bound_of (take (slice_index front (k + c)) (calls_in lists c)) ≤ n) → known_from k lists front ≤ n
  within_all k [] each = omega arith
  within_all k (items ∷ lists) each =
      let here : k + 0 ≡ k = omega arith in
      let first : bound_of (take (slice_index front k) items) ≤ n = subst (λ d. bound_of (take (slice_index front d) items) ≤ n) here (each 0) in
      let rest = within_all (k + 1) lists (λ c. let same : k + suc c ≡ (k + 1) + c = omega arith in subst (λ d. bound_of (take (slice_index front d) (calls_in lists c)) ≤ n) same (each (suc c))) in
      omega (arith, first, rest)

  pub known_within : (lists : List (List Item)) → Knows (calls_in lists) front n → known lists front ≤ n
  known_within lists knows = within_all 0 lists (λ c. let same : c ≡ 0 + c = omega arith in subst (λ d. bound_of (take (slice_index front d) (calls_in lists c)) ≤ n) same (bound_within (slice_index front c) (calls_in lists c) n (knows.within c)))

  pub within_known : (lists : List (List Item)) → CountsMade (calls_in lists) front → known lists front ≤ n → Knows (calls_in lists) front n
  within_known lists made most = record {
    made = made;
    within = λ c. let same : 0 + c ≡ c = omega arith in within_bound (slice_index front c) (calls_in lists c) n (subst (λ d. bound_of (take (slice_index front d) (calls_in lists c)) ≤ n) same (all_within 0 lists most c));
  }

-- where calls stand behind each other, the last of the first ones has the greatest bound
pub last_is_greatest : (items : List Item) → ((i j : ℕ) (x y : Item) → i < j → slice_get items i ≡ Some x → slice_get items j ≡ Some y → bound x ≤ y.place) → (k : ℕ) (x : Item) → slice_get items k ≡ Some x → bound_of (take (suc k) items) ≡ bound x
last_is_greatest items order k x at =
    let most = bound_within (suc k) items (bound x) (λ j y below there. each j y there (eq-or-lt_of_le {n = j} {m = k} (omega (arith, below)))) in
    let least = within_bound (suc k) items (bound_of (take (suc k) items)) (omega arith) k x (omega arith) at in
    omega (arith, most, least)
  where
    each : (j : ℕ) (y : Item) → slice_get items j ≡ Some y → (j ≡ k) ⊎ (j < k) → bound y ≤ bound x
    each j y there (inl same) = subst (λ (z : Item). bound y ≤ bound z) (same_Some y x (sym there ∙ ap (slice_get items) same ∙ at)) (omega arith)
    each j y there (inr below) = let behind = order j k y x below there at in let above = bound_above x in omega (arith, behind, above)

-- one caller more
known_next : (front : List ℕ) (d k : ℕ) (lists : List (List Item)) → k < length lists
    → known_from d (take (suc k) lists) front ≡ max (known_from d (take k lists) front) (bound_of (take (slice_index front (d + k)) (calls_in lists k)))
known_next front d k [] below = absurd (omega (arith, below))
known_next front d zero (items ∷ lists) below =
    let same : d + 0 ≡ d = omega arith in
    let here : bound_of (take (slice_index front (d + 0)) items) ≡ bound_of (take (slice_index front d) items) = ap (λ e. bound_of (take (slice_index front e) items)) same in
    omega (arith, here)
known_next front d (suc k) (items ∷ lists) below =
    let same : d + suc k ≡ (d + 1) + k = omega arith in
    let here : bound_of (take (slice_index front (d + suc k)) (calls_in lists k)) ≡ bound_of (take (slice_index front ((d + 1) + k)) (calls_in lists k)) = ap (λ e. bound_of (take (slice_index front e) (calls_in lists k))) same in
    let rest = known_next front (d + 1) k lists (omega (arith, below)) in
    omega (arith, here, rest)

-- what a front knows of by the first k callers, and the counts that are left
pub record KnownTo (lists : List (List Item)) (front : List ℕ) (k most : ℕ) (counts : List ℕ) : Type 0 where
  pub left : (c : ℕ) → slice_index counts c ≡ slice_index front (k + c)
  pub is : most ≡ known (take k lists) front

module _ (lists : List (List Item)) (front : List ℕ) (k most : ℕ) (counts : List ℕ) (so_far : KnownTo lists front k most counts) where
  pub next_of : (count : ℕ) → count ≡ slice_index counts 0 → count ≡ slice_index front k
  next_of count is = is ∙ so_far.left 0 ∙ ap (slice_index front) (omega arith)

  pub known_more : (count : ℕ) (left : List ℕ) → k < length lists → count ≡ slice_index counts 0 → ((c : ℕ) → slice_index left c ≡ slice_index counts (c + 1))
      → (new : ℕ) → new ≡ max most (bound_of (take count (calls_in lists k))) → KnownTo lists front (k + 1) new left
  known_more count left below is rest new joined = record {
    left = λ c. rest c ∙ so_far.left (c + 1) ∙ ap (slice_index front) (omega arith);
    is = let more = known_next front 0 k lists below in let was = so_far.is in
        let zero_on : k ≡ 0 + k = omega arith in
        let counted : count ≡ slice_index front (0 + k) = next_of count is ∙ ap (slice_index front) zero_on in
        let here : bound_of (take count (calls_in lists k)) ≡ bound_of (take (slice_index front (0 + k)) (calls_in lists k)) = ap (λ n. bound_of (take n (calls_in lists k))) counted in
        let one : k + 1 ≡ suc k = omega arith in
        let same : known (take (k + 1) lists) front ≡ known (take (suc k) lists) front = ap (λ n. known (take n lists) front) one in
        omega (arith, more, was, here, same, joined);
  }
