-- The calls of lists, one after the other.
use Rattle.std.proofs.Common.{◌≡◌, ◌⊎◌, inl, inr, ℕ, zero, suc, ◌+◌, List, [], ◌∷◌, Some, slice_get, refl, sym, ap, ◌∙◌, subst, arith}
use Rattle.std.specs.List.{Contains}
use Rattle.std.specs.List.Sorted.{IsPermutation}
use Rattle.std.proofs.lemmas.List.Elements.{Contains-append_left, Contains-append_right, Contains-append_cases}
use Rattle.std.proofs.lemmas.List.Sorted.{Contains-permutation, IsPermutation-sym}
use Rattle.std.proofs.lemmas.Option.{none-some, same_Some}
use Rattle.sync_model.specs.declared.item.Item.{Item}
use Rattle.shared_checks.specs.declared.placed.Placed.{Placed}
use Rattle.shared_checks.specs.Calls.{calls_in}
use Rattle.shared_checks.specs.Placing.{placed_from, all_from, IsCallOf, AreAllOf}

-- the call is number p.index - k of these, and that of caller c
abbrev IsOf : ℕ → ℕ → List Item → Placed → Type 0
IsOf c k items p = (j : ℕ) × (x : Item) × (slice_get items j ≡ Some x) × (p ≡ record { caller = c; index = k + j; place = x.place })

no_item : {A : Type 0} (p : A) → Contains [] p → ⊥
no_item p (k, below, e) = omega (arith, below)

first_item : {A : Type 0} (x : A) (xs : List A) (p : A) → Contains (x ∷ xs) p → (x ≡ p) ⊎ Contains xs p
first_item x xs p (zero, below, e) = inl e
first_item x xs p (suc k, below, e) = inr (k, omega (arith, below), e)

later_item : {A : Type 0} (x : A) (xs : List A) (p : A) → Contains xs p → Contains (x ∷ xs) p
later_item x xs p (k, below, e) = (suc k, omega (arith, below), e)

placed_is : (c k : ℕ) (items : List Item) (p : Placed) → Contains (placed_from c k items) p → IsOf c k items p
placed_is c k [] p there = absurd (no_item p there)
placed_is c k (x ∷ items) p there = by (first_item (record { caller = c; index = k; place = x.place }) (placed_from c (k + 1) items) p there) (placed_is c (k + 1) items p) where
  by : (record { caller = c; index = k; place = x.place } ≡ p) ⊎ Contains (placed_from c (k + 1) items) p → (Contains (placed_from c (k + 1) items) p → IsOf c (k + 1) items p) → IsOf c k (x ∷ items) p
  by (inl e) rest = let same : k ≡ k + 0 = omega arith in let At : ℕ → Placed = λ n. record { caller = c; index = n; place = x.place } in (zero, x, refl, sym e ∙ ap At same)
  by (inr later) rest =
      let found = rest later in
      let same : (k + 1) + found.0 ≡ k + suc found.0 = omega arith in
      let At : ℕ → Placed = λ n. record { caller = c; index = n; place = found.1.place } in
      (suc found.0, found.1, found.2, found.3 ∙ ap At same)

is_placed : (c k : ℕ) (items : List Item) (p : Placed) → IsOf c k items p → Contains (placed_from c k items) p
is_placed c k [] p (j, x, at, is) = absurd (none-some x at)
is_placed c k (y ∷ items) p (zero, x, at, is) =
    let same : k + 0 ≡ k = omega arith in
    let At : ℕ → Placed = λ n. record { caller = c; index = n; place = x.place } in
    let Of : Item → Placed = λ z. record { caller = c; index = k; place = z.place } in
    (0, omega arith, ap Of (same_Some y x at) ∙ sym (is ∙ ap At same))
is_placed c k (y ∷ items) p (suc j, x, at, is) =
    let same : k + suc j ≡ (k + 1) + j = omega arith in
    let At : ℕ → Placed = λ n. record { caller = c; index = n; place = x.place } in
    later_item (record { caller = c; index = k; place = y.place }) (placed_from c (k + 1) items) p (is_placed c (k + 1) items p (j, x, at, is ∙ ap At same))

-- the call is one of the lists, of which the first is that of caller c
abbrev IsAmongFrom : ℕ → List (List Item) → Placed → Type 0
IsAmongFrom c lists p = (d : ℕ) × IsOf (c + d) 0 (calls_in lists d) p

all_is : (c : ℕ) (lists : List (List Item)) (p : Placed) → Contains (all_from c lists) p → IsAmongFrom c lists p
all_is c [] p there = absurd (no_item p there)
all_is c (items ∷ lists) p there = by (Contains-append_cases (placed_from c 0 items) (all_from (c + 1) lists) p there) (all_is (c + 1) lists p) where
  by : Contains (placed_from c 0 items) p ⊎ Contains (all_from (c + 1) lists) p → (Contains (all_from (c + 1) lists) p → IsAmongFrom (c + 1) lists p) → IsAmongFrom c (items ∷ lists) p
  by (inl first) rest = let same : c ≡ c + 0 = omega arith in (zero, subst (λ d. IsOf d 0 items p) same (placed_is c 0 items p first))
  by (inr later) rest = let found = rest later in let same : (c + 1) + found.0 ≡ c + suc found.0 = omega arith in (suc found.0, subst (λ d. IsOf d 0 (calls_in lists found.0) p) same found.1)

is_all : (c : ℕ) (lists : List (List Item)) (p : Placed) → IsAmongFrom c lists p → Contains (all_from c lists) p
is_all c [] p (d, (j, x, at, is)) = absurd (none-some x at)
is_all c (items ∷ lists) p (zero, here) = let same : c + 0 ≡ c = omega arith in Contains-append_left (placed_from c 0 items) (all_from (c + 1) lists) p (is_placed c 0 items p (subst (λ d. IsOf d 0 items p) same here))
is_all c (items ∷ lists) p (suc d, there) =
    let same : c + suc d ≡ (c + 1) + d = omega arith in
    Contains-append_right (placed_from c 0 items) (all_from (c + 1) lists) p (is_all (c + 1) lists p (d, subst (λ e. IsOf e 0 (calls_in lists d) p) same there))

whole : (p : Placed) → p ≡ record { caller = p.caller; index = p.index; place = p.place }
whole p = refl

module _ (lists : List (List Item)) where
  all_of : AreAllOf lists (all_from 0 lists)
  all_of = record { call = call; all = all } where
    call : (p : Placed) → Contains (all_from 0 lists) p → IsCallOf lists p
    call p there =
        let found = all_is 0 lists p there in
        let is = found.1.3 in
        let caller : found.0 ≡ p.caller = let e : p.caller ≡ 0 + found.0 = ap (λ (q : Placed). q.caller) is in omega (arith, e) in
        let index : found.1.0 ≡ p.index = let e : p.index ≡ 0 + found.1.0 = ap (λ (q : Placed). q.index) is in omega (arith, e) in
        (found.1.1, subst (λ k. slice_get (calls_in lists p.caller) k ≡ Some found.1.1) index (subst (λ d. slice_get (calls_in lists d) found.1.0 ≡ Some found.1.1) caller found.1.2), ap (λ (q : Placed). q.place) is)

    all : (p : Placed) → IsCallOf lists p → Contains (all_from 0 lists) p
    all p (x, at, place) = is_all 0 lists p (p.caller, (p.index, x, at, made)) where
      made : p ≡ record { caller = 0 + p.caller; index = 0 + p.index; place = x.place }
      made =
          let c : p.caller ≡ 0 + p.caller = omega arith in
          let k : p.index ≡ 0 + p.index = omega arith in
          let At : ℕ → Placed = λ n. record { caller = n; index = p.index; place = p.place } in
          let Number : ℕ → Placed = λ n. record { caller = 0 + p.caller; index = n; place = p.place } in
          let Place : ℕ → Placed = λ n. record { caller = 0 + p.caller; index = 0 + p.index; place = n } in
          whole p ∙ ap At c ∙ ap Number k ∙ ap Place place

  pub sorted_are_all : (all placed : List Placed) → all ≡ all_from 0 lists → IsPermutation all placed → AreAllOf lists placed
  sorted_are_all all placed is same = record {
    call = λ p there. of_all.call p (Contains-permutation placed all p (IsPermutation-sym all placed same) there);
    all = λ p call. Contains-permutation all placed p same (of_all.all p call);
  } where
    of_all : AreAllOf lists all
    of_all = subst (AreAllOf lists) (sym is) all_of
