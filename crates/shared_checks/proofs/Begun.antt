-- The call that began a cursor; and what holds of each item of a list.
use Rattle.std.proofs.Common.{◌≡◌, ◌≢◌, ◌⊎◌, inl, inr, ℕ, ◌+◌, ◌<◌, ◌≤◌, true, false, List, [], length, Some, slice_get, sym, ap, ◌∙◌, subst, arith}
use Rattle.std.proofs.Math.Nat.{eq-or-lt_of_le}
use Rattle.std.proofs.Math.Dec.{leb}
use Rattle.std.proofs.lemmas.Bool.Decides.{leb_tells}
use Rattle.std.proofs.lemmas.List.{get_or_past}
use Rattle.std.proofs.lemmas.Option.{none-some, same_Some, slice_get_within}
use Rattle.sync_model.specs.declared.item.SharedCall.TheVariants.{Begin, Next}
use Rattle.sync_model.specs.declared.item.Item.{Item}
use Rattle.shared_checks.specs.Calls.{calls_in}
use Rattle.shared_checks.specs.Parts.{HasBegun}

same_begin : (a b : ℕ) → Next a ≡ Next b → a ≡ b
same_begin a b e = cc

module _ (items : List Item) (j : ℕ) (x : Item) (begin : ℕ) (is : x.call ≡ Next begin) where
  pub none_before : j ≤ begin → HasBegun items j x → ⊥
  none_before late has = let found = has.begun begin is in let before : begin < j = found.2 in omega (arith, late, before)

  module _ (first : Item) (at : slice_get items begin ≡ Some first) where
    pub has_one : begin < j → (m : ℕ) → first.call ≡ Begin m → HasBegun items j x
    has_one before m begins = record { begun = λ b next. subst (λ k. (y : Item) × (n : ℕ) × (k < j) × (slice_get items k ≡ Some y) × (y.call ≡ Begin n)) (same_begin begin b (sym is ∙ next)) (first, m, before, at, begins) }

    pub no_begin : ((m : ℕ) → first.call ≢ Begin m) → HasBegun items j x → ⊥
    no_begin other has = let found = has.begun begin is in other found.1 (ap (λ (y : Item). y.call) (same_Some first found.0 (sym at ∙ found.3)) ∙ found.4)

pub one_more : (P : ℕ → Type 0) (n : ℕ) → P n → ((k : ℕ) → k < n → P k) → (k : ℕ) → k < n + 1 → P k
one_more P n holds so_far k below = by (eq-or-lt_of_le {n = k} {m = n} (omega (arith, below))) where
  by : (k ≡ n) ⊎ (k < n) → P k
  by (inr before) = so_far k before
  by (inl same) = subst P (sym same) holds

module _ {A : Type 0} (P : ℕ → A → Type 0) (xs : List A) where
  pub one_item_more : (n : ℕ) (x : A) → slice_get xs n ≡ Some x → P n x → ((j : ℕ) (y : A) → j < n → slice_get xs j ≡ Some y → P j y) → (j : ℕ) (y : A) → j < n + 1 → slice_get xs j ≡ Some y → P j y
  one_item_more n x at holds so_far j y below there = by (eq-or-lt_of_le {n = j} {m = n} (omega (arith, below))) where
    by : (j ≡ n) ⊎ (j < n) → P j y
    by (inr before) = so_far j y before there
    by (inl same) = subst (λ z. P j z) (same_Some x y (sym at ∙ ap (slice_get xs) (sym same) ∙ there)) (subst (λ k. P k x) (sym same) holds)

  pub all_items : (n : ℕ) → length xs ≤ n → ((j : ℕ) (y : A) → j < n → slice_get xs j ≡ Some y → P j y) → (j : ℕ) (y : A) → slice_get xs j ≡ Some y → P j y
  all_items n all so_far j y there = let inside = slice_get_within xs j y there in so_far j y (omega (arith, inside, all)) there

-- what holds of each call of each caller's list
module _ (P : List Item → ℕ → Item → Type 0) (lists : List (List Item)) where
  abbrev Holds : ℕ → Type 0
  Holds c = (j : ℕ) (x : Item) → slice_get (calls_in lists c) j ≡ Some x → P (calls_in lists c) j x

  abbrev HoldsBelow : ℕ → Type 0
  HoldsBelow n = (c j : ℕ) (x : Item) → c < n → slice_get (calls_in lists c) j ≡ Some x → P (calls_in lists c) j x

  pub list_more : (n : ℕ) → Holds n → HoldsBelow n → HoldsBelow (n + 1)
  list_more n holds so_far c j x below there = by (eq-or-lt_of_le {n = c} {m = n} (omega (arith, below))) where
    by : (c ≡ n) ⊎ (c < n) → P (calls_in lists c) j x
    by (inr before) = so_far c j x before there
    by (inl same) = subst (λ d. Holds d) (sym same) holds j x there

  pub all_lists : (n : ℕ) → length lists ≤ n → HoldsBelow n → (c : ℕ) → Holds c
  all_lists n all so_far c j x there = by (leb_tells (length lists) c) where
    by : ((leb (length lists) c ≡ true) × (length lists ≤ c)) ⊎ ((leb (length lists) c ≡ false) × (c < length lists)) → P (calls_in lists c) j x
    by (inl (is, past)) = absurd (none-some x (ap (λ (xs : List Item). slice_get xs j) (sym (get_or_past lists c [] past)) ∙ there))
    by (inr (is, inside)) = so_far c j x (omega (arith, inside, all)) there
