-- A sum over a history is that over all callers' own calls.
use Rattle.std.proofs.Common.{◌≡◌, inl, inr, ℕ, suc, ◌+◌, ◌<◌, ◌≤◌, ◌==◌, Bool, true, false, cond, List, [], ◌∷◌, length, Some, slice_get, refl, sym, ap, ◌∙◌, subst, arith}
use Rattle.std.specs.Prelude.{sum_by}
use Rattle.std.proofs.lemmas.Bool.{cases_eq, eq-eqb, ne_eqb}
use Rattle.std.proofs.lemmas.List.Sums.{sum_by-cons}
use Rattle.sync_model.specs.declared.item.Item.{Item}
use Rattle.sync_model.specs.declared.item.SharedCall.{SharedCall}
use Rattle.sync_model.specs.declared.item.SharedEntry.{SharedEntry}
use Rattle.sync_model.specs.SharedHistory.{entries_from, entry_of, marked_in}

-- a sum over the numbers of the items of a list, which begin at this one
abbrev pub sum_over : {A : Type 0} → (ℕ → ℕ) → ℕ → List A → ℕ
sum_over f k [] = 0
sum_over f k (x ∷ xs) = f k + sum_over f (k + 1) xs

module _ {A : Type 0} where
  pub over_same : (f g : ℕ → ℕ) (k : ℕ) (xs : List A) → ((c : ℕ) → f c ≡ g c) → sum_over f k xs ≡ sum_over g k xs
  over_same f g k [] same = refl
  over_same f g k (x ∷ xs) same = let here = same k in let rest = over_same f g (k + 1) xs same in omega (arith, here, rest)

  over_zero : (f : ℕ → ℕ) (k : ℕ) (xs : List A) → ((c : ℕ) → f c ≡ 0) → sum_over f k xs ≡ 0
  over_zero f k [] none = refl
  over_zero f k (x ∷ xs) none = let here = none k in let rest = over_zero f (k + 1) xs none in omega (arith, here, rest)

  pub over_items : (f : ℕ → ℕ) (g : A → ℕ) (k : ℕ) (xs : List A) → ((i : ℕ) (x : A) → slice_get xs i ≡ Some x → f (k + i) ≡ g x) → sum_over f k xs ≡ sum_by g xs
  over_items f g k [] same = refl
  over_items f g k (x ∷ xs) same =
      let e : k + 0 ≡ k = omega arith in
      let here : f k ≡ g x = subst (λ n. f n ≡ g x) e (same 0 x refl) in
      let rest = over_items f g (k + 1) xs (λ i y at. let e : k + suc i ≡ k + 1 + i = omega arith in subst (λ n. f n ≡ g y) e (same (suc i) y at)) in
      omega (arith, here, rest, sum_by-cons g x xs)

-- one more at a number
module _ (f : ℕ → ℕ) (d w : ℕ) where
  abbrev more : ℕ → ℕ
  more c = cond (d == c) w 0 + f c

  here_more : (k : ℕ) → d ≡ k → more k ≡ w + f k
  here_more k e = ap (λ (b : Bool). cond b w 0 + f k) (eq-eqb d k e)

  not_here : (k : ℕ) → (d ≡ k → ⊥) → more k ≡ f k
  not_here k apart = ap (λ (b : Bool). cond b w 0 + f k) (ne_eqb d k apart) ∙ omega arith

  -- counts once, where it is one of these
  over_past : {A : Type 0} (k : ℕ) (xs : List A) → d < k → sum_over more k xs ≡ sum_over f k xs
  over_past k [] past = refl
  over_past k (x ∷ xs) past = let here = not_here k (λ e. omega (arith, e, past)) in let rest = over_past (k + 1) xs (omega (arith, past)) in omega (arith, here, rest)

  over_within : {A : Type 0} (k : ℕ) (xs : List A) → k ≤ d → d < k + length xs → sum_over more k xs ≡ w + sum_over f k xs
  over_within k [] from to = absurd (omega (arith, from, to))
  over_within k (x ∷ xs) from to = elim (cases_eq d k) [
    | inl e ↦ let here = here_more k e in let rest = over_past (k + 1) xs (omega (arith, e)) in omega (arith, here, rest)
    | inr apart ↦ let here = not_here k apart in let rest = over_within (k + 1) xs (omega (arith, from, apart)) (omega (arith, to)) in omega (arith, here, rest)
  ]

module _ (weight : SharedCall → ℕ) where
  -- of entries with their numbers
  abbrev pub entry_sum : List (ℕ × SharedEntry) → ℕ
  entry_sum entries = sum_by (λ p. weight p.1.call) entries

  chosen_sum : (b : Bool) (p : ℕ × SharedEntry) (entries : List (ℕ × SharedEntry)) → entry_sum (cond b (p ∷ entries) entries) ≡ cond b (weight p.1.call) 0 + entry_sum entries
  chosen_sum true p entries = sum_by-cons (λ q. weight q.1.call) p entries
  chosen_sum false p entries = omega arith

  none_sum : (n c : ℕ) → entry_sum (entries_from n c []) ≡ 0
  none_sum n c = refl

  -- a history, caller by caller
  pub by_callers : {A : Type 0} (callers : List A) (n : ℕ) (history : List SharedEntry) → ((i : ℕ) (e : SharedEntry) → slice_get history i ≡ Some e → e.caller < length callers)
      → sum_by (λ e. weight e.call) history ≡ sum_over (λ c. entry_sum (entries_from n c history)) 0 callers
  by_callers callers n [] all = sym (over_zero (λ c. entry_sum (entries_from n c [])) 0 callers (none_sum n))
  by_callers callers n (e ∷ history) all =
      let rest = by_callers callers (n + 1) history (λ i x at. all (suc i) x at) in
      let within = over_within (λ c. entry_sum (entries_from (n + 1) c history)) e.caller (weight e.call) 0 callers (omega arith) (omega (arith, all 0 e refl)) in
      let each = over_same (λ c. entry_sum (entries_from n c (e ∷ history))) (λ c. cond (e.caller == c) (weight e.call) 0 + entry_sum (entries_from (n + 1) c history)) 0 callers
      (λ c. chosen_sum (e.caller == c) (n, e) (entries_from (n + 1) c history)) in
      sum_by-cons (λ x. weight x.call) e history ∙ (ap (λ m. weight e.call + m) rest ∙ (sym within ∙ sym each))

  -- a caller's entries among its calls, where what is no entry has no weight
  pub marked_sum : (c : ℕ) (items : List Item) → ((i : ℕ) (x : Item) → slice_get items i ≡ Some x → x.entry ≡ false → weight x.call ≡ 0) → entry_sum (marked_in c items) ≡ sum_by (λ x. weight x.call) items
  marked_sum c [] none = refl
  marked_sum c (x ∷ items) none = by_entry x.entry (none 0 x refl) (marked_sum c items (λ i y at. none (suc i) y at)) where
    by_entry : (b : Bool) → (b ≡ false → weight x.call ≡ 0) → entry_sum (marked_in c items) ≡ sum_by (λ y. weight y.call) items
        → entry_sum (cond b ((x.place, entry_of c x) ∷ marked_in c items) (marked_in c items)) ≡ sum_by (λ y. weight y.call) (x ∷ items)
    by_entry true none rest = omega (arith, rest, sum_by-cons (λ (q : ℕ × SharedEntry). weight q.1.call) (x.place, entry_of c x) (marked_in c items), sum_by-cons (λ (y : Item). weight y.call) x items)
    by_entry false none rest = omega (arith, rest, none refl, sum_by-cons (λ (y : Item). weight y.call) x items)
