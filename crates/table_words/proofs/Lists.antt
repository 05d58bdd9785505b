-- Views in a list.
use Rattle.std.proofs.Common.{◌≡◌, ◌≢◌, ℕ, zero, suc, ◌+◌, ◌<◌, ◌≤◌, List, [], ◌∷◌, ◌++◌, length, set, get_or, Some, slice_get, slice_index, replicate, ◌⊎◌, inl, inr, ⊎_elim, refl, sym, ap, ◌∙◌, subst, arith}
use Rattle.std.specs.Prelude.{Contains}
use Rattle.std.proofs.lemmas.Option.{none-some, same_Some}
use mathlib.Core.Option.{some, some-ne-none, some-injective}
use lib.ListN.{get_elem?}
use Rattle.atomic_table.proofs.Lists.{at_set}

module _ {V : Type 0} where
  -- what holds of the seat that stepped, and of each other, holds of all
  pub each_after : (P : ℕ → V → Type 0) (views : List V) (me : ℕ) (w : V) → P me w → ((j : ℕ) (u : V) → j ≢ me → get_elem? views j ≡ some u → P j u) → (j : ℕ) (u : V) → get_elem? (set views me w) j ≡ some u → P j u
  each_after P views me w mine others j u at = ⊎_elim (λ (t : (j ≡ me) × (w ≡ u)). subst (λ (x : ℕ × V). P x.0 x.1) (λ i. (sym t.0 i, t.1 i)) mine)
      (λ (t : (j ≢ me) × (get_elem? views j ≡ some u)). others j u t.0 t.1) (at_set views me j w u at)

  pub within : (views : List V) (i : ℕ) (v : V) → get_elem? views i ≡ some v → i < length views
  within [] i v e = absurd (some-ne-none v (sym e))
  within (x ∷ xs) zero v e = omega arith
  within (x ∷ xs) (suc i) v e = let h = within xs i v e in omega arith

  -- a view in a list with one more is in the list, or is that one
  pub at_end : (views : List V) (a b : V) (j : ℕ) → get_elem? (views ++ a ∷ []) j ≡ some b → (get_elem? views j ≡ some b) ⊎ ((j ≡ length views) × (a ≡ b))
  at_end [] a b zero e = inr (refl, some-injective a b e)
  at_end [] a b (suc j) e = absurd (some-ne-none b (sym e))
  at_end (x ∷ xs) a b zero e = inl e
  at_end (x ∷ xs) a b (suc j) e = ⊎_elim (λ t. inl t) (λ t. inr (ap suc t.0, t.1)) (at_end xs a b j e)

  -- a list with one more has what it had, and that one
  pub at_start : (views : List V) (a b : V) (j : ℕ) → get_elem? views j ≡ some b → get_elem? (views ++ a ∷ []) j ≡ some b
  at_start [] a b j e = absurd (some-ne-none b (sym e))
  at_start (x ∷ xs) a b zero e = e
  at_start (x ∷ xs) a b (suc j) e = at_start xs a b j e

  pub at_last : (views : List V) (a : V) → get_elem? (views ++ a ∷ []) (length views) ≡ some a
  at_last [] a = refl
  at_last (x ∷ xs) a = at_last xs a

  -- the view that was put in
  pub set_here : (views : List V) (i : ℕ) (v w : V) → get_elem? views i ≡ some v → get_elem? (set views i w) i ≡ some w
  set_here [] i v w e = absurd (some-ne-none v (sym e))
  set_here (x ∷ xs) zero v w e = refl
  set_here (x ∷ xs) (suc i) v w e = set_here xs i v w e

module _ {A : Type 0} where
  -- what is in a list is its first, or among the others
  pub in_more : (x : A) (xs : List A) (y : A) → Contains (x ∷ xs) y → (x ≡ y) ⊎ Contains xs y
  in_more x xs y (i, below, at) = by_place i below at
    where
      by_place : (i : ℕ) → i < suc (length xs) → get_or (x ∷ xs) i y ≡ y → (x ≡ y) ⊎ Contains xs y
      by_place zero below at = inl at
      by_place (suc i) below at = inr (i, omega arith, at)

  -- an item of a list with one more is one of the list, or the last
  pub item_on : (xs : List A) (z x : A) (i : ℕ) → slice_get (xs ++ z ∷ []) i ≡ Some x → (slice_get xs i ≡ Some x) ⊎ ((i ≡ length xs) × (x ≡ z))
  item_on [] z x zero e = inr (refl, sym (same_Some z x e))
  item_on [] z x (suc i) e = absurd (none-some x e)
  item_on (a ∷ xs) z x zero e = inl e
  item_on (a ∷ xs) z x (suc i) e = elim (item_on xs z x i e) [ inl h ↦ inl h | inr h ↦ inr (ap suc h.0, h.1) ]

  -- an item of a list is one of a longer list, before or behind the others
  pub item_front : (xs ys : List A) (x : A) (i : ℕ) → slice_get xs i ≡ Some x → slice_get (xs ++ ys) i ≡ Some x
  item_front [] ys x i e = absurd (none-some x e)
  item_front (a ∷ xs) ys x zero e = e
  item_front (a ∷ xs) ys x (suc i) e = item_front xs ys x i e

  pub item_back : (xs ys : List A) (x : A) (i : ℕ) → slice_get ys i ≡ Some x → slice_get (xs ++ ys) (length xs + i) ≡ Some x
  item_back [] ys x i e = let at : i ≡ 0 + i = omega arith in subst (λ n. slice_get ys n ≡ Some x) at e
  item_back (a ∷ xs) ys x i e = let at : suc (length xs + i) ≡ suc (length xs) + i = omega arith in subst (λ n. slice_get (a ∷ (xs ++ ys)) n ≡ Some x) at (item_back xs ys x i e)

  pub item_there : (xs : List A) (i : ℕ) → i < length xs → (x : A) × (slice_get xs i ≡ Some x)
  item_there [] i below = absurd (omega arith)
  item_there (x ∷ xs) zero below = (x, refl)
  item_there (x ∷ xs) (suc i) below = item_there xs i (omega arith)

-- a list of numbers has 0 beyond its end
pub past_end : (xs : List ℕ) (i : ℕ) → length xs ≤ i → slice_index xs i ≡ 0
past_end [] i past = refl
past_end (x ∷ xs) zero past = absurd (omega arith)
past_end (x ∷ xs) (suc i) past = past_end xs i (omega arith)

-- a list of zeros has 0 everywhere
pub zeros : (n i : ℕ) → slice_index (replicate n 0) i ≡ 0
zeros zero i = refl
zeros (suc n) zero = refl
zeros (suc n) (suc i) = zeros n i

-- so many words from a place on
abbrev pub words_at : List ℕ → ℕ → ℕ → List ℕ
words_at words place zero = []
words_at words place (suc n) = slice_index words place ∷ words_at words (suc place) n

pub words_at-index : (words : List ℕ) (place n i : ℕ) → i < n → slice_index (words_at words place n) i ≡ slice_index words (place + i)
words_at-index words place zero i below = absurd (omega arith)
words_at-index words place (suc n) zero below = let at : place ≡ place + 0 = omega arith in ap (slice_index words) at
words_at-index words place (suc n) (suc i) below = let at : suc place + i ≡ place + suc i = omega arith in words_at-index words (suc place) n i (omega arith) ∙ ap (slice_index words) at
