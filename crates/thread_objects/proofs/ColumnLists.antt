-- Lists to which an element is added at the end, or from which the last one is taken.
use Rattle.std.proofs.Common.{◌≡◌, ◌⊎◌, inl, inr, ℕ, zero, suc, ◌+◌, ◌<◌, ◌≤◌, Bool, true, false, ◌==◌, cond, List, [], ◌∷◌, ◌++◌, length, get_or, replicate, take, Option, Some, None, slice_get, refl, sym, ap, subst, ◌∙◌, arith, length-append}
use Rattle.std.specs.Prelude.{unwrap_or, All, slice_set}
use Rattle.std.proofs.Math.Seq.{take-append_seam}
use Rattle.std.proofs.lemmas.Bool.{eq-eqb}
use Rattle.std.proofs.lemmas.List.{replicate-append-replicate}
use Rattle.std.proofs.lemmas.List.Elements.{All-nil, All-cons, All-head, All-tail}
use Rattle.std.proofs.lemmas.Option.{none-some, slice_get_cases, unwrap_or-slice_get}
use Rattle.sync_model.specs.declared.journal.Entry.{Entry}
use Rattle.sync_model.specs.Journal.{by}

module _ {A : Type 0} where
  -- what is in a list stays where it is when others are added behind
  pub in_front : (xs ys : List A) (i : ℕ) (x : A) → slice_get xs i ≡ Some x → slice_get (xs ++ ys) i ≡ Some x
  in_front [] ys i x at = absurd (none-some x at)
  in_front (y ∷ xs) ys zero x at = at
  in_front (y ∷ xs) ys (suc i) x at = in_front xs ys i x at

  at_end : (xs : List A) (y : A) → slice_get (xs ++ y ∷ []) (length xs) ≡ Some y
  at_end [] y = refl
  at_end (x ∷ xs) y = at_end xs y

  -- of a list with one more element each one is among the others, or the last
  pub added_at : (xs : List A) (y x : A) (i : ℕ) → slice_get (xs ++ y ∷ []) i ≡ Some x → (slice_get xs i ≡ Some x) ⊎ ((i ≡ length xs) × (y ≡ x))
  added_at [] y x zero at = inr (refl, ap (λ (o : Option A). unwrap_or o x) at)
  added_at [] y x (suc i) at = absurd (none-some x at)
  added_at (z ∷ xs) y x zero at = inl at
  added_at (z ∷ xs) y x (suc i) at = later (added_at xs y x i at) where
    later : (slice_get xs i ≡ Some x) ⊎ ((i ≡ length xs) × (y ≡ x)) → (slice_get xs i ≡ Some x) ⊎ ((suc i ≡ length (z ∷ xs)) × (y ≡ x))
    later (inl before) = inl before
    later (inr last) = inr (omega (arith, last.0), last.1)

  -- the last one
  pub last_at : (old new : List A) (last : A) (n : ℕ) → old ≡ new ++ last ∷ [] → length old ≡ n + 1 → slice_get old n ≡ Some last
  last_at old new last n is sized =
      let here : length new ≡ n = omega (arith, sized, ap (λ (xs : List A). length xs) is ∙ length-append new (last ∷ [])) in
      subst (λ k. slice_get old k ≡ Some last) here (subst (λ (xs : List A). slice_get xs (length new) ≡ Some last) (sym is) (at_end new last))

  pub fewer_by_one : (old new : List A) (last : A) (n : ℕ) → old ≡ new ++ last ∷ [] → length old ≡ n + 1 → length new ≡ n
  fewer_by_one old new last n is sized = omega (arith, sized, ap (λ (xs : List A). length xs) is ∙ length-append new (last ∷ []))

  -- an element by `get_or`
  pub got : (xs : List A) (i : ℕ) (x d : A) → slice_get xs i ≡ Some x → get_or xs i d ≡ x
  got xs i x d at = sym (unwrap_or-slice_get xs i d) ∙ ap (λ (o : Option A). unwrap_or o d) at

  pub got_none : (xs : List A) (i : ℕ) (d : A) → slice_get xs i ≡ None → get_or xs i d ≡ d
  got_none xs i d at = sym (unwrap_or-slice_get xs i d) ∙ ap (λ (o : Option A). unwrap_or o d) at

  pub got_same : (n i : ℕ) (d : A) → get_or (replicate n d) i d ≡ d
  got_same zero i d = refl
  got_same (suc n) zero d = refl
  got_same (suc n) (suc i) d = got_same n i d

  -- a whole list that was written over
  pub written : (xs zs : List A) (n : ℕ) → n ≡ length xs → take n (xs ++ zs) ≡ xs
  written xs zs n is = ap (λ k. take k (xs ++ zs)) is ∙ take-append_seam xs zs

  pub one_more : (n : ℕ) (d : A) → replicate (n + 1) d ≡ replicate n d ++ d ∷ []
  one_more n d = sym (replicate-append-replicate n 1 d)

  -- within a list there is an element
  pub there_is : (xs : List A) (n : ℕ) → n < length xs → (x : A) × (slice_get xs n ≡ Some x)
  there_is xs n within = by_case (slice_get_cases xs n).1 where
    by_case : ((x : A) × (n < length xs) × (slice_get xs n ≡ Some x) × (get_or xs n x ≡ x)) ⊎ ((length xs ≤ n) × (slice_get xs n ≡ None)) → (x : A) × (slice_get xs n ≡ Some x)
    by_case (inl (x, here, some, is)) = (x, some)
    by_case (inr (past, none)) = absurd (omega (arith, past, within))

  -- a list of which one element was changed
  pub set_other : (xs : List A) (i n : ℕ) (x : A) → (i ≡ n → ⊥) → slice_get (slice_set xs i x) n ≡ slice_get xs n
  set_other [] i n x other = refl
  set_other (y ∷ xs) zero zero x other = absurd (other refl)
  set_other (y ∷ xs) zero (suc n) x other = refl
  set_other (y ∷ xs) (suc i) zero x other = refl
  set_other (y ∷ xs) (suc i) (suc n) x other = set_other xs i n x (λ e. other (ap (λ k. suc k) e))

  pub set_here : (xs : List A) (i : ℕ) (x : A) → i < length xs → slice_get (slice_set xs i x) i ≡ Some x
  set_here [] i x within = absurd (omega (arith, within))
  set_here (y ∷ xs) zero x within = refl
  set_here (y ∷ xs) (suc i) x within = set_here xs i x (omega (arith, within))

-- what holds of each caller's entries holds of all
module _ {E R : Type 0} (P : Entry E R → Type 0) where
  rest_of : (b : Bool) (x : Entry E R) (xs : List (Entry E R)) → All P (cond b (x ∷ xs) xs) → All P xs
  rest_of true x xs all = All-tail P x xs all
  rest_of false x xs all = all

  first_of : (b : Bool) → b ≡ true → (x : Entry E R) (xs : List (Entry E R)) → All P (cond b (x ∷ xs) xs) → P x
  first_of b is x xs all = All-head P x xs (subst (λ (t : Bool). All P (cond t (x ∷ xs) xs)) is all)

  pub all_by : (xs : List (Entry E R)) → ((c : ℕ) → All P (by c xs)) → All P xs
  all_by [] each = All-nil P
  all_by (x ∷ xs) each = All-cons P x xs (first_of (x.caller == x.caller) (eq-eqb x.caller x.caller refl) x (by x.caller xs) (each x.caller)) (all_by xs (λ c. rest_of (x.caller == c) x (by c xs) (each c)))
