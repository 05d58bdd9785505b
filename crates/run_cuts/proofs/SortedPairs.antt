-- That pairs can be sorted by the names of their keys.
use Rattle.std.proofs.Common.{◌≡◌, ℕ, zero, suc, ◌+◌, ◌<◌, Bool, true, false, cond, List, [], ◌∷◌, length, slice_index_or, refl, sym, ap, ◌∙◌, subst, arith}
use Rattle.std.specs.Prelude.{IsPermutation}
use Rattle.std.specs.Ordering.{is_lt, nat_cmp, ordering_reverse}
use Rattle.std.specs.declared.cmp.Ordering.{Ordering}
use Rattle.std.specs.declared.cmp.Ordering.TheVariants.{Less, Equal, Greater}
use Rattle.std.specs.Cmp.Lexicographic.{slice_cmp}
use Rattle.std.proofs.lemmas.Bool.{false≢true}
use Rattle.std.proofs.lemmas.Cmp.{nat_list_cmp_total}
use Rattle.std.proofs.lemmas.List.Sorted.{IsPermutation-cons, IsPermutation-middle, IsPermutation-refl, IsPermutation-sym, IsPermutation-trans}
use Rattle.workload.specs.Keys.{key_name}
use Rattle.run_record.specs.MapKind.{AreSorted}

one_way : (a b : List ℕ) → is_lt (slice_cmp nat_cmp a b) ≡ true → is_lt (slice_cmp nat_cmp b a) ≡ false
one_way a b less = by (slice_cmp nat_cmp b a) (ap is_lt (sym (nat_list_cmp_total.antisymm a b)) ∙ less) where
  by : (o : Ordering) → is_lt (ordering_reverse o) ≡ true → is_lt o ≡ false
  by Less less = absurd (false≢true less)
  by Equal less = refl
  by Greater less = refl

module _ (keys : List (List ℕ)) where
  abbrev put : ℕ × ℕ → List (ℕ × ℕ) → List (ℕ × ℕ)
  put x [] = x ∷ []
  put x (y ∷ ys) = cond (is_lt (slice_cmp nat_cmp (key_name keys y.0) (key_name keys x.0))) (y ∷ put x ys) (x ∷ (y ∷ ys))

  abbrev pub sorted_pairs : List (ℕ × ℕ) → List (ℕ × ℕ)
  sorted_pairs [] = []
  sorted_pairs (x ∷ xs) = put x (sorted_pairs xs)

  -- the first of them isn't below this one
  abbrev Above : ℕ × ℕ → List (ℕ × ℕ) → Type 0
  Above x [] = Unit {0}
  Above x (y ∷ ys) = is_lt (slice_cmp nat_cmp (key_name keys y.0) (key_name keys x.0)) ≡ false

  abbrev Rises : List (ℕ × ℕ) → Type 0
  Rises [] = Unit {0}
  Rises (x ∷ xs) = Above x xs × Rises xs

  put_above : (y x : ℕ × ℕ) (ys : List (ℕ × ℕ)) → is_lt (slice_cmp nat_cmp (key_name keys x.0) (key_name keys y.0)) ≡ false → Above y ys → Above y (put x ys)
  put_above y x [] not_below above = not_below
  put_above y x (z ∷ ys) not_below above = by (is_lt (slice_cmp nat_cmp (key_name keys z.0) (key_name keys x.0))) where
    by : (b : Bool) → Above y (cond b (z ∷ put x ys) (x ∷ (z ∷ ys)))
    by true = above
    by false = not_below

  put_rises : (x : ℕ × ℕ) (ys : List (ℕ × ℕ)) → Rises ys → Rises (put x ys)
  put_rises x [] rises = (tt, tt)
  put_rises x (y ∷ ys) (above, rises) = by (put_rises x ys rises) (is_lt (slice_cmp nat_cmp (key_name keys y.0) (key_name keys x.0))) refl where
    by : Rises (put x ys) → (b : Bool) → is_lt (slice_cmp nat_cmp (key_name keys y.0) (key_name keys x.0)) ≡ b → Rises (cond b (y ∷ put x ys) (x ∷ (y ∷ ys)))
    by later true is = (put_above y x ys (one_way (key_name keys y.0) (key_name keys x.0) is) above, later)
    by later false is = (is, (above, rises))

  rise : (xs : List (ℕ × ℕ)) → Rises (sorted_pairs xs)
  rise [] = tt
  rise (x ∷ xs) = put_rises x (sorted_pairs xs) (rise xs)

  put_permutes : (x : ℕ × ℕ) (ys : List (ℕ × ℕ)) → IsPermutation (x ∷ ys) (put x ys)
  put_permutes x [] = IsPermutation-refl (x ∷ [])
  put_permutes x (y ∷ ys) = by (put_permutes x ys) (is_lt (slice_cmp nat_cmp (key_name keys y.0) (key_name keys x.0))) where
    by : IsPermutation (x ∷ ys) (put x ys) → (b : Bool) → IsPermutation (x ∷ (y ∷ ys)) (cond b (y ∷ put x ys) (x ∷ (y ∷ ys)))
    by later true =
        IsPermutation-trans (x ∷ (y ∷ ys)) (y ∷ (x ∷ ys)) (y ∷ put x ys)
        (IsPermutation-sym (y ∷ (x ∷ ys)) (x ∷ (y ∷ ys)) (IsPermutation-middle (y ∷ []) x ys)) (IsPermutation-cons y (x ∷ ys) (put x ys) later)
    by later false = IsPermutation-refl (x ∷ (y ∷ ys))

  permutes : (xs : List (ℕ × ℕ)) → IsPermutation xs (sorted_pairs xs)
  permutes [] = IsPermutation-refl []
  permutes (x ∷ xs) = IsPermutation-trans (x ∷ xs) (x ∷ sorted_pairs xs) (put x (sorted_pairs xs)) (IsPermutation-cons x xs (sorted_pairs xs) (permutes xs)) (put_permutes x (sorted_pairs xs))

  next_above : (xs : List (ℕ × ℕ)) (k : ℕ) (d : ℕ × ℕ) → Rises xs → suc k < length xs → is_lt (slice_cmp nat_cmp (key_name keys (slice_index_or xs (suc k) d).0) (key_name keys (slice_index_or xs k d).0)) ≡ false
  next_above [] k d rises less = absurd (omega (arith, less))
  next_above (x ∷ []) k d rises less = absurd (omega (arith, less))
  next_above (x ∷ (y ∷ ys)) zero d (above, rises) less = above
  next_above (x ∷ (y ∷ ys)) (suc k) d (above, rises) less = next_above (y ∷ ys) k d rises (omega (arith, less))

  -- the pairs, sorted
  pub are_sorted : (m : ℕ) (xs : List (ℕ × ℕ)) → AreSorted keys m xs (sorted_pairs xs)
  are_sorted m xs = (
    permutes xs,
    λ k d from less.
        let e : k + 1 ≡ suc k = omega arith in
        ap (λ (n : ℕ). is_lt (slice_cmp nat_cmp (key_name keys (slice_index_or (sorted_pairs xs) n d).0) (key_name keys (slice_index_or (sorted_pairs xs) k d).0))) e
        ∙ next_above (sorted_pairs xs) k d (rise xs) (subst (λ (n : ℕ). n < length (sorted_pairs xs)) e less),
  )
