-- Counts that know what two others know.
use Rattle.std.proofs.Common.{◌≡◌, ◌⊎◌, inl, inr, ℕ, ◌<◌, ◌≤◌, true, false, List, length, slice_index, max, arith}
use Rattle.std.proofs.Math.Dec.{leb}
use Rattle.std.proofs.lemmas.Bool.Decides.{leb_tells}
use Rattle.std.proofs.lemmas.List.{get_or_past}
use Rattle.shared_checks.specs.Counts.{Joins}

greater : (a b c : ℕ) → c ≡ max a b → (a ≤ b) ⊎ (b ≤ a) → (c ≡ a) ⊎ (c ≡ b)
greater a b c is (inl less) = inr (omega arith)
greater a b c is (inr less) = inl (omega arith)

side : (n k : ℕ) → (k < n) ⊎ (n ≤ k)
side n k = by (leb_tells n k) where
  by : ((leb n k ≡ true) × (n ≤ k)) ⊎ ((leb n k ≡ false) × (k < n)) → (k < n) ⊎ (n ≤ k)
  by (inl (is, above)) = inr above
  by (inr (is, below)) = inl below

either : (a b : ℕ) → (a ≤ b) ⊎ (b ≤ a)
either a b = by (leb_tells a b) where
  by : ((leb a b ≡ true) × (a ≤ b)) ⊎ ((leb a b ≡ false) × (b < a)) → (a ≤ b) ⊎ (b ≤ a)
  by (inl (is, above)) = inl above
  by (inr (is, below)) = inr (omega (arith, below))

module _ (a b c : List ℕ) (n : ℕ) (size : length b ≡ n) (joined : (k : ℕ) → k < n → slice_index c k ≡ max (slice_index a k) (slice_index b k)) (same : (k : ℕ) → n ≤ k → slice_index c k ≡ slice_index a k) where
  pub joins_of : Joins a b c
  joins_of = record { knows_first = λ w. by_first w (side n w); knows_second = λ w. by_second w (side n w); no_more = λ w. by_one w (side n w) } where
    by_first : (w : ℕ) → (w < n) ⊎ (n ≤ w) → slice_index a w ≤ slice_index c w
    by_first w (inl below) = let e = joined w below in omega (arith, e)
    by_first w (inr above) = let e = same w above in omega (arith, e)

    by_second : (w : ℕ) → (w < n) ⊎ (n ≤ w) → slice_index b w ≤ slice_index c w
    by_second w (inl below) = let e = joined w below in omega (arith, e)
    by_second w (inr above) = let e : slice_index b w ≡ 0 = get_or_past b w 0 (omega arith) in omega (arith, e)

    by_one : (w : ℕ) → (w < n) ⊎ (n ≤ w) → (slice_index c w ≡ slice_index a w) ⊎ (slice_index c w ≡ slice_index b w)
    by_one w (inl below) = greater (slice_index a w) (slice_index b w) (slice_index c w) (joined w below) (either (slice_index a w) (slice_index b w))
    by_one w (inr above) = inl (same w above)
