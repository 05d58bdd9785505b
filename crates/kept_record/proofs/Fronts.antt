-- What fronts count that are joined, and what one counts in which a call more is counted.
use Rattle.std.proofs.Common.{◌≡◌, ◌≢◌, ℕ, zero, suc, ◌+◌, ◌<◌, ◌≤◌, max, List, [], ◌∷◌, length, slice_index, refl, sym, ap, ◌∙◌, subst, arith}
use Rattle.std.proofs.lemmas.List.{get_or-set_same, get_or-set_other}
use Rattle.std.proofs.Math.Nat.{le-max_left, le-max_right}
use Rattle.sync_model.specs.Front.{AtLeast}
use Rattle.kept_record.specs.Keeping.{joined, counted}

-- caller by caller the greater number
pub joined_counts : (front other : List ℕ) (c : ℕ) → slice_index (joined front other) c ≡ max (slice_index front c) (slice_index other c)
joined_counts [] other c = least (slice_index other c) where
  least : (n : ℕ) → n ≡ max 0 n
  least n = omega arith
joined_counts (n ∷ front) [] c = least (slice_index (n ∷ front) c) where
  least : (n : ℕ) → n ≡ max n 0
  least n = omega arith
joined_counts (n ∷ front) (m ∷ other) zero = refl
joined_counts (n ∷ front) (m ∷ other) (suc c) = joined_counts front other c

pub joined_first : (front other : List ℕ) → AtLeast (joined front other) front
joined_first front other c = subst (λ (n : ℕ). slice_index front c ≤ n) (sym (joined_counts front other c)) (le-max_left (slice_index front c) (slice_index other c))

pub joined_second : (front other : List ℕ) → AtLeast (joined front other) other
joined_second front other c = subst (λ (n : ℕ). slice_index other c ≤ n) (sym (joined_counts front other c)) (le-max_right (slice_index front c) (slice_index other c))

-- no more than either bound
pub joined_within : (front other : List ℕ) (c n : ℕ) → slice_index front c ≤ n → slice_index other c ≤ n → slice_index (joined front other) c ≤ n
joined_within front other c n first second = subst (λ (k : ℕ). k ≤ n) (sym (joined_counts front other c)) (both (slice_index front c) (slice_index other c) first second) where
  both : (a b : ℕ) → a ≤ n → b ≤ n → max a b ≤ n
  both a b first second = omega arith

pub joined_long : (front other : List ℕ) (n : ℕ) → length front ≡ n → length other ≡ n → length (joined front other) ≡ n
joined_long [] other n first second = second
joined_long (a ∷ front) [] n first second = first
joined_long (a ∷ front) (b ∷ other) n first second = let long : length other ≡ length front = omega arith in let more : suc (length front) ≡ n = first in
    ap suc (joined_long front other (length front) refl long) ∙ more

pub none_less : (front : List ℕ) → AtLeast front front
none_less front c = omega arith

pub less_still : (front middle other : List ℕ) → AtLeast front middle → AtLeast middle other → AtLeast front other
less_still front middle other first second c = let a : slice_index middle c ≤ slice_index front c = first c in let b : slice_index other c ≤ slice_index middle c = second c in omega arith

-- its own number is one more, and every other as it was
pub counted_own : (worker : ℕ) (front : List ℕ) → worker < length front → slice_index (counted worker front) worker ≡ slice_index front worker + 1
counted_own worker front within = get_or-set_same front worker (slice_index front worker + 1) 0 within

pub counted_other : (worker c : ℕ) (front : List ℕ) → c ≢ worker → slice_index (counted worker front) c ≡ slice_index front c
counted_other worker c front apart = get_or-set_other front worker c (slice_index front worker + 1) 0 apart
