-- The front law of shared calls, and how much of the history a front knows of.
use Rattle.std.specs.Prelude.{◌≡◌, ℕ, zero, suc, ◌+◌, ◌-◌, ◌<◌, ◌≤◌, List, [], ◌∷◌, length, take, max, Some, slice_get, slice_index}
use Rattle.sync_model.specs.declared.item.Item.{Item}
use Rattle.sync_model.specs.Front.{AtLeast}
use Rattle.sync_model.specs.SharedCalls.{bound, Knows}
use Rattle.shared_checks.specs.Calls.{calls_in}

-- what the law of a shared history says of fronts alone
pub record LawfulFronts (calls : ℕ → List Item) : Type 0 where
  -- each call lies behind all calls that its caller knew
  pub knows : (c j : ℕ) (x : Item) → slice_get (calls c) j ≡ Some x → Knows calls x.front x.place
  -- its caller knew all its own earlier calls
  pub own : (c j : ℕ) (x : Item) → slice_get (calls c) j ≡ Some x → slice_index x.front c ≡ j
  -- no caller forgets what it knew
  pub rises : (c i j : ℕ) (x y : Item) → i < j → slice_get (calls c) i ≡ Some x → slice_get (calls c) j ≡ Some y → AtLeast y.front x.front

-- the front counts calls that were made
abbrev pub CountsMade : (ℕ → List Item) → List ℕ → Type 0
CountsMade calls front = (c : ℕ) → slice_index front c ≤ length (calls c)

-- how much of the history lies before all that comes after each of these calls
abbrev pub bound_of : List Item → ℕ
bound_of [] = 0
bound_of (x ∷ xs) = max (bound x) (bound_of xs)

-- how much of the history a front knows of: the first list is that of caller c
abbrev pub known_from : ℕ → List (List Item) → List ℕ → ℕ
known_from c [] front = 0
known_from c (calls ∷ others) front = max (bound_of (take (slice_index front c) calls)) (known_from (c + 1) others front)

abbrev pub known : List (List Item) → List ℕ → ℕ
known lists front = known_from 0 lists front

-- one caller's list by itself: it knew its own earlier calls, forgot nothing, and each call lies behind those before it
pub record IsInOrder (c : ℕ) (items : List Item) : Type 0 where
  pub own : (j : ℕ) (x : Item) → slice_get items j ≡ Some x → slice_index x.front c ≡ j
  pub rises : (i j : ℕ) (x y : Item) → i < j → slice_get items i ≡ Some x → slice_get items j ≡ Some y → AtLeast y.front x.front
  pub behind : (i j : ℕ) (x y : Item) → i < j → slice_get items i ≡ Some x → slice_get items j ≡ Some y → bound x ≤ y.place

-- a call knows its caller's earlier ones, and stands behind the one before it
pub record IsNext (c : ℕ) (items : List Item) (j : ℕ) : Type 0 where
  pub own : (x : Item) → slice_get items j ≡ Some x → slice_index x.front c ≡ j
  pub rises : (x y : Item) → 0 < j → slice_get items (j - 1) ≡ Some x → slice_get items j ≡ Some y → AtLeast y.front x.front
  pub behind : (x y : Item) → 0 < j → slice_get items (j - 1) ≡ Some x → slice_get items j ≡ Some y → bound x ≤ y.place

-- the last of so many calls of a caller was made, and lies within the first n entries
abbrev pub KnowsLast : List Item → ℕ → ℕ → Type 0
KnowsLast calls zero n = Unit {0}
KnowsLast calls (suc k) n = (x : Item) × (slice_get calls k ≡ Some x) × (bound x ≤ n)

-- of each caller the last call that the front counts
abbrev pub KnowsEach : List (List Item) → List ℕ → ℕ → Type 0
KnowsEach lists front n = (c : ℕ) → KnowsLast (calls_in lists c) (slice_index front c) n
