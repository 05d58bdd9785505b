-- Where a walk through all slots of a map stands: the slots from the root down, with the nodes that they are of.
use Rattle.std.specs.Prelude.{ℕ, suc, ◌+◌, ◌-◌, ◌*◌, ◌^◌, List, [], ◌∷◌, length}

-- the last of these slots, one further
abbrev pub bump : List ℕ → List ℕ
bump [] = []
bump (x ∷ []) = suc x ∷ []
bump (x ∷ y ∷ xs) = x ∷ bump (y ∷ xs)

-- all but the last
abbrev pub but_last : List ℕ → List ℕ
but_last [] = []
but_last (x ∷ []) = []
but_last (x ∷ y ∷ xs) = x ∷ but_last (y ∷ xs)

-- the last; 0 where there is none
abbrev pub last_of : List ℕ → ℕ
last_of [] = 0
last_of (x ∷ []) = x
last_of (x ∷ y ∷ xs) = last_of (y ∷ xs)

-- how far a walk has come that stands in these slots of the nodes from this level up: it never stands behind slot 16
unfoldable pub come : ℕ → List ℕ → ℕ
come n [] = 0
come n (slot ∷ slots) = slot * 17 ^ n + come (n - 1) slots

-- how many steps it can still make at most
unfoldable pub steps_left : List ℕ → ℕ
steps_left slots = 9 * (17 ^ 8 - come 7 slots) + (8 - length slots)
