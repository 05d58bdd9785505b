-- The path of a key down a map's nodes. A key is hashed by its exclusive or with the map's seed, which is one to one; the path is the hash's eight nibbles, the low one first, and the nibble of a level is the slot that a node of this level has for the key. The root is the node of level 0.
use Rattle.std.specs.Prelude.{◌≡◌, ℕ, zero, suc, ◌*◌, ◌/◌, ◌%◌, ◌^◌, ◌<◌, ◌⊎◌, bit_xor, List, [], ◌∷◌, ◌++◌}

-- the nibble of a level, 0 to 7
unfoldable pub nibble : ℕ → ℕ → ℕ → ℕ
nibble key seed level = bit_xor key seed / 2 ^ (4 * level) % 16

-- the way from the root to the node of a level on the key's path: the slots that lead there
abbrev pub route : ℕ → ℕ → ℕ → List ℕ
route seed zero key = []
route seed (suc level) key = route seed level key ++ nibble key seed level ∷ []

-- a walk through a map that goes by slots from 0 up, deep first, and now stands in these slots of the nodes from this level on has passed the key: the key's path turned off to a lower slot
abbrev pub Passed : ℕ → ℕ → List ℕ → ℕ → Type 0
Passed seed level [] key = ⊥
Passed seed level (slot ∷ slots) key = (nibble key seed level < slot) ⊎ ((nibble key seed level ≡ slot) × Passed seed (suc level) slots key)
