-- The laws of a walk through all slots of a map, together, as the lemmas of this crate take them.
use Rattle.std.specs.Prelude.{◌≡◌, ◌↔◌, ◌⊎◌, ℕ, suc, ◌<◌, ◌^◌, List, [], ◌∷◌, ◌++◌, length}
use Rattle.trie_nodes.specs.Paths.{nibble, route, Passed}

pub record SweepLaws : Type 0 where
  pub long : (seed level key : ℕ) → length (route seed level key) ≡ level
  pub each_slot : (seed key level slot : ℕ) → seed < 2 ^ 32 → level < 8 → slot < 16 → (other : ℕ) × (other < 2 ^ 32) × (route seed level other ≡ route seed level key) × (nibble other seed level ≡ slot)
  pub begins : (seed key : ℕ) → Passed seed 0 (0 ∷ []) key → ⊥
  pub ends : (seed key : ℕ) → Passed seed 0 (16 ∷ []) key
  pub goes_on : (seed slot key : ℕ) (slots : List ℕ) → Passed seed 0 (slots ++ suc slot ∷ []) key ↔ (Passed seed 0 (slots ++ slot ∷ []) key ⊎ (route seed (suc (length slots)) key ≡ slots ++ slot ∷ []))
  pub once : (seed slot key : ℕ) (slots : List ℕ) → route seed (suc (length slots)) key ≡ slots ++ slot ∷ [] → Passed seed 0 (slots ++ slot ∷ []) key → ⊥
  pub goes_down : (seed slot key : ℕ) (slots : List ℕ) → Passed seed 0 (slots ++ slot ∷ 0 ∷ []) key ↔ Passed seed 0 (slots ++ slot ∷ []) key
  pub goes_up : (seed slot key : ℕ) (slots : List ℕ) → Passed seed 0 (slots ++ slot ∷ 16 ∷ []) key ↔ Passed seed 0 (slots ++ suc slot ∷ []) key
