-- The laws of paths, slots and chains, together, as the lemmas of this crate take them.
use Rattle.std.specs.Prelude.{◌≡◌, ℕ, suc, ◌+◌, ◌<◌, ◌≤◌, ◌^◌, ◌==◌, Bool, IsTrue, if◌then◌else◌, List, Some, length, slice_index}
use Rattle.trie_nodes.specs.declared.plan.Expansion.{Expansion}
use Rattle.trie_nodes.specs.declared.slot.Slot.TheVariants.{Node, Entry}
use Rattle.trie_nodes.specs.Layout.{key_word, value_word}
use Rattle.trie_nodes.specs.Nodes.{slot_at, entry_value, Shows}
use Rattle.trie_nodes.specs.Paths.{nibble, route}
use Rattle.trie_nodes.specs.Plans.{IsChainAt, IsExpansion, last_slots}
use Rattle.trie_nodes.specs.Slots.{word_of_slot, slot_in}

pub record TrieLaws : Type 0 where
  pub long : (seed level key : ℕ) → length (route seed level key) ≡ level
  pub one_to_one : (seed key other : ℕ) → seed < 2 ^ 32 → key < 2 ^ 32 → other < 2 ^ 32 → route seed 8 key ≡ route seed 8 other → key ≡ other
  pub above : (seed level below key other : ℕ) → level ≤ below → route seed below key ≡ route seed below other → route seed level key ≡ route seed level other
  pub same_slot : (seed level below key other : ℕ) → level < below → route seed below key ≡ route seed below other → nibble key seed level ≡ nibble other seed level
  pub word : (word : ℕ) → word_of_slot (slot_in word) ≡ word
  pub node : (place : ℕ) → 0 < place → slot_in (word_of_slot (Node place)) ≡ Node place
  pub entry : (place : ℕ) → slot_in (word_of_slot (Entry place)) ≡ Entry place
  pub chain : (words : List ℕ) (seed level above held key value held_entry key_entry : ℕ) (plan : Expansion) (place : ℕ → ℕ) (is_below : ℕ → ℕ → Bool)
      → IsExpansion held key seed level plan → IsChainAt words seed key (last_slots plan held_entry key_entry) plan.nodes level above place
      → slice_index words (key_word held_entry) ≡ held → slice_index words (key_word key_entry) ≡ key → slice_index words (value_word key_entry) ≡ value
      → ((i : ℕ) → suc i < plan.nodes → IsTrue (is_below (suc (level + i)) (place (suc i))))
      → (i other : ℕ) → i < plan.nodes → route seed (level + i) other ≡ route seed (level + i) key
      → Shows words seed (λ below. IsTrue (is_below (suc (level + i)) below)) (level + i) other
      (if other == key then Some value else entry_value words held_entry other) (slot_at words (place i) (nibble other seed (level + i)))
