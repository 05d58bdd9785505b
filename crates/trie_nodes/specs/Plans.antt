-- The two changes of nodes that have a plan: an entry gives its slot to a chain of new nodes that leads to it and to one more entry, and an emptied node is cut off.
use Rattle.std.specs.Prelude.{◌≡◌, ◌≢◌, ℕ, zero, suc, ◌+◌, ◌-◌, ◌<◌, ◌≤◌, ◌==◌, cond, List, slice_index}
use Rattle.trie_nodes.specs.declared.slot.Slot.TheVariants.{Node, Entry}
use Rattle.trie_nodes.specs.declared.plan.Expansion.{Expansion}
use Rattle.trie_nodes.specs.declared.plan.Pruning.{Pruning}
use Rattle.trie_nodes.specs.Layout.{lock_word, parent_word, slot_word, key_word, value_word}
use Rattle.trie_nodes.specs.Paths.{nibble, route}
use Rattle.trie_nodes.specs.Slots.{word_of_slot}
use Rattle.trie_nodes.specs.Nodes.{ChangesSlot}

-- sixteen slots that are empty but for one
abbrev pub one_slot : ℕ → ℕ → ℕ → ℕ
one_slot slot word s = cond (s == slot) word 0

-- and but for two
abbrev pub two_slots : ℕ → ℕ → ℕ → ℕ → ℕ → ℕ
two_slots slot word other other_word s = cond (s == slot) word (one_slot other other_word s)

-- a node that nobody holds, below this parent, with these words in its slots
pub record IsNewNode (words : List ℕ) (node above : ℕ) (slots : ℕ → ℕ) : Type 0 where
  pub placed : 0 < node
  pub free : slice_index words (lock_word node) ≡ 0
  pub parent : slice_index words (parent_word node) ≡ above
  pub holds : (slot : ℕ) → slot < 16 → slice_index words (slot_word node slot) ≡ slots slot

-- a chain of so many new nodes down the path of a key, from a node of this level on, whose last node has these words in its slots: each other node has the next in its slot for the key, and nothing else
abbrev pub IsChain : List ℕ → ℕ → ℕ → (ℕ → ℕ) → ℕ → ℕ → ℕ → ℕ → Type 0
IsChain words seed key slots zero level parent node = ⊥
IsChain words seed key slots (suc zero) level parent node = IsNewNode words node parent slots
IsChain words seed key slots (suc (suc nodes)) level parent node =
    (next : ℕ) × IsNewNode words node parent (one_slot (nibble key seed level) (word_of_slot (Node next))) × IsChain words seed key slots (suc nodes) (suc level) node next

-- the place that stands before number i of these places
abbrev pub place_before : ℕ → (ℕ → ℕ) → ℕ → ℕ
place_before above place zero = above
place_before above place (suc i) = place i

-- the same chain, by the places of its nodes, which are counted from 0
pub record IsChainAt (words : List ℕ) (seed key : ℕ) (slots : ℕ → ℕ) (nodes level above : ℕ) (place : ℕ → ℕ) : Type 0 where
  pub some : 0 < nodes
  pub links : (i : ℕ) → suc i < nodes → IsNewNode words (place i) (place_before above place i) (one_slot (nibble key seed (level + i)) (word_of_slot (Node (place (suc i)))))
  pub last : (i : ℕ) → suc i ≡ nodes → IsNewNode words (place i) (place_before above place i) slots

-- The plan of an expansion for the entry of one key, in whose place the chain comes, and for another key. The chain begins at this level and goes as far as both paths go together; its last node has a slot of its own for each key.
pub record IsExpansion (held key seed level : ℕ) (plan : Expansion) : Type 0 where
  pub some : 0 < plan.nodes
  pub within : level + plan.nodes ≤ 8
  pub together : route seed (level + plan.nodes - 1) held ≡ route seed (level + plan.nodes - 1) key
  pub held_slot : plan.held_slot ≡ nibble held seed (level + plan.nodes - 1)
  pub key_slot : plan.key_slot ≡ nibble key seed (level + plan.nodes - 1)
  pub part : plan.held_slot ≢ plan.key_slot

-- the words in the slots of the last node of a chain as planned, to the entries of both keys
abbrev pub last_slots : Expansion → ℕ → ℕ → ℕ → ℕ
last_slots plan held_entry key_entry = two_slots plan.held_slot (word_of_slot (Entry held_entry)) plan.key_slot (word_of_slot (Entry key_entry))

-- a chain as planned
abbrev pub IsPlannedChain : List ℕ → ℕ → ℕ → Expansion → ℕ → ℕ → ℕ → ℕ → ℕ → Type 0
IsPlannedChain words seed key plan level above first held_entry key_entry =
    IsChain words seed key (last_slots plan held_entry key_entry) plan.nodes level above first

-- From the old words to the new ones one slot of a node changes as an expansion plans it: the slot that the node, one level above the chain's first one, has for two keys held the entry of one of them, and now holds the chain to this entry and to that of the other key, which has this value.
pub record Expands (old new : List ℕ) (seed level node held key value : ℕ) (plan : Expansion) : Type 0 where
  pub held_entry : ℕ
  pub key_entry : ℕ
  pub first : ℕ
  pub changes : ChangesSlot old new (level - 1) node (nibble key seed (level - 1))
  pub was : slice_index old (slot_word node (nibble key seed (level - 1))) ≡ word_of_slot (Entry held_entry)
  pub is_held : slice_index old (key_word held_entry) ≡ held
  pub becomes : slice_index new (slot_word node (nibble key seed (level - 1))) ≡ word_of_slot (Node first)
  pub chain : IsPlannedChain new seed key plan level node first held_entry key_entry
  pub is_key : slice_index new (key_word key_entry) ≡ key
  pub is_value : slice_index new (value_word key_entry) ≡ value

-- From the old words to the new ones a node of this level, which has these words, is cut off as a pruning plans it: the slot of its parent that held it becomes empty.
pub record Prunes (old new : List ℕ) (level place : ℕ) (node : List ℕ) (plan : Pruning) : Type 0 where
  pub placed : 0 < place
  pub words : (i : ℕ) → i < 18 → slice_index old (place + i) ≡ slice_index node i
  pub changes : ChangesSlot old new (level - 1) plan.parent plan.slot
  pub was : slice_index old (slot_word plan.parent plan.slot) ≡ word_of_slot (Node place)
  pub becomes : slice_index new (slot_word plan.parent plan.slot) ≡ 0

-- of a node that has these words all slots are empty
abbrev pub HasOnlyEmptySlots : List ℕ → Type 0
HasOnlyEmptySlots node = (slot : ℕ) → slot < 16 → slice_index node (2 + slot) ≡ 0

-- and of this one a slot isn't
abbrev pub HasAFullSlot : List ℕ → Type 0
HasAFullSlot node = (slot : ℕ) × (slot < 16) × (slice_index node (2 + slot) ≢ 0)
