-- What a node stands for in a row of words: a map, which gives each key the value that a walk down from the node finds.
use Rattle.std.specs.Prelude.{◌≡◌, ◌≢◌, ℕ, zero, suc, ◌+◌, ◌-◌, ◌<◌, ◌≤◌, ◌==◌, cond, ◌⊎◌, List, Option, Some, None, slice_index}
use Rattle.trie_nodes.specs.declared.slot.Slot.{Slot}
use Rattle.trie_nodes.specs.declared.slot.Slot.TheVariants.{Empty, Node, Entry}
use Rattle.trie_nodes.specs.Layout.{slot_word, key_word, value_word}
use Rattle.trie_nodes.specs.Paths.{nibble, route}
use Rattle.trie_nodes.specs.Slots.{slot_in}

module _ (words : List ℕ) where
  -- what a slot of a node holds
  abbrev pub slot_at : ℕ → ℕ → Slot
  slot_at node slot = slot_in (slice_index words (slot_word node slot))

  -- what an entry gives a key: its value, where it is the key's own entry
  abbrev pub entry_value : ℕ → ℕ → Option ℕ
  entry_value entry key = cond (slice_index words (key_word entry) == key) (Some (slice_index words (value_word entry))) None

  -- what a slot gives a key, by what nodes give it
  abbrev pub slot_value : (ℕ → Option ℕ) → Slot → ℕ → Option ℕ
  slot_value node_value Empty key = None
  slot_value node_value (Node node) key = node_value node
  slot_value node_value (Entry entry) key = entry_value entry key

  -- a word belongs to what a slot leads to, by which nodes it belongs to
  abbrev pub BelongsToSlot : (ℕ → Type 0) → Slot → ℕ → Type 0
  BelongsToSlot belongs Empty i = ⊥
  BelongsToSlot belongs (Node node) i = belongs node
  BelongsToSlot belongs (Entry entry) i = (i ≡ key_word entry) ⊎ (i ≡ value_word entry)

  -- word i is one of the node's, or of a node or an entry below it, on so many levels
  unfoldable pub BelongsWithin : ℕ → ℕ → ℕ → Type 0
  BelongsWithin zero node i = ⊥
  BelongsWithin (suc levels) node i = ((node ≤ i) × (i < node + 18)) ⊎ ((slot : ℕ) × (slot < 16) × BelongsToSlot (λ below. BelongsWithin levels below i) (slot_at node slot) i)

  -- word i belongs to the node of this level, or to what is below it
  unfoldable pub Belongs : ℕ → ℕ → ℕ → Type 0
  Belongs level node i = BelongsWithin (8 - level) node i

  -- no word of the node itself belongs to what its slots lead to
  pub record IsApart (level node : ℕ) : Type 0 where
    pub apart : (slot i : ℕ) → slot < 16 → node ≤ i → i < node + 18 → BelongsToSlot (λ below. Belongs (suc level) below i) (slot_at node slot) i → ⊥

-- a slot may take the entry of this key and lose no other: it is empty, or has the key's own entry
abbrev pub IsFreeFor : List ℕ → ℕ → Slot → Type 0
IsFreeFor words key Empty = Unit {0}
IsFreeFor words key (Node node) = ⊥
IsFreeFor words key (Entry entry) = slice_index words (key_word entry) ≡ key

-- From the old words to the new ones no word that belongs to the node of this level changes but that of one of its slots.
pub record ChangesSlot (old new : List ℕ) (level node slot : ℕ) : Type 0 where
  pub apart : IsApart old level node
  pub stays : (i : ℕ) → Belongs old level node i → i ≢ slot_word node slot → slice_index new i ≡ slice_index old i

module _ (words : List ℕ) (seed : ℕ) where
  -- what a node of a level gives a key, where so many levels are left: what its slot for the key gives
  unfoldable pub value_within : ℕ → ℕ → ℕ → ℕ → Option ℕ
  value_within zero level node key = None
  value_within (suc levels) level node key = slot_value words (λ below. value_within levels (suc level) below key) (slot_at words node (nibble key seed level)) key

  -- what a node of this level stands for: each key's value, or none. There are 8 levels
  unfoldable pub stands_for : ℕ → ℕ → ℕ → Option ℕ
  stands_for level node key = value_within (8 - level) level node key

  -- a slot that a node of this level has for the key shows what the key has in the map: none, where it is empty; what the entry gives the key, whose path is the entry's as far as here; or a node of the next level, which is a node of the key's path
  abbrev pub Shows : (ℕ → Type 0) → ℕ → ℕ → Option ℕ → Slot → Type 0
  Shows is_below level key held Empty = held ≡ None
  Shows is_below level key held (Node node) = (suc level < 8) × is_below node
  Shows is_below level key held (Entry entry) = (route seed (suc level) (slice_index words (key_word entry)) ≡ route seed (suc level) key) × (held ≡ entry_value words entry key)
