-- What a node stands for, by its slots; and that it stays where the words do.
use Rattle.std.proofs.Common.{◌≡◌, ◌≢◌, ◌⊎◌, inl, inr, ℕ, zero, suc, ◌+◌, ◌-◌, ◌<◌, ◌≤◌, List, Option, None, refl, sym, ap, subst, ◌∙◌, arith}
use Rattle.std.specs.Prelude.{slice_index}
use Rattle.trie_nodes.specs.declared.slot.Slot.{Slot}
use Rattle.trie_nodes.specs.declared.slot.Slot.TheVariants.{Empty, Node, Entry}
use Rattle.trie_nodes.specs.Layout.{slot_word, key_word, value_word}
use Rattle.trie_nodes.specs.Paths.{nibble}
use Rattle.trie_nodes.specs.Slots.{slot_in}
use Rattle.trie_nodes.specs.Nodes.{slot_at, entry_value, slot_value, BelongsToSlot, BelongsWithin, Belongs, ChangesSlot, value_within, stands_for, Shows}
use Rattle.trie_nodes.proofs.PathLemmas.{nibble-lt}
use Rattle.trie_nodes.proofs.SlotLemmas.{slot_in-zero}

-- a node of one of the 8 levels gives a key what its slot for the key gives
pub stands_for-slot : (words : List ℕ) (seed level node key : ℕ) → level < 8 →
    stands_for words seed level node key ≡ slot_value words (λ below. stands_for words seed (suc level) below key) (slot_at words node (nibble key seed level)) key
unfolding stands_for value_within
stands_for-slot words seed level node key lt =
    let e : 8 - level ≡ suc (8 - suc level) = omega arith in
    ap (λ levels. value_within words seed levels level node key) e

-- the same, where it is known what this slot holds
pub stands_for-slot_is : (words : List ℕ) (seed level node key slot : ℕ) (held : Slot) → level < 8 → nibble key seed level ≡ slot → slot_at words node slot ≡ held →
    stands_for words seed level node key ≡ slot_value words (λ below. stands_for words seed (suc level) below key) held key
stands_for-slot_is words seed level node key slot held lt here is =
    stands_for-slot words seed level node key lt
    ∙ ap (λ s. slot_value words (λ below. stands_for words seed (suc level) below key) (slot_at words node s) key) here
    ∙ ap (λ s. slot_value words (λ below. stands_for words seed (suc level) below key) s key) is

pub stands_for-deep : (words : List ℕ) (seed level node key : ℕ) → 8 ≤ level → stands_for words seed level node key ≡ None
unfolding stands_for value_within
stands_for-deep words seed level node key le =
    let e : 8 - level ≡ zero = omega arith in
    ap (λ levels. value_within words seed levels level node key) e

-- the node's own words belong to it
pub Belongs-own : (words : List ℕ) (level node i : ℕ) → level < 8 → node ≤ i → i < node + 18 → Belongs words level node i
unfolding Belongs BelongsWithin
Belongs-own words level node i lt from to =
    let e : suc (8 - suc level) ≡ 8 - level = omega arith in
    subst (λ levels. BelongsWithin words levels node i) e (inl (from, to))

-- and so does what its slots lead to
pub Belongs-slot : (words : List ℕ) (level node slot i : ℕ) → level < 8 → slot < 16 → BelongsToSlot words (λ below. Belongs words (suc level) below i) (slot_at words node slot) i → Belongs words level node i
unfolding Belongs BelongsWithin
Belongs-slot words level node slot i lt fits belongs =
    let e : suc (8 - suc level) ≡ 8 - level = omega arith in
    subst (λ levels. BelongsWithin words levels node i) e (inr (slot, fits, belongs))

-- the same words of an entry give the same
pub entry_value-same : (words new : List ℕ) (entry key : ℕ) → slice_index new (key_word entry) ≡ slice_index words (key_word entry) → slice_index new (value_word entry) ≡ slice_index words (value_word entry) → entry_value new entry key ≡ entry_value words entry key
entry_value-same words new entry key same_key same_value = cc

-- a slot gives the same where all words that belong to it are the same
pub slot_value-same : (words new : List ℕ) (belongs : ℕ → ℕ → Type 0) (old_value new_value : ℕ → Option ℕ) (key : ℕ) (slot : Slot)
    → ((below : ℕ) → ((i : ℕ) → belongs below i → slice_index new i ≡ slice_index words i) → new_value below ≡ old_value below)
    → ((i : ℕ) → BelongsToSlot words (λ below. belongs below i) slot i → slice_index new i ≡ slice_index words i)
    → slot_value new new_value slot key ≡ slot_value words old_value slot key
slot_value-same words new belongs old_value new_value key Empty values same = refl
slot_value-same words new belongs old_value new_value key (Node node) values same = values node same
slot_value-same words new belongs old_value new_value key (Entry entry) values same =
    entry_value-same words new entry key (same (key_word entry) (inl refl)) (same (value_word entry) (inr refl))

-- a node gives the same where all words that belong to it are the same
pub value_within-same : (words new : List ℕ) (seed levels level node key : ℕ) → ((i : ℕ) → BelongsWithin words levels node i → slice_index new i ≡ slice_index words i) →
    value_within new seed levels level node key ≡ value_within words seed levels level node key
unfolding value_within BelongsWithin
value_within-same words new seed zero level node key same = refl
value_within-same words new seed (suc levels) level node key same =
    let slot = nibble key seed level in
    let fits = nibble-lt key seed level in
    let here = same (slot_word node slot) (inl (omega (arith, fits), omega (arith, fits))) in
    ap (λ word. slot_value new (λ below. value_within new seed levels (suc level) below key) (slot_in word) key) here
    ∙ slot_value-same words new (BelongsWithin words levels) (λ below. value_within words seed levels (suc level) below key) (λ below. value_within new seed levels (suc level) below key) key (slot_at words node slot)
    (λ below. value_within-same words new seed levels (suc level) below key)
    (λ i belongs. same i (inr (slot, fits, belongs)))

pub stands_for-same : (words new : List ℕ) (seed level node key : ℕ) → ((i : ℕ) → Belongs words level node i → slice_index new i ≡ slice_index words i) →
    stands_for new seed level node key ≡ stands_for words seed level node key
unfolding stands_for Belongs
stands_for-same words new seed level node key same = value_within-same words new seed (8 - level) level node key same

module _ (old new : List ℕ) (level node slot : ℕ) (level_lt : level < 8) (slot_lt : slot < 16) (changes : ChangesSlot old new level node slot) where
  -- what a slot of the node leads to stays
  pub below_stays : (other i : ℕ) → other < 16 → BelongsToSlot old (λ below. Belongs old (suc level) below i) (slot_at old node other) i → slice_index new i ≡ slice_index old i
  below_stays other i fits belongs =
      changes.stays i (Belongs-slot old level node other i level_lt fits belongs)
      (λ same. changes.apart.apart other i fits (omega (arith, same)) (omega (arith, same, slot_lt)) belongs)

  -- a key of another slot has what it had
  pub stands_for-other_slot : (seed key : ℕ) → nibble key seed level ≢ slot → stands_for new seed level node key ≡ stands_for old seed level node key
  stands_for-other_slot seed key differs =
      let other = nibble key seed level in
      let fits = nibble-lt key seed level in
      let here = changes.stays (slot_word node other) (Belongs-own old level node (slot_word node other) level_lt (omega arith) (omega (arith, fits))) (λ same. differs (omega (arith, same))) in
      stands_for-slot new seed level node key level_lt
      ∙ ap (λ word. slot_value new (λ below. stands_for new seed (suc level) below key) (slot_in word) key) here
      ∙ slot_value-same old new (Belongs old (suc level)) (λ below. stands_for old seed (suc level) below key) (λ below. stands_for new seed (suc level) below key) key (slot_at old node other)
      (λ below. stands_for-same old new seed (suc level) below key)
      (λ i. below_stays other i fits)
      ∙ sym (stands_for-slot old seed level node key level_lt)

-- a node whose slots are all empty stands for nothing
pub stands_for-empty : (words : List ℕ) (seed level node key : ℕ) → ((slot : ℕ) → slot < 16 → slice_index words (slot_word node slot) ≡ 0) → stands_for words seed level node key ≡ None
stands_for-empty words seed level node key empty = elim (level_cases level) [
  | inl lt ↦
      stands_for-slot words seed level node key lt
      ∙ ap (λ slot. slot_value words (λ below. stands_for words seed (suc level) below key) slot key)
      (slot_in-zero (slice_index words (slot_word node (nibble key seed level))) (empty (nibble key seed level) (nibble-lt key seed level)))
  | inr le ↦ stands_for-deep words seed level node key le
]
  where
    level_cases : (level : ℕ) → (level < 8) ⊎ (8 ≤ level)
    level_cases level = grind arith

module _ (words : List ℕ) (seed key : ℕ) (held : Option ℕ) (is_node : ℕ → ℕ → Type 0)
    (shows : (level node : ℕ) → level < 8 → is_node level node → Shows words seed (is_node (suc level)) level key held (slot_at words node (nibble key seed level))) where
  abbrev IsHeld : ℕ → ℕ → Type 0
  IsHeld levels level = (node : ℕ) → level < 8 → is_node level node → value_within words seed levels level node key ≡ held

  slot_value-shown : (levels level : ℕ) → IsHeld levels (suc level) → (slot : Slot) → Shows words seed (is_node (suc level)) level key held slot →
      slot_value words (λ below. value_within words seed levels (suc level) below key) slot key ≡ held
  slot_value-shown levels level below Empty shown = sym shown
  slot_value-shown levels level below (Node node) shown = below node shown.0 shown.1
  slot_value-shown levels level below (Entry entry) shown = sym shown.1

  value_within-shown : (levels level : ℕ) → level + levels ≡ 8 → IsHeld levels level
  unfolding value_within
  value_within-shown zero level e node lt is = absurd (omega arith)
  value_within-shown (suc levels) level e node lt is =
      slot_value-shown levels level (value_within-shown levels (suc level) (omega arith)) (slot_at words node (nibble key seed level)) (shows level node lt is)

  -- a node of a family each of whose slots for the key shows what the key has stands for a map in which the key has it
  pub stands_for-held : (level node : ℕ) → level < 8 → is_node level node → stands_for words seed level node key ≡ held
  unfolding stands_for
  stands_for-held level node lt is = value_within-shown (8 - level) level (omega arith) node lt is
