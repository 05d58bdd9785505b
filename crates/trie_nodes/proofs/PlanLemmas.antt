-- The plans keep what a node stands for.
use Rattle.std.proofs.Common.{◌≡◌, ◌≢◌, ◌⊎◌, inl, inr, ℕ, suc, ◌+◌, ◌-◌, ◌<◌, ◌==◌, cond, List, Some, refl, sym, ap, subst, ◌∙◌, arith}
use Rattle.std.specs.Prelude.{slice_index}
use Rattle.std.proofs.lemmas.Bool.{cases_eq}
use Rattle.trie_nodes.specs.declared.slot.Slot.TheVariants.{Empty, Node, Entry}
use Rattle.trie_nodes.specs.declared.plan.Expansion.{Expansion}
use Rattle.trie_nodes.specs.declared.plan.Pruning.{Pruning}
use Rattle.trie_nodes.specs.Layout.{slot_word, key_word, value_word}
use Rattle.trie_nodes.specs.Paths.{nibble}
use Rattle.trie_nodes.specs.Nodes.{slot_at, entry_value, BelongsToSlot, Belongs, stands_for}
use Rattle.trie_nodes.specs.Plans.{IsExpansion, Expands, Prunes, HasOnlyEmptySlots}
use Rattle.trie_nodes.proofs.PathLemmas.{nibble-lt, nibble-same}
use Rattle.trie_nodes.proofs.SlotLemmas.{test-same, test-apart, slot_in-zero, slot_in-node, slot_in-entry}
use Rattle.trie_nodes.proofs.NodeLemmas.{stands_for-slot_is, stands_for-empty, below_stays, stands_for-other_slot}
use Rattle.trie_nodes.proofs.ChainLemmas.{one_more, entry_value-own, entry_value-other, chain-first, chain-key, chain-held, chain-other}

module _ (old new : List ℕ) (seed level node held key value : ℕ) (plan : Expansion) (below_a_root : 0 < level) (is : IsExpansion held key seed level plan) (expands : Expands old new seed level node held key value plan) where
  abbrev above : ℕ
  above = level - 1

  abbrev slot : ℕ
  slot = nibble key seed above

  abbrev more : ℕ
  more = plan.nodes - 1

  is_more : plan.nodes ≡ suc more
  is_more = one_more plan.nodes is.some

  level-above : suc above ≡ level
  level-above = omega arith

  level_fits : above < 8
  level_fits = let within = is.within in omega arith

  was : slot_at old node slot ≡ Entry expands.held_entry
  was = slot_in-entry (slice_index old (slot_word node slot)) expands.held_entry expands.was

  -- the entry that was there stays
  entry_stays : (i : ℕ) → (i ≡ key_word expands.held_entry) ⊎ (i ≡ value_word expands.held_entry) → slice_index new i ≡ slice_index old i
  entry_stays i belongs = below_stays old new above node slot level_fits (nibble-lt key seed above) expands.changes slot i (nibble-lt key seed above) (subst (λ s. BelongsToSlot old (λ below. Belongs old (suc above) below i) s i) (sym was) belongs)

  held_there : slice_index new (key_word expands.held_entry) ≡ held
  held_there = entry_stays (key_word expands.held_entry) (inl refl) ∙ expands.is_held

  becomes : slot_at new node slot ≡ Node expands.first
  becomes = slot_in-node (slice_index new (slot_word node slot)) expands.first (chain-first new seed level node expands.first held key expands.held_entry expands.key_entry more plan is is_more expands.chain held_there expands.is_key) expands.becomes

  -- what the node gives a key of the changed slot, before and afterwards
  before : (k : ℕ) → nibble k seed above ≡ slot → stands_for old seed above node k ≡ entry_value old expands.held_entry k
  before k here = stands_for-slot_is old seed above node k slot (Entry expands.held_entry) level_fits here was

  after : (k : ℕ) → nibble k seed above ≡ slot → stands_for new seed above node k ≡ stands_for new seed level expands.first k
  after k here = stands_for-slot_is new seed above node k slot (Node expands.first) level_fits here becomes ∙ ap (λ n. stands_for new seed n expands.first k) level-above

  abbrev Keeps : ℕ → Type 0
  Keeps k = stands_for new seed above node k ≡ cond (k == key) (Some value) (stands_for old seed above node k)

  keeps-other : (k : ℕ) → k ≢ key → stands_for new seed above node k ≡ stands_for old seed above node k → Keeps k
  keeps-other k not_key e = e ∙ ap (λ b. cond b (Some value) (stands_for old seed above node k)) (sym (test-apart k key not_key))

  keeps-key : (k : ℕ) → k ≡ key → Keeps k
  keeps-key k is_key =
      ap (stands_for new seed above node) is_key
      ∙ after key refl ∙ chain-key new seed level node expands.first held key expands.held_entry expands.key_entry more plan is is_more expands.chain held_there expands.is_key
      ∙ ap Some expands.is_value
      ∙ ap (λ b. cond b (Some value) (stands_for old seed above node k)) (sym (test-same k key is_key))

  keeps-held : stands_for new seed above node held ≡ stands_for old seed above node held
  keeps-held =
      let some = is.some in
      let here = nibble-same seed above (level + plan.nodes - 1) held key (omega arith) is.together in
      after held here
      ∙ chain-held new seed level node expands.first held key expands.held_entry expands.key_entry more plan is is_more expands.chain held_there expands.is_key
      ∙ ap Some (entry_stays (value_word expands.held_entry) (inr refl))
      ∙ sym (before held here ∙ entry_value-own old expands.held_entry held expands.is_held)

  keeps-rest : (k : ℕ) → nibble k seed above ≡ slot → k ≢ held → k ≢ key → stands_for new seed above node k ≡ stands_for old seed above node k
  keeps-rest k here not_held not_key =
      after k here
      ∙ chain-other new seed level node expands.first held key expands.held_entry expands.key_entry more plan is is_more expands.chain held_there expands.is_key k not_held not_key
      ∙ sym (before k here ∙ entry_value-other old expands.held_entry k (λ e. not_held (sym e ∙ expands.is_held)))

  -- an expansion changes nothing but that the one key has its value
  pub expansion-keeps : (k : ℕ) → Keeps k
  expansion-keeps k = elim (cases_eq k key) [
    | inl is_key ↦ keeps-key k is_key
    | inr not_key ↦
        elim (cases_eq k held) [
          | inl is_held ↦ keeps-other k not_key (subst (λ n. stands_for new seed above node n ≡ stands_for old seed above node n) (sym is_held) keeps-held)
          | inr not_held ↦
              elim (cases_eq (nibble k seed above) slot) [
                | inl here ↦ keeps-other k not_key (keeps-rest k here not_held not_key)
                | inr elsewhere ↦ keeps-other k not_key (stands_for-other_slot old new above node slot level_fits (nibble-lt key seed above) expands.changes seed k elsewhere)
              ]
        ]
  ]

module _ (old new : List ℕ) (seed level place : ℕ) (node : List ℕ) (plan : Pruning) (below_a_root : 0 < level) (level_lt : level < 8) (slot_lt : plan.slot < 16) (empty : HasOnlyEmptySlots node) (prunes : Prunes old new level place node plan) where
  abbrev parent_level : ℕ
  parent_level = level - 1

  parent_level_lt : parent_level < 8
  parent_level_lt = omega arith

  slots_are_empty : (slot : ℕ) → slot < 16 → slice_index old (slot_word place slot) ≡ 0
  slots_are_empty slot lt =
      let e : slot_word place slot ≡ place + (2 + slot) = omega arith in
      ap (slice_index old) e ∙ prunes.words (2 + slot) (omega arith) ∙ empty slot lt

  -- a pruning changes nothing
  pub pruning-keeps : (k : ℕ) → stands_for new seed (level - 1) plan.parent k ≡ stands_for old seed (level - 1) plan.parent k
  pruning-keeps k = elim (cases_eq (nibble k seed parent_level) plan.slot) [
    | inl here ↦
        stands_for-slot_is new seed parent_level plan.parent k plan.slot Empty parent_level_lt here (slot_in-zero (slice_index new (slot_word plan.parent plan.slot)) prunes.becomes)
        ∙ sym (stands_for-slot_is old seed parent_level plan.parent k plan.slot (Node place) parent_level_lt here (slot_in-node (slice_index old (slot_word plan.parent plan.slot)) place prunes.placed prunes.was)
        ∙ stands_for-empty old seed (suc parent_level) place k slots_are_empty)
    | inr elsewhere ↦ stands_for-other_slot old new parent_level plan.parent plan.slot parent_level_lt slot_lt prunes.changes seed k elsewhere
  ]
