-- One write to a slot that is free for a key stores the key, or deletes it.
use Rattle.std.proofs.Common.{◌≡◌, ◌≢◌, inl, inr, ℕ, suc, ◌<◌, ◌==◌, cond, List, Option, Some, None, refl, sym, ap, ◌∙◌}
use Rattle.std.specs.Prelude.{slice_index}
use Rattle.std.proofs.lemmas.Bool.{cases_eq}
use Rattle.trie_nodes.specs.declared.slot.Slot.{Slot}
use Rattle.trie_nodes.specs.declared.slot.Slot.TheVariants.{Empty, Node, Entry}
use Rattle.trie_nodes.specs.Layout.{key_word, value_word}
use Rattle.trie_nodes.specs.Paths.{nibble}
use Rattle.trie_nodes.specs.Nodes.{slot_at, slot_value, ChangesSlot, IsFreeFor, stands_for}
use Rattle.trie_nodes.proofs.SlotLemmas.{test-same, test-apart}
use Rattle.trie_nodes.proofs.PathLemmas.{nibble-lt}
use Rattle.trie_nodes.proofs.NodeLemmas.{stands_for-slot_is, stands_for-other_slot}
use Rattle.trie_nodes.proofs.ChainLemmas.{entry_value-own, entry_value-other}

-- a slot that is free for a key gives no other key anything
free-other : (words : List ℕ) (node_value : ℕ → Option ℕ) (key other : ℕ) (slot : Slot) → IsFreeFor words key slot → other ≢ key → slot_value words node_value slot other ≡ None
free-other words node_value key other Empty free differs = refl
free-other words node_value key other (Node node) free differs = absurd free
free-other words node_value key other (Entry entry) free differs = entry_value-other words entry other (λ e. differs (sym e ∙ free))

module _ (old new : List ℕ) (seed level node key : ℕ) (lt : level < 8) (changes : ChangesSlot old new level node (nibble key seed level)) (free : IsFreeFor old key (slot_at old node (nibble key seed level))) where
  abbrev slot : ℕ
  slot = nibble key seed level

  module _ (held : Slot) (becomes : slot_at new node slot ≡ held) (found : Option ℕ) (own : slot_value new (λ below. stands_for new seed (suc level) below key) held key ≡ found)
      (others : (other : ℕ) → other ≢ key → slot_value new (λ below. stands_for new seed (suc level) below other) held other ≡ None) where
    unchanged : (other : ℕ) → other ≢ key → stands_for new seed level node other ≡ stands_for old seed level node other
    unchanged other differs = elim (cases_eq (nibble other seed level) slot) [
      | inl here ↦
          stands_for-slot_is new seed level node other slot held lt here becomes ∙ others other differs
          ∙ sym (stands_for-slot_is old seed level node other slot (slot_at old node slot) lt here refl
          ∙ free-other old (λ below. stands_for old seed (suc level) below other) key other (slot_at old node slot) free differs)
      | inr elsewhere ↦ stands_for-other_slot old new level node slot lt (nibble-lt key seed level) changes seed other elsewhere
    ]

    written : (other : ℕ) → stands_for new seed level node other ≡ cond (other == key) found (stands_for old seed level node other)
    written other = elim (cases_eq other key) [
      | inl same ↦
          ap (stands_for new seed level node) same
          ∙ stands_for-slot_is new seed level node key slot held lt refl becomes ∙ own
          ∙ ap (λ b. cond b found (stands_for old seed level node other)) (sym (test-same other key same))
      | inr differs ↦ unchanged other differs ∙ ap (λ b. cond b found (stands_for old seed level node other)) (sym (test-apart other key differs))
    ]

  pub stored : (entry value other : ℕ) → slot_at new node slot ≡ Entry entry → slice_index new (key_word entry) ≡ key → slice_index new (value_word entry) ≡ value →
      stands_for new seed level node other ≡ cond (other == key) (Some value) (stands_for old seed level node other)
  stored entry value other becomes is_key is_value =
      written (Entry entry) becomes (Some value) (entry_value-own new entry key is_key ∙ ap Some is_value) (λ k differs. entry_value-other new entry k (λ e. differs (sym e ∙ is_key))) other

  pub deleted : (other : ℕ) → slot_at new node slot ≡ Empty → stands_for new seed level node other ≡ cond (other == key) None (stands_for old seed level node other)
  deleted other becomes = written Empty becomes None refl (λ k differs. refl) other
