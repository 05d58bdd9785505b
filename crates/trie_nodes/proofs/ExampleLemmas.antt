-- What is said of the plans is so of worked rows.
use Rattle.std.proofs.Common.{◌≡◌, ◌≢◌, ◌⊎◌, inl, inr, ℕ, zero, suc, ◌+◌, ◌<◌, ◌≤◌, ◌==◌, Bool, true, false, ◌&&◌, List, lit<, refl, ap, subst, ◌∙◌, arith}
use Rattle.std.specs.Prelude.{◌||◌, slice_index}
use Rattle.std.proofs.lemmas.Bool.{cases_eq, eqb-true}
use Rattle.trie_nodes.specs.declared.slot.Slot.TheVariants.{Empty}
use Rattle.trie_nodes.specs.Layout.{slot_word}
use Rattle.trie_nodes.specs.Paths.{nibble}
use Rattle.trie_nodes.specs.Nodes.{slot_at, BelongsToSlot, BelongsWithin, Belongs, ChangesSlot}
use Rattle.trie_nodes.specs.Plans.{two_slots, Expands, Prunes}
use Rattle.trie_nodes.specs.Examples.{one_key, two_keys, expansion_to_two, no_keys, no_nodes, empty_node, pruning_to_none}
use Rattle.trie_nodes.proofs.SlotLemmas.{slot_in-zero}

-- a test holds of each number below this one
abbrev all_below : (ℕ → Bool) → ℕ → Bool
all_below test zero = true
all_below test (suc n) = all_below test n && test n

both : (a b : Bool) → (a && b) ≡ true → (a ≡ true) × (b ≡ true)
both true b e = (refl, e)
both false b e = absurd cc

below : (test : ℕ → Bool) (n i : ℕ) → all_below test n ≡ true → i < n → test i ≡ true
below test zero i all lt = absurd (omega arith)
below test (suc n) i all lt =
    let parts = both (all_below test n) (test n) all in
    elim (cases_eq i n) [
      | inl last ↦ ap test last ∙ parts.1
      | inr before ↦ below test n i parts.0 (omega (arith, before))
    ]

-- two rows have the same words below n, but for this one
abbrev SameBut : List ℕ → List ℕ → ℕ → ℕ → Type 0
SameBut old new j n = (i : ℕ) → i < n → i ≢ j → slice_index new i ≡ slice_index old i

either : (a b : Bool) → (a || b) ≡ true → (a ≡ true) ⊎ (b ≡ true)
either true b e = inl refl
either false b e = inr e

are_same_but : (old new : List ℕ) (j n : ℕ) → all_below (λ i. (i == j) || (slice_index new i == slice_index old i)) n ≡ true → SameBut old new j n
are_same_but old new j n all i lt differs = elim (either (i == j) (slice_index new i == slice_index old i) (below (λ i. (i == j) || (slice_index new i == slice_index old i)) n i all lt)) [
  | inl here ↦ absurd (differs (eqb-true i j here))
  | inr same ↦ eqb-true (slice_index new i) (slice_index old i) same
]

-- a node's slots are empty, but for slot 0
are_empty : (words : List ℕ) (node : ℕ) → all_below (λ s. (s == 0) || (slice_index words (slot_word node s) == 0)) 16 ≡ true → (slot : ℕ) → slot < 16 → slot ≢ 0 → slot_at words node slot ≡ Empty
are_empty words node all slot lt differs = elim (either (slot == 0) (slice_index words (slot_word node slot) == 0) (below (λ s. (s == 0) || (slice_index words (slot_word node s) == 0)) 16 slot all lt)) [
  | inl first ↦ absurd (differs (eqb-true slot 0 first))
  | inr empty ↦ slot_in-zero (slice_index words (slot_word node slot)) (eqb-true (slice_index words (slot_word node slot)) 0 empty)
]

-- what belongs to one of the slots belongs to slot 0
in_first : (words : List ℕ) (belongs : ℕ → ℕ → Type 0) (node slot i : ℕ) → ((slot : ℕ) → slot < 16 → slot ≢ 0 → slot_at words node slot ≡ Empty) → slot < 16 →
    BelongsToSlot words (λ below. belongs below i) (slot_at words node slot) i → BelongsToSlot words (λ below. belongs below i) (slot_at words node 0) i
in_first words belongs node slot i empty lt is = elim (cases_eq slot 0) [
  | inl first ↦ subst (λ s. BelongsToSlot words (λ below. belongs below i) (slot_at words node s) i) first is
  | inr later ↦ absurd (subst (λ s. BelongsToSlot words (λ below. belongs below i) s i) (empty slot lt later) is)
]

-- the entry of key 0 is all that is below the root
one_key-below : (slot i : ℕ) → slot < 16 → BelongsToSlot one_key (λ below. Belongs one_key 1 below i) (slot_at one_key 1 slot) i → (19 ≤ i) × (i < 21)
one_key-below slot i lt is = elim (in_first one_key (Belongs one_key 1) 1 slot i (are_empty one_key 1 refl) lt is) [
  | inl key ↦ (omega (arith, key), omega (arith, key))
  | inr value ↦ (omega (arith, value), omega (arith, value))
]

one_key-belongs : (i : ℕ) → Belongs one_key 0 1 i → i < 21
unfolding Belongs BelongsWithin
one_key-belongs i belongs = elim belongs [
  | inl own ↦ omega (arith, own.1)
  | inr below ↦ (one_key-below below.0 i below.1 below.2).1
]

one_key-changes : ChangesSlot one_key two_keys 0 1 0
one_key-changes = record {
  apart = record { apart = λ slot i lt from to is. let is_below = one_key-below slot i lt is in absurd (omega arith) };
  stays = λ i belongs. are_same_but one_key two_keys 3 21 refl i (one_key-belongs i belongs);
}

are_words : (words : List ℕ) (place n : ℕ) (wanted : ℕ → ℕ) → all_below (λ i. slice_index words (place + i) == wanted i) n ≡ true → (i : ℕ) → i < n → slice_index words (place + i) ≡ wanted i
are_words words place n wanted all i lt = eqb-true (slice_index words (place + i)) (wanted i) (below (λ i. slice_index words (place + i) == wanted i) n i all lt)

pub expands-example : Expands one_key two_keys 0 1 1 0 16 2 expansion_to_two
unfolding nibble
expands-example = record {
  held_entry = 19;
  key_entry = 39;
  first = 21;
  changes = one_key-changes;
  was = refl;
  is_held = refl;
  becomes = refl;
  chain = record { placed = lit< tt; free = refl; parent = refl; holds = are_words two_keys 23 16 (two_slots 0 39 1 79) refl };
  is_key = refl;
  is_value = refl;
}

-- the node at 21 is all that is below the root
no_keys-node : (i : ℕ) → Belongs no_keys 1 21 i → (21 ≤ i) × (i < 39)
unfolding Belongs BelongsWithin
no_keys-node i belongs = elim belongs [
  | inl own ↦ own
  | inr below ↦ absurd (in_first no_keys (BelongsWithin no_keys 6) 21 below.0 i (are_empty no_keys 21 refl) below.1 below.2)
]

no_keys-below : (slot i : ℕ) → slot < 16 → BelongsToSlot no_keys (λ below. Belongs no_keys 1 below i) (slot_at no_keys 1 slot) i → (21 ≤ i) × (i < 39)
no_keys-below slot i lt is = no_keys-node i (in_first no_keys (Belongs no_keys 1) 1 slot i (are_empty no_keys 1 refl) lt is)

no_keys-belongs : (i : ℕ) → Belongs no_keys 0 1 i → i < 39
unfolding Belongs BelongsWithin
no_keys-belongs i belongs = elim belongs [
  | inl own ↦ omega (arith, own.1)
  | inr below ↦ (no_keys-below below.0 i below.1 below.2).1
]

pub prunes-example : Prunes no_keys no_nodes 1 21 empty_node pruning_to_none
prunes-example = record {
  placed = lit< tt;
  words = are_words no_keys 21 18 (slice_index empty_node) refl;
  changes = record {
    apart = record { apart = λ slot i lt from to is. let is_below = no_keys-below slot i lt is in absurd (omega arith) };
    stays = λ i belongs. are_same_but no_keys no_nodes 3 39 refl i (no_keys-belongs i belongs);
  };
  was = refl;
  becomes = refl;
}
