-- Where a chain of new nodes leads: the keys whose path goes along it come to its last node, and all others turn off to an empty slot.
use Rattle.std.proofs.Common.{◌≡◌, ◌≢◌, ◌⊎◌, inl, inr, ℕ, zero, suc, ◌+◌, ◌-◌, ◌*◌, ◌<◌, ◌≤◌, cond, List, Option, Some, None, refl, sym, ap, subst, ◌∙◌, arith}
use Rattle.std.specs.Prelude.{slice_index}
use Rattle.std.proofs.lemmas.Bool.{cases_eq}
use Rattle.trie_nodes.specs.declared.slot.Slot.{Slot}
use Rattle.trie_nodes.specs.declared.slot.Slot.TheVariants.{Empty, Node, Entry}
use Rattle.trie_nodes.specs.declared.plan.Expansion.{Expansion}
use Rattle.trie_nodes.specs.Layout.{key_word, value_word}
use Rattle.trie_nodes.specs.Paths.{nibble, route}
use Rattle.trie_nodes.specs.Slots.{word_of_slot, slot_in}
use Rattle.trie_nodes.specs.Nodes.{entry_value, slot_value, stands_for}
use Rattle.trie_nodes.specs.Plans.{one_slot, two_slots, IsNewNode, IsChain, IsExpansion, IsPlannedChain}
use Rattle.trie_nodes.proofs.PathLemmas.{nibble-lt, nibble-same}
use Rattle.trie_nodes.proofs.SlotLemmas.{test-same, test-apart, slot_in-zero, slot_in-node, slot_in-entry}
use Rattle.trie_nodes.proofs.NodeLemmas.{stands_for-slot}

pub one_slot-same : (slot word s : ℕ) → s ≡ slot → one_slot slot word s ≡ word
one_slot-same slot word s e = ap (λ b. cond b word 0) (test-same s slot e)

pub one_slot-other : (slot word s : ℕ) → s ≢ slot → one_slot slot word s ≡ 0
one_slot-other slot word s ne = ap (λ b. cond b word 0) (test-apart s slot ne)

pub two_slots-first : (slot word other other_word s : ℕ) → s ≡ slot → two_slots slot word other other_word s ≡ word
two_slots-first slot word other other_word s e = ap (λ b. cond b word (one_slot other other_word s)) (test-same s slot e)

pub two_slots-later : (slot word other other_word s : ℕ) → s ≢ slot → two_slots slot word other other_word s ≡ one_slot other other_word s
two_slots-later slot word other other_word s ne = ap (λ b. cond b word (one_slot other other_word s)) (test-apart s slot ne)

pub entry_value-own : (words : List ℕ) (entry key : ℕ) → slice_index words (key_word entry) ≡ key → entry_value words entry key ≡ Some (slice_index words (value_word entry))
entry_value-own words entry key e = ap (λ b. cond b (Some (slice_index words (value_word entry))) None) (test-same (slice_index words (key_word entry)) key e)

pub entry_value-other : (words : List ℕ) (entry key : ℕ) → slice_index words (key_word entry) ≢ key → entry_value words entry key ≡ None
entry_value-other words entry key ne = ap (λ b. cond b (Some (slice_index words (value_word entry))) None) (test-apart (slice_index words (key_word entry)) key ne)

-- a key's path goes along another's on so many levels, or turns off at one of them
pub along_or_off : (seed level more k key : ℕ) → ((d : ℕ) → level ≤ d → d < level + more → nibble k seed d ≡ nibble key seed d) ⊎ ((d : ℕ) × (level ≤ d) × (d < level + more) × (nibble k seed d ≢ nibble key seed d))
along_or_off seed level zero k key = inl (λ d from to. absurd (omega arith))
along_or_off seed level (suc more) k key = elim (along_or_off seed level more k key) [
  | inl along ↦
      elim (cases_eq (nibble k seed (level + more)) (nibble key seed (level + more))) [
        | inl same ↦ inl (λ d from to. elim (cases_eq d (level + more)) [
          | inl last ↦ subst (λ n. nibble k seed n ≡ nibble key seed n) (sym last) same
          | inr before ↦ along d from (omega (arith, before))
        ])
        | inr off ↦ inr (level + more, omega arith, omega arith, off)
      ]
  | inr found ↦ inr (found.0, found.1, omega (arith, found.2), found.3)
]

module _ (words : List ℕ) (seed key : ℕ) (slots : ℕ → ℕ) where
  pub chain-placed : (more level above first : ℕ) → IsChain words seed key slots (suc more) level above first → 0 < first
  chain-placed zero level above first chain = chain.placed
  chain-placed (suc more) level above first chain = chain.1.placed

  -- what a new node gives a key, by the word in its slot for the key
  new_node-slot : (node above level k : ℕ) (in_slots : ℕ → ℕ) → level < 8 → IsNewNode words node above in_slots →
      stands_for words seed level node k ≡ slot_value words (λ below. stands_for words seed (suc level) below k) (slot_in (in_slots (nibble k seed level))) k
  new_node-slot node above level k in_slots lt new =
      stands_for-slot words seed level node k lt
      ∙ ap (λ word. slot_value words (λ below. stands_for words seed (suc level) below k) (slot_in word) k) (new.holds (nibble k seed level) (nibble-lt k seed level))

  -- a new node with one slot, which leads on
  leads_on : (node above level next k : ℕ) → level < 8 → 0 < next → IsNewNode words node above (one_slot (nibble key seed level) (word_of_slot (Node next))) → nibble k seed level ≡ nibble key seed level →
      stands_for words seed level node k ≡ stands_for words seed (suc level) next k
  leads_on node above level next k lt placed new same =
      new_node-slot node above level k (one_slot (nibble key seed level) (word_of_slot (Node next))) lt new
      ∙ ap (λ slot. slot_value words (λ below. stands_for words seed (suc level) below k) slot k)
      (slot_in-node (one_slot (nibble key seed level) (word_of_slot (Node next)) (nibble k seed level)) next placed (one_slot-same (nibble key seed level) (2 * next) (nibble k seed level) same))

  leads_nowhere : (node above level next k : ℕ) → level < 8 → IsNewNode words node above (one_slot (nibble key seed level) (word_of_slot (Node next))) → nibble k seed level ≢ nibble key seed level →
      stands_for words seed level node k ≡ None
  leads_nowhere node above level next k lt new differs =
      new_node-slot node above level k (one_slot (nibble key seed level) (word_of_slot (Node next))) lt new
      ∙ ap (λ slot. slot_value words (λ below. stands_for words seed (suc level) below k) slot k)
      (slot_in-zero (one_slot (nibble key seed level) (word_of_slot (Node next)) (nibble k seed level)) (one_slot-other (nibble key seed level) (2 * next) (nibble k seed level) differs))

  -- a key whose path goes along the chain gets what the last node's slot for it gives
  pub chain-along : (more level above first k last : ℕ) → last ≡ level + more → last < 8 → IsChain words seed key slots (suc more) level above first
      → ((d : ℕ) → level ≤ d → d < last → nibble k seed d ≡ nibble key seed d)
      → stands_for words seed level first k ≡ slot_value words (λ below. stands_for words seed (suc last) below k) (slot_in (slots (nibble k seed last))) k
  chain-along zero level above first k last e lt chain along =
      let here : level ≡ last = omega arith in
      subst (λ n. stands_for words seed level first k ≡ slot_value words (λ below. stands_for words seed (suc n) below k) (slot_in (slots (nibble k seed n))) k) here
      (new_node-slot first above level k slots (omega arith) chain)
  chain-along (suc more) level above first k last e lt chain along =
      leads_on first above level chain.0 k (omega arith) (chain-placed more (suc level) first chain.0 chain.2) chain.1 (along level (omega arith) (omega arith))
      ∙ chain-along more (suc level) first chain.0 k last (omega arith) lt chain.2 (λ d from to. along d (omega arith) to)

  -- a key whose path turns off gets nothing
  pub chain-off : (more level above first k last d : ℕ) → last ≡ level + more → last < 8 → IsChain words seed key slots (suc more) level above first
      → level ≤ d → d < last → nibble k seed d ≢ nibble key seed d → stands_for words seed level first k ≡ None
  chain-off zero level above first k last d e lt chain from to off = absurd (omega arith)
  chain-off (suc more) level above first k last d e lt chain from to off = elim (cases_eq (nibble k seed level) (nibble key seed level)) [
    | inl same ↦
        let further : level ≢ d = λ here. off (subst (λ n. nibble k seed n ≡ nibble key seed n) here same) in
        leads_on first above level chain.0 k (omega arith) (chain-placed more (suc level) first chain.0 chain.2) chain.1 same
        ∙ chain-off more (suc level) first chain.0 k last d (omega arith) lt chain.2 (omega arith) to off
    | inr differs ↦ leads_nowhere first above level chain.0 k (omega arith) chain.1 differs
  ]

pub one_more : (nodes : ℕ) → 0 < nodes → nodes ≡ suc (nodes - 1)
one_more nodes some = omega arith

-- A chain of one node more than `more` to two entries, whose keys have paths that go together along it and part in its last node.
module _ (words : List ℕ) (seed level above first held key held_entry key_entry more : ℕ) (plan : Expansion) (is : IsExpansion held key seed level plan)
    (is_more : plan.nodes ≡ suc more) (chain : IsPlannedChain words seed key plan level above first held_entry key_entry)
    (is_held : slice_index words (key_word held_entry) ≡ held) (is_key : slice_index words (key_word key_entry) ≡ key) where
  abbrev last : ℕ
  last = level + more

  last_is : level + plan.nodes - 1 ≡ last
  last_is = omega arith

  last_lt : last < 8
  last_lt = let within = is.within in omega arith

  held_slot : plan.held_slot ≡ nibble held seed last
  held_slot = is.held_slot ∙ ap (nibble held seed) last_is

  key_slot : plan.key_slot ≡ nibble key seed last
  key_slot = is.key_slot ∙ ap (nibble key seed) last_is

  together : route seed last held ≡ route seed last key
  together = subst (λ n. route seed n held ≡ route seed n key) last_is is.together

  along : (d : ℕ) → level ≤ d → d < last → nibble held seed d ≡ nibble key seed d
  along d from to = nibble-same seed d last held key to together

  abbrev slots : ℕ → ℕ
  slots = two_slots plan.held_slot (word_of_slot (Entry held_entry)) plan.key_slot (word_of_slot (Entry key_entry))

  its_nodes : IsChain words seed key slots (suc more) level above first
  its_nodes = subst (λ n. IsChain words seed key slots n level above first) is_more chain

  abbrev gives : ℕ → Slot → Option ℕ
  gives k slot = slot_value words (λ below. stands_for words seed (suc last) below k) slot k

  come_to : (k s : ℕ) → ((d : ℕ) → level ≤ d → d < last → nibble k seed d ≡ nibble key seed d) → s ≡ nibble k seed last → stands_for words seed level first k ≡ gives k (slot_in (slots s))
  come_to k s goes e =
      chain-along words seed key slots more level above first k last refl last_lt its_nodes goes ∙ ap (λ s. gives k (slot_in (slots s))) (sym e)

  at_held : slot_in (slots plan.held_slot) ≡ Entry held_entry
  at_held = slot_in-entry (slots plan.held_slot) held_entry (two_slots-first plan.held_slot (2 * held_entry + 1) plan.key_slot (2 * key_entry + 1) plan.held_slot refl)

  at_key : slot_in (slots plan.key_slot) ≡ Entry key_entry
  at_key = slot_in-entry (slots plan.key_slot) key_entry
      (two_slots-later plan.held_slot (2 * held_entry + 1) plan.key_slot (2 * key_entry + 1) plan.key_slot (λ e. is.part (sym e))
      ∙ one_slot-same plan.key_slot (2 * key_entry + 1) plan.key_slot refl)

  at_other : (s : ℕ) → s ≢ plan.held_slot → s ≢ plan.key_slot → slot_in (slots s) ≡ Empty
  at_other s not_held not_key = slot_in-zero (slots s)
      (two_slots-later plan.held_slot (2 * held_entry + 1) plan.key_slot (2 * key_entry + 1) s not_held
      ∙ one_slot-other plan.key_slot (2 * key_entry + 1) s not_key)

  pub chain-first : 0 < first
  chain-first = chain-placed words seed key slots more level above first its_nodes

  pub chain-differ : held ≢ key
  chain-differ e = is.part (held_slot ∙ ap (λ k. nibble k seed last) e ∙ sym key_slot)

  pub chain-key : stands_for words seed level first key ≡ Some (slice_index words (value_word key_entry))
  chain-key = come_to key plan.key_slot (λ d from to. refl) key_slot ∙ ap (gives key) at_key ∙ entry_value-own words key_entry key is_key

  pub chain-held : stands_for words seed level first held ≡ Some (slice_index words (value_word held_entry))
  chain-held = come_to held plan.held_slot along held_slot ∙ ap (gives held) at_held ∙ entry_value-own words held_entry held is_held

  last-other : (k : ℕ) → k ≢ held → k ≢ key → (s : ℕ) → gives k (slot_in (slots s)) ≡ None
  last-other k not_held not_key s = elim (cases_eq s plan.held_slot) [
    | inl here ↦ ap (λ n. gives k (slot_in (slots n))) here ∙ ap (gives k) at_held ∙ entry_value-other words held_entry k (λ e. not_held (sym e ∙ is_held))
    | inr apart ↦
        elim (cases_eq s plan.key_slot) [
          | inl here ↦ ap (λ n. gives k (slot_in (slots n))) here ∙ ap (gives k) at_key ∙ entry_value-other words key_entry k (λ e. not_key (sym e ∙ is_key))
          | inr nowhere ↦ ap (gives k) (at_other s apart nowhere)
        ]
  ]

  pub chain-other : (k : ℕ) → k ≢ held → k ≢ key → stands_for words seed level first k ≡ None
  chain-other k not_held not_key = elim (along_or_off seed level more k key) [
    | inl goes ↦ come_to k (nibble k seed last) goes refl ∙ last-other k not_held not_key (nibble k seed last)
    | inr off ↦ chain-off words seed key slots more level above first k last off.0 refl last_lt its_nodes off.1 off.2 off.3
  ]
