-- A chain by the places of its nodes: each of them shows what the map has of each key on its path, so one write may show the whole chain.
use Rattle.std.proofs.Common.{◌≡◌, ◌≢◌, inl, inr, ℕ, zero, suc, ◌+◌, ◌-◌, ◌<◌, ◌==◌, cond, List, Option, Some, None, refl, sym, ap, subst, ◌∙◌, arith}
use Rattle.std.specs.Prelude.{slice_index}
use Rattle.std.proofs.lemmas.Bool.{cases_eq}
use Rattle.trie_nodes.specs.declared.slot.Slot.{Slot}
use Rattle.trie_nodes.specs.declared.slot.Slot.TheVariants.{Empty, Node, Entry}
use Rattle.trie_nodes.specs.declared.plan.Expansion.{Expansion}
use Rattle.trie_nodes.specs.Layout.{key_word, value_word}
use Rattle.trie_nodes.specs.Paths.{nibble, route}
use Rattle.trie_nodes.specs.Slots.{word_of_slot, slot_in}
use Rattle.trie_nodes.specs.Nodes.{slot_at, entry_value, Shows}
use Rattle.trie_nodes.specs.Plans.{one_slot, IsNewNode, IsChain, place_before, IsChainAt, IsExpansion, last_slots}
use Rattle.trie_nodes.proofs.PathLemmas.{nibble-lt, nibble-same, route-join}
use Rattle.trie_nodes.proofs.SlotLemmas.{test-same, test-apart, slot_in-zero, slot_in-node, slot_in-entry}
use Rattle.trie_nodes.proofs.ChainLemmas.{one_slot-same, one_slot-other, two_slots-first, two_slots-later, entry_value-own, entry_value-other}

module _ (words : List ℕ) (seed key : ℕ) (slots : ℕ → ℕ) where
  -- the chain behind the first node
  rest_of : (nodes level above : ℕ) (place : ℕ → ℕ) → IsChainAt words seed key slots (suc (suc nodes)) level above place → IsChainAt words seed key slots (suc nodes) (suc level) (place 0) (λ i. place (suc i))
  rest_of nodes level above place chain = record {
    some = omega arith;
    links = λ i lt.
        let e : level + suc i ≡ suc level + i = omega arith in
        before i (one_slot (nibble key seed (suc level + i)) (word_of_slot (Node (place (suc (suc i))))))
        (subst (λ n. IsNewNode words (place (suc i)) (place i) (one_slot (nibble key seed n) (word_of_slot (Node (place (suc (suc i))))))) e (chain.links (suc i) (omega arith)));
    last = λ i e. before i slots (chain.last (suc i) (omega arith));
  }
    where
      before : (i : ℕ) (in_slots : ℕ → ℕ) → IsNewNode words (place (suc i)) (place i) in_slots → IsNewNode words (place (suc i)) (place_before (place 0) (λ i. place (suc i)) i) in_slots
      before zero in_slots new = new
      before (suc i) in_slots new = new

  -- the two ways to say that it is a chain
  pub chain-by_places : (more level above : ℕ) (place : ℕ → ℕ) → IsChainAt words seed key slots (suc more) level above place → IsChain words seed key slots (suc more) level above (place 0)
  chain-by_places zero level above place chain = chain.last 0 refl
  chain-by_places (suc more) level above place chain =
      let e : level + 0 ≡ level = omega arith in (
        place 1,
        subst (λ n. IsNewNode words (place 0) above (one_slot (nibble key seed n) (word_of_slot (Node (place 1))))) e (chain.links 0 (omega arith)),
        chain-by_places more (suc level) (place 0) (λ i. place (suc i)) (rest_of more level above place chain),
      )

-- a new node's slot is what one of these words says
new_slot : (words : List ℕ) (node above slot : ℕ) (in_slots : ℕ → ℕ) (held : Slot) → slot < 16 → IsNewNode words node above in_slots → slot_in (in_slots slot) ≡ held → slot_at words node slot ≡ held
new_slot words node above slot in_slots held lt new is = ap slot_in (new.holds slot lt) ∙ is

module _ (words : List ℕ) (seed level above held key value held_entry key_entry : ℕ) (plan : Expansion) (place : ℕ → ℕ) (is : IsExpansion held key seed level plan)
    (chain : IsChainAt words seed key (last_slots plan held_entry key_entry) plan.nodes level above place)
    (is_held : slice_index words (key_word held_entry) ≡ held) (is_key : slice_index words (key_word key_entry) ≡ key) (is_value : slice_index words (value_word key_entry) ≡ value)
    (is_below : ℕ → ℕ → Type 0) (below : (i : ℕ) → suc i < plan.nodes → is_below (suc (level + i)) (place (suc i))) where
  -- what a key has in the map once the chain is shown, where it had what the held entry gives it
  abbrev has : ℕ → Option ℕ
  has k = cond (k == key) (Some value) (entry_value words held_entry k)

  has-other : (k : ℕ) → k ≢ key → has k ≡ entry_value words held_entry k
  has-other k differs = ap (λ b. cond b (Some value) (entry_value words held_entry k)) (test-apart k key differs)

  has-nothing : (k : ℕ) → k ≢ key → k ≢ held → has k ≡ None
  has-nothing k not_key not_held = has-other k not_key ∙ entry_value-other words held_entry k (λ e. not_held (sym e ∙ is_held))

  has-key : (k : ℕ) → k ≢ held → has k ≡ entry_value words key_entry k
  has-key k not_held = elim (cases_eq k key) [
    | inl same ↦
        ap (λ b. cond b (Some value) (entry_value words held_entry k)) (test-same k key same)
        ∙ sym (entry_value-own words key_entry k (is_key ∙ sym same) ∙ ap Some is_value)
    | inr not_key ↦ has-nothing k not_key not_held ∙ sym (entry_value-other words key_entry k (λ e. not_key (sym e ∙ is_key)))
  ]

  abbrev ShowsAt : ℕ → ℕ → ℕ → Slot → Type 0
  ShowsAt n i k slot = Shows words seed (is_below (suc n)) n k (has k) slot

  -- a link shows the next node to the keys that go on along the chain, and nothing to others
  link-shows : (i k : ℕ) → suc i < plan.nodes → ShowsAt (level + i) i k (slot_at words (place i) (nibble k seed (level + i)))
  link-shows i k lt =
      let n = level + i in
      let within = is.within in
      let in_slots = one_slot (nibble key seed n) (word_of_slot (Node (place (suc i)))) in
      let new = chain.links i lt in
      let go_on = nibble-same seed n (level + plan.nodes - 1) held key (omega arith) is.together in
      elim (cases_eq (nibble k seed n) (nibble key seed n)) [
        | inl along ↦
            let slot = new_slot words (place i) (place_before above place i) (nibble k seed n) in_slots (Node (place (suc i))) (nibble-lt k seed n) new
            (slot_in-node (in_slots (nibble k seed n)) (place (suc i)) (placed_after i lt) (one_slot-same (nibble key seed n) (word_of_slot (Node (place (suc i)))) (nibble k seed n) along)) in
            let shown : ShowsAt n i k (Node (place (suc i))) = (omega arith, below i lt) in
            subst (ShowsAt n i k) (sym slot) shown
        | inr off ↦
            let slot = new_slot words (place i) (place_before above place i) (nibble k seed n) in_slots Empty (nibble-lt k seed n) new
            (slot_in-zero (in_slots (nibble k seed n)) (one_slot-other (nibble key seed n) (word_of_slot (Node (place (suc i)))) (nibble k seed n) off)) in
            subst (ShowsAt n i k) (sym slot)
            (has-nothing k (λ same. off (ap (λ k. nibble k seed n) same)) (λ same. off (ap (λ k. nibble k seed n) same ∙ go_on)))
      ]
    where
      placed_after : (i : ℕ) → suc i < plan.nodes → 0 < place (suc i)
      placed_after i lt = elim (cases_eq (suc (suc i)) plan.nodes) [
        | inl last ↦ (chain.last (suc i) last).placed
        | inr more ↦ (chain.links (suc i) (omega (arith, more, lt))).placed
      ]

  -- the last node shows both entries
  last-shows : (i k : ℕ) → suc i ≡ plan.nodes → route seed (level + i) k ≡ route seed (level + i) key → ShowsAt (level + i) i k (slot_at words (place i) (nibble k seed (level + i)))
  last-shows i k last along =
      let n = level + i in
      let is_last : level + plan.nodes - 1 ≡ n = omega arith in
      let held_slot = is.held_slot ∙ ap (nibble held seed) is_last in
      let key_slot = is.key_slot ∙ ap (nibble key seed) is_last in
      let together = subst (λ n. route seed n held ≡ route seed n key) is_last is.together in
      let in_slots = last_slots plan held_entry key_entry in
      let new = chain.last i last in
      elim (cases_eq (nibble k seed n) plan.held_slot) [
        | inl here ↦
            let slot = new_slot words (place i) (place_before above place i) (nibble k seed n) in_slots (Entry held_entry) (nibble-lt k seed n) new
            (slot_in-entry (in_slots (nibble k seed n)) held_entry (two_slots-first plan.held_slot (word_of_slot (Entry held_entry)) plan.key_slot (word_of_slot (Entry key_entry)) (nibble k seed n) here)) in
            let same_route = route-join seed n held k (together ∙ sym along) (sym held_slot ∙ sym here) in
            let shown : ShowsAt n i k (Entry held_entry) =
            (ap (route seed (suc n)) is_held ∙ same_route, has-other k (λ same. is.part (sym here ∙ ap (λ k. nibble k seed n) same ∙ sym key_slot))) in
            subst (ShowsAt n i k) (sym slot) shown
        | inr not_held ↦
            let differs : k ≢ held = λ same. not_held (ap (λ k. nibble k seed n) same ∙ sym held_slot) in
            elim (cases_eq (nibble k seed n) plan.key_slot) [
              | inl here ↦
                  let slot = new_slot words (place i) (place_before above place i) (nibble k seed n) in_slots (Entry key_entry) (nibble-lt k seed n) new
                  (slot_in-entry (in_slots (nibble k seed n)) key_entry
                  (two_slots-later plan.held_slot (word_of_slot (Entry held_entry)) plan.key_slot (word_of_slot (Entry key_entry)) (nibble k seed n) not_held
                  ∙ one_slot-same plan.key_slot (word_of_slot (Entry key_entry)) (nibble k seed n) here)) in
                  let shown : ShowsAt n i k (Entry key_entry) =
                  (ap (route seed (suc n)) is_key ∙ route-join seed n key k (sym along) (sym key_slot ∙ sym here), has-key k differs) in
                  subst (ShowsAt n i k) (sym slot) shown
              | inr not_key ↦
                  let slot = new_slot words (place i) (place_before above place i) (nibble k seed n) in_slots Empty (nibble-lt k seed n) new
                  (slot_in-zero (in_slots (nibble k seed n))
                  (two_slots-later plan.held_slot (word_of_slot (Entry held_entry)) plan.key_slot (word_of_slot (Entry key_entry)) (nibble k seed n) not_held
                  ∙ one_slot-other plan.key_slot (word_of_slot (Entry key_entry)) (nibble k seed n) not_key)) in
                  subst (ShowsAt n i k) (sym slot) (has-nothing k (λ same. not_key (ap (λ k. nibble k seed n) same ∙ sym key_slot)) differs)
            ]
      ]

  -- each node of the chain shows, of each key on its path, what the key has in the map
  pub chain-shows : (i k : ℕ) → i < plan.nodes → route seed (level + i) k ≡ route seed (level + i) key → Shows words seed (is_below (suc (level + i))) (level + i) k (has k) (slot_at words (place i) (nibble k seed (level + i)))
  chain-shows i k lt along = elim (cases_eq (suc i) plan.nodes) [
    | inl last ↦ last-shows i k last along
    | inr more ↦ link-shows i k (omega (arith, more, lt))
  ]
