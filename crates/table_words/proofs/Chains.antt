-- A chain may be published in a slot that has the entry of another key: each of its nodes is in order at the one write.
use Rattle.std.proofs.Common.{◌≡◌, ◌≢◌, ◌⊎◌, inl, inr, ℕ, suc, ◌+◌, ◌-◌, ◌*◌, ◌/◌, ◌%◌, ◌^◌, ◌<◌, ◌==◌, ◌&&◌, Bool, true, cond, nat_lt, IsTrue, List, [], ◌∷◌, ◌++◌, set, Option, Some, None, slice_index, refl, sym, ap, ◌∙◌, subst, arith, eq-eqb, lt-ltb}
use Rattle.std.proofs.lemmas.Bool.{cases_eq}
use mathlib.Core.Option.{some}
use lib.ListN.{get_elem?}
use Rattle.sync_model.specs.declared.item.SharedEntry.{SharedEntry}
use Rattle.sync_types.specs.declared.map_object.MapCall.{MapCall}
use Rattle.sync_model.specs.SharedHistory.{value_at, contents_after}
use Rattle.table_rule.specs.declared.begin.Begin.{Begin}
use Rattle.table_rule.specs.declared.view.Lock.{Lock}
use Rattle.table_rule.specs.declared.view.Own.{Own}
use Rattle.table_rule.specs.declared.view.View.{View}
use Rattle.sync_types.specs.KeyCalls.{is_key_entry, key_after}
use Rattle.table_words.specs.Laws.{HistoryLaws}
use Rattle.trie_nodes.specs.declared.plan.Expansion.{Expansion}
use Rattle.trie_nodes.specs.declared.slot.Slot.{Slot}
use Rattle.trie_nodes.specs.declared.slot.Slot.TheVariants.{Empty, Node, Entry}
use Rattle.trie_nodes.specs.Layout.{slot_word}
use Rattle.trie_nodes.specs.Nodes.{Shows, entry_value}
use Rattle.trie_nodes.specs.Paths.{nibble, route}
use Rattle.trie_nodes.specs.Plans.{one_slot, place_before, last_slots, IsNewNode, IsChainAt, IsExpansion}
use Rattle.trie_nodes.specs.Slots.{word_of_slot, slot_in}
use Rattle.table_rule.specs.Owed.{Locks}
use Rattle.table_rule.specs.Rule.{TableState, Kept}
use Rattle.table_rule.specs.Shape.{Shape, start_of, held_at, time, IsBelow, ShowsAt, Fine}
use Rattle.table_words.specs.TrieLaws.{TrieLaws}
use Rattle.table_rule.specs.Units.{link_at, with_unit, link_slots, link_word, unit_word}
use Rattle.table_words.proofs.KeyCalls.{IsOn, ChangesKey}
use Rattle.table_words.proofs.Outside.{nibble_below}
use Rattle.table_words.proofs.Published as published
use Rattle.table_words.proofs.Publishing as publishing
use Rattle.table_words.proofs.Sites as sites
use Rattle.table_words.proofs.Stores as stores
use Rattle.table_words.proofs.Stores.{test_off, none_or_some, entry_place}
use Rattle.table_words.proofs.Units as units

module _ (k : Begin) (laws : HistoryLaws) (tries : TrieLaws) (s : TableState) (r : Kept k s) (id : ℕ) (v : View) (at_me : get_elem? s.views id ≡ some v) (own : Own) (owns : List Own) (l : Lock) (m word nodes : ℕ) (ready : published.IsReady k v own owns l m word nodes)
    (call : MapCall ℕ) (on : IsOn l.key call) (is_entry : is_key_entry call (value_at (contents_after (start_of k) r.log) m l.key) ≡ true)
    (x new held_place held_key : ℕ) (plan : Expansion) (count : nodes ≡ plan.nodes) (shown : slot_in word ≡ Entry held_place) (held_is : slice_index s.words held_place ≡ held_key)
    (planned : IsExpansion held_key l.key k.seed (suc l.level) plan) (x_is : x ≡ word_of_slot (Node (link_at own.next 0))) (has : key_after call (value_at (contents_after (start_of k) r.log) m l.key) ≡ Some new)
    (drafted : (i : ℕ) → i < 2 + 18 * plan.nodes → slice_index own.draft i ≡ unit_word k.seed l.key new (suc l.level) l.node held_place own.next plan i) where
  abbrev log : List SharedEntry
  log = stores.log k laws tries s r id v at_me own owns l m word nodes ready call on is_entry

  abbrev shape : Shape
  shape = with_unit r.shape k.seed m l.level l.key own.next nodes

  abbrev words : List ℕ
  words = set s.words (slot_word l.node (nibble l.key k.seed l.level)) x

  abbrev value : Option ℕ
  value = key_after call (value_at (contents_after (start_of k) r.log) m l.key)

  abbrev link : ℕ → ℕ
  link i = link_at own.next i

  locks : Locks k r.shape s.words v.number m l
  locks = stores.locks k laws tries s r id v at_me own owns l m word nodes ready call on is_entry

  site : sites.Site k r.shape r.log s.words m l.node l.level l.key own.next nodes
  site = stores.site k laws tries s r id v at_me own owns l m word nodes ready call on is_entry

  changes : ChangesKey k r.log log m l.key value
  changes = stores.changes k laws tries s r id v at_me own owns l m word nodes ready call on is_entry

  unit_is : (i : ℕ) → i < 2 + 18 * plan.nodes → slice_index words (own.next + i) ≡ unit_word k.seed l.key new (suc l.level) l.node held_place own.next plan i
  unit_is i below = let few = ready.few in stores.unit_now k laws tries s r id v at_me own owns l m word nodes ready call on is_entry x i (omega arith) ∙ drafted i below

  -- word j of number n of the nodes
  node_word : (n j : ℕ) → n < plan.nodes → j < 18 → slice_index words (link n + j) ≡ link_word k.seed l.key new (suc l.level) l.node held_place own.next plan n j
  node_word n j below inside =
      let at : link n + j ≡ own.next + suc (suc (18 * n + j)) = omega arith in
      let div : (18 * n + j) / 18 ≡ n = omega arith in
      let rem : (18 * n + j) % 18 ≡ j = omega arith in
      ap (slice_index words) at ∙ unit_is (suc (suc (18 * n + j))) (omega arith) ∙ (λ i. link_word k.seed l.key new (suc l.level) l.node held_place own.next plan (div i) (rem i))

  slot_is : (n slot : ℕ) → n < plan.nodes → slot < 16 → slice_index words (slot_word (link n) slot) ≡ link_slots k.seed l.key new (suc l.level) l.node held_place own.next plan n slot
  slot_is n slot below inside = let at : slot_word (link n) slot ≡ link n + suc (suc slot) = omega arith in ap (slice_index words) at ∙ node_word n (suc (suc slot)) below (omega arith)

  some_unit : 0 < own.next
  some_unit = let lies = site.lies in omega arith

  link_new : (n : ℕ) (slots : ℕ → ℕ) → n < plan.nodes → ((slot : ℕ) → link_slots k.seed l.key new (suc l.level) l.node held_place own.next plan n slot ≡ slots slot) → IsNewNode words (link n) (place_before l.node link n) slots
  link_new n slots below same = let some = some_unit in let at : link n + 0 ≡ link n = omega arith in record {
    placed = omega arith;
    free = ap (slice_index words) (sym at) ∙ node_word n 0 below (omega arith);
    parent = node_word n 1 below (omega arith);
    holds = λ slot inside. slot_is n slot below inside ∙ same slot;
  }

  chain : IsChainAt words k.seed l.key (last_slots plan held_place own.next) plan.nodes (suc l.level) l.node link
  chain = record {
    some = planned.some;
    links = λ n more. link_new n (one_slot (nibble l.key k.seed (suc l.level + n)) (word_of_slot (Node (link (suc n))))) (omega arith)
        (λ slot. ap (λ b. cond b (last_slots plan held_place own.next slot) (one_slot (nibble l.key k.seed (suc l.level + n)) (word_of_slot (Node (link (suc n)))) slot)) (test_off (suc n) plan.nodes (λ e. omega arith)));
    last = λ n end. link_new n (last_slots plan held_place own.next) (omega arith)
        (λ slot. ap (λ b. cond b (last_slots plan held_place own.next slot) (one_slot (nibble l.key k.seed (suc l.level + n)) (word_of_slot (Node (link (suc n)))) slot)) (eq-eqb (suc n) plan.nodes end));
  }

  -- the entry that stood there
  held_entry : r.shape.kind_of held_place ≡ 2
  held_entry = (stores.was k laws tries s r id v at_me own owns l m word nodes ready call on is_entry l.key locks.key refl).entry held_place shown

  held_word : slice_index words held_place ≡ held_key
  held_word = publishing.old_key k r.shape r.log log s.words m l.node l.level l.key x own.next nodes value laws tries site changes held_place held_entry ∙ held_is

  key_word : slice_index words own.next ≡ l.key
  key_word = let at : own.next + 0 ≡ own.next = omega arith in ap (slice_index words) (sym at) ∙ unit_is 0 (omega arith)

  value_word : slice_index words (own.next + 1) ≡ new
  value_word = unit_is 1 (omega arith)

  same_entry : (other : ℕ) → entry_value words held_place other ≡ entry_value s.words held_place other
  same_entry other = λ i. cond (publishing.old_key k r.shape r.log log s.words m l.node l.level l.key x own.next nodes value laws tries site changes held_place held_entry i == other)
      (Some (publishing.old_value k r.shape r.log log s.words m l.node l.level l.key x own.next nodes value laws tries site changes held_place held_entry i)) None

  -- what the keys of the slot have after the call
  has_now : (other : ℕ) → other < 2 ^ 32 → route k.seed (suc l.level) other ≡ route k.seed (suc l.level) l.key → value_at (contents_after (start_of k) log) m other ≡ cond (other == l.key) (Some new) (entry_value words held_place other)
  has_now other is_key along = elim (cases_eq other l.key) [
    | inl is ↦ ap (value_at (contents_after (start_of k) log) m) is ∙ changes.here ∙ has ∙ sym (ap (λ b. cond b (Some new) (entry_value words held_place other)) (eq-eqb other l.key is))
    | inr ne ↦
        changes.others m other (inr ne) ∙ sym (stores.was_held k laws tries s r id v at_me own owns l m word nodes ready call on is_entry other)
        ∙ (subst (Shows s.words k.seed (IsBelow k r.shape r.log s.words l.node l.level other) l.level other (held_at k r.log (time r.shape r.log l.node) (r.shape.map_of l.node) other)) shown
        (stores.was k laws tries s r id v at_me own owns l m word nodes ready call on is_entry other is_key along).shows).1
        ∙ sym (same_entry other) ∙ sym (ap (λ b. cond b (Some new) (entry_value words held_place other)) (test_off other l.key ne))
  ]

  -- number n of the chain's nodes
  module _ (n : ℕ) (below : n < nodes) where
    inside : n < plan.nodes
    inside = omega arith

    abbrev depth : ℕ
    depth = suc l.level + n

    cut_here : shape.cut_of (link n) ≡ None
    cut_here = units.link_cut r.shape tries k.seed m l.level l.key own.next nodes n below

    map_here : shape.map_of (link n) ≡ m
    map_here = units.link_map r.shape tries k.seed m l.level l.key own.next nodes n below

    -- the nodes below it, by level
    abbrev is_below : ℕ → ℕ → Bool
    is_below level q = nat_lt (level - suc l.level) nodes && (q == link (level - suc l.level))

    next_below : (i : ℕ) → suc i < plan.nodes → IsTrue (is_below (suc (suc l.level + i)) (link (suc i)))
    next_below i more =
        let at : suc (suc l.level + i) - suc l.level ≡ suc i = omega arith in
        units.and_true (nat_lt (suc (suc l.level + i) - suc l.level) nodes) (link (suc i) == link (suc (suc l.level + i) - suc l.level)) (lt-ltb (suc (suc l.level + i) - suc l.level) nodes (omega arith)) (eq-eqb (link (suc i)) (link (suc (suc l.level + i) - suc l.level)) (ap link (sym at)))

    module _ (other : ℕ) (is_key : other < 2 ^ 32) (along : route k.seed (suc l.level + n) other ≡ route k.seed (suc l.level + n) l.key) where
      abbrev here : ℕ
      here = slice_index words (slot_word (link n) (nibble other k.seed (suc l.level + n)))

      small : nibble other k.seed (suc l.level + n) < 16
      small = nibble_below other k.seed (suc l.level + n)

      along_slot : route k.seed (suc l.level) other ≡ route k.seed (suc l.level) l.key
      along_slot = tries.above k.seed (suc l.level) (suc l.level + n) other l.key (omega arith) along

      held_here : held_at k log (time shape log (link n)) (shape.map_of (link n)) other ≡ cond (other == l.key) (Some new) (entry_value words held_place other)
      held_here = stores.held_now k laws tries s r id v at_me own owns l m word nodes ready call on is_entry x (link n) other cut_here map_here ∙ has_now other is_key along_slot

      -- what the slot has: the next node, for keys that go on along the chain; nothing; or an entry of the last node
      abbrev IsNext : Type 0
      IsNext = (suc n < nodes) × (nibble other k.seed (suc l.level + n) ≡ nibble l.key k.seed (suc l.level + n)) × (slot_in here ≡ Node (link (suc n)))

      abbrev IsNothing : Type 0
      IsNothing = (slot_in here ≡ Empty) × (suc n < nodes → nibble other k.seed (suc l.level + n) ≢ nibble l.key k.seed (suc l.level + n))

      abbrev IsOneEntry : Type 0
      IsOneEntry = (q : ℕ) × (slot_in here ≡ Entry q) × (shape.kind_of q ≡ 2)

      word_here : here ≡ link_slots k.seed l.key new (suc l.level) l.node held_place own.next plan n (nibble other k.seed (suc l.level + n))
      word_here = slot_is n (nibble other k.seed (suc l.level + n)) inside small

      abbrev slot : ℕ
      slot = nibble other k.seed (suc l.level + n)

      kinds : IsNext ⊎ (IsNothing ⊎ IsOneEntry)
      kinds = elim (cases_eq (suc n) plan.nodes) [
        | inl last ↦
            let is_last : here ≡ last_slots plan held_place own.next slot = word_here ∙ ap (λ b. cond b (last_slots plan held_place own.next slot) (one_slot (nibble l.key k.seed (suc l.level + n)) (word_of_slot (Node (link (suc n)))) slot)) (eq-eqb (suc n) plan.nodes last) in
            let rest = one_slot plan.key_slot (word_of_slot (Entry own.next)) slot in
            elim (cases_eq slot plan.held_slot) [
              | inl first ↦ inr (inr (
                held_place,
                ap slot_in (is_last ∙ ap (λ b. cond b (word_of_slot (Entry held_place)) rest) (eq-eqb slot plan.held_slot first)) ∙ tries.entry held_place,
                publishing.old_leaf k r.shape r.log log s.words m l.node l.level l.key x own.next nodes value laws tries site changes held_place held_entry,
              ))
              | inr off ↦
                  let is_rest : here ≡ rest = is_last ∙ ap (λ b. cond b (word_of_slot (Entry held_place)) rest) (test_off slot plan.held_slot off) in
                  elim (cases_eq slot plan.key_slot) [
                    | inl second ↦ inr (inr (
                      own.next,
                      ap slot_in (is_rest ∙ ap (λ b. cond b (word_of_slot (Entry own.next)) 0) (eq-eqb slot plan.key_slot second)) ∙ tries.entry own.next,
                      units.entry_kind r.shape tries k.seed m l.level l.key own.next nodes,
                    ))
                    | inr neither ↦ inr (inl (ap slot_in (is_rest ∙ ap (λ b. cond b (word_of_slot (Entry own.next)) 0) (test_off slot plan.key_slot neither)), λ more. absurd (omega arith)))
                  ]
            ]
        | inr more ↦
            let is_link : here ≡ one_slot (nibble l.key k.seed (suc l.level + n)) (word_of_slot (Node (link (suc n)))) slot =
            word_here ∙ ap (λ b. cond b (last_slots plan held_place own.next slot) (one_slot (nibble l.key k.seed (suc l.level + n)) (word_of_slot (Node (link (suc n)))) slot)) (test_off (suc n) plan.nodes more) in
            elim (cases_eq slot (nibble l.key k.seed (suc l.level + n))) [
              | inl along_it ↦ inl (omega (arith, inside, more, count), along_it, ap slot_in (is_link ∙ ap (λ b. cond b (word_of_slot (Node (link (suc n)))) 0) (eq-eqb slot (nibble l.key k.seed (suc l.level + n)) along_it)) ∙ tries.node (link (suc n)) (omega arith))
              | inr off ↦ inr (inl (ap slot_in (is_link ∙ ap (λ b. cond b (word_of_slot (Node (link (suc n)))) 0) (test_off slot (nibble l.key k.seed (suc l.level + n)) off)), λ more. off))
            ]
      ]

      law : Shows words k.seed (λ q. IsTrue (is_below (suc (suc l.level + n)) q)) (suc l.level + n) other (cond (other == l.key) (Some new) (entry_value words held_place other)) (slot_in here)
      law = tries.chain words k.seed (suc l.level) l.node held_key l.key new held_place own.next plan link is_below planned chain held_word key_word value_word next_below n other inside along

      abbrev Told : Slot → Type 0
      Told found = Shows words k.seed (IsBelow k shape log words (link n) (suc l.level + n) other) (suc l.level + n) other (held_at k log (time shape log (link n)) (shape.map_of (link n)) other) found

      abbrev Law : Slot → Type 0
      Law found = Shows words k.seed (λ q. IsTrue (is_below (suc (suc l.level + n)) q)) (suc l.level + n) other (cond (other == l.key) (Some new) (entry_value words held_place other)) found

      shows_here : Told (slot_in here)
      shows_here = elim kinds [
        | inl next ↦
            let more = next.0 in
            let deeper : suc l.level + suc n ≡ suc (suc l.level + n) = omega arith in
            let path : route k.seed (suc l.level + suc n) l.key ≡ route k.seed (suc (suc l.level + n)) other = ap (λ i. route k.seed i l.key) deeper ∙ (λ i. sym along i ++ sym next.1 i ∷ []) in
            let from_law = subst Law next.2 law in
            let told : Told (Node (link (suc n))) = (
              from_law.0,
              (
                units.link_kind r.shape tries k.seed m l.level l.key own.next nodes (suc n) more,
                units.link_map r.shape tries k.seed m l.level l.key own.next nodes (suc n) more ∙ sym map_here,
                units.link_path r.shape tries k.seed m l.level l.key own.next nodes (suc n) more ∙ path,
                units.link_cut r.shape tries k.seed m l.level l.key own.next nodes (suc n) more ∙ sym cut_here,
              ),
            ) in
            subst Told (sym next.2) told
        | inr others ↦ elim others [
          | inl nothing ↦ let told : Told Empty = held_here ∙ subst Law nothing.0 law in subst Told (sym nothing.0) told
          | inr one ↦ let from_law = subst Law one.1 law in let told : Told (Entry one.0) = (from_law.0, held_here ∙ from_law.1) in subst Told (sym one.1) told
        ]
      ]

      entry_here : (q : ℕ) → slot_in here ≡ Entry q → shape.kind_of q ≡ 2
      entry_here q is = elim kinds [
        | inl next ↦ absurd (let e : Node (link (suc n)) ≡ Entry q = sym next.2 ∙ is in (cc))
        | inr others ↦ elim others [
          | inl nothing ↦ absurd (let e : Empty ≡ Entry q = sym nothing.0 ∙ is in (cc))
          | inr one ↦ subst (λ z. shape.kind_of z ≡ 2) (entry_place one.0 q (sym one.1 ∙ is)) one.2
        ]
      ]

      childless_here : ((q : ℕ) → slot_in here ≢ Node q) → shape.node_at (shape.map_of (link n)) (route k.seed (suc (suc l.level + n)) other) ≡ None
      childless_here leaf = ap (λ i. shape.node_at i (route k.seed (suc (suc l.level + n)) other)) map_here ∙ elim (units.reached_is r.shape tries k.seed m l.level l.key own.next nodes m (route k.seed (suc (suc l.level + n)) other)) [
        | inl same ↦ same ∙ elim (none_or_some (r.shape.node_at m (route k.seed (suc (suc l.level + n)) other))) [
          | inl none_there ↦ none_there
          | inr one ↦ absurd (sites.none_below k r.shape r.log s.words m l.node l.level l.key own.next nodes tries site (suc (suc l.level + n)) other one.0 is_key along_slot (omega arith) one.1)
        ]
        | inr chained ↦
            let depth_is = sites.same_level k r.shape r.log s.words m l.node l.level l.key own.next nodes tries site (suc (suc l.level + n)) (suc l.level + chained.1) other l.key chained.3 in
            let more = chained.2 in
            let both : route k.seed (suc (suc l.level + n)) other ≡ route k.seed (suc (suc l.level + n)) l.key = chained.3 ∙ ap (λ i. route k.seed i l.key) (sym depth_is) in
            let same_nibble = tries.same_slot k.seed (suc l.level + n) (suc (suc l.level + n)) other l.key (omega arith) both in
            elim kinds [
              | inl next ↦ absurd (leaf (link (suc n)) next.2)
              | inr others ↦ elim others [
                | inl nothing ↦ absurd (nothing.1 (omega arith) same_nibble)
                | inr one ↦ absurd (last_one (omega arith) one)
              ]
            ]
      ]
        where
          -- a node that isn't the last has no entry
          last_one : suc n < nodes → IsOneEntry → ⊥
          last_one more one =
              let off = test_off (suc n) plan.nodes (λ e. omega arith) in
              let is_link : here ≡ one_slot (nibble l.key k.seed (suc l.level + n)) (word_of_slot (Node (link (suc n)))) slot =
              word_here ∙ ap (λ b. cond b (last_slots plan held_place own.next slot) (one_slot (nibble l.key k.seed (suc l.level + n)) (word_of_slot (Node (link (suc n)))) slot)) off in
              elim (cases_eq slot (nibble l.key k.seed (suc l.level + n))) [
                | inl along_it ↦ let e : Node (link (suc n)) ≡ Entry one.0 = sym (ap slot_in (is_link ∙ ap (λ b. cond b (word_of_slot (Node (link (suc n)))) 0) (eq-eqb slot (nibble l.key k.seed (suc l.level + n)) along_it)) ∙ tries.node (link (suc n)) (omega arith)) ∙ one.1 in absurd (cc)
                | inr apart ↦ let e : Empty ≡ Entry one.0 = sym (ap slot_in (is_link ∙ ap (λ b. cond b (word_of_slot (Node (link (suc n)))) 0) (test_off slot (nibble l.key k.seed (suc l.level + n)) apart))) ∙ one.1 in absurd (cc)
              ]

      link_shows : ShowsAt k shape log words (link n) (suc l.level + n) other here
      link_shows = record { shows = shows_here; entry = entry_here; childless = λ leaf live. childless_here leaf }

  -- the first of them stands in the slot
  first_shows : (other : ℕ) → other < 2 ^ 32 → route k.seed (suc l.level) other ≡ route k.seed (suc l.level) l.key → ShowsAt k shape log words l.node l.level other x
  first_shows other is_key along =
      let some = planned.some in
      let placed : 0 < link 0 = omega arith in
      let slot : slot_in x ≡ Node (link 0) = ap slot_in x_is ∙ tries.node (link 0) placed in
      let within = planned.within in
      let first : 0 < nodes = omega arith in
      let at : suc l.level + 0 ≡ suc l.level = omega arith in
      let told : Shows words k.seed (IsBelow k shape log words l.node l.level other) l.level other (held_at k log (time shape log l.node) (shape.map_of l.node) other) (Node (link 0)) = (
        omega arith,
        (
          units.link_kind r.shape tries k.seed m l.level l.key own.next nodes 0 first,
          units.link_map r.shape tries k.seed m l.level l.key own.next nodes 0 first ∙ sym (stores.map_now k laws tries s r id v at_me own owns l m word nodes ready call on is_entry x),
          units.link_path r.shape tries k.seed m l.level l.key own.next nodes 0 first ∙ ap (λ i. route k.seed i l.key) at ∙ sym along,
          units.link_cut r.shape tries k.seed m l.level l.key own.next nodes 0 first ∙ sym (stores.cut_now k laws tries s r id v at_me own owns l m word nodes ready call on is_entry x),
        ),
      ) in
      record {
        shows = subst (Shows words k.seed (IsBelow k shape log words l.node l.level other) l.level other (held_at k log (time shape log l.node) (shape.map_of l.node) other)) (sym slot) told;
        entry = λ q is. absurd (let e : Node (link 0) ≡ Entry q = sym slot ∙ is in (cc));
        childless = λ leaf live. absurd (leaf (link 0) slot);
      }

  is_unit : publishing.IsUnit k s.words l.node own.next nodes
  is_unit = record {
    is_key = let at : own.next + 0 ≡ own.next = omega arith in subst (λ i. i < 2 ^ 32) (sym (ap (slice_index s.words) (sym at) ∙ before 0 (omega arith))) locks.key;
    free = λ n below. ap (slice_index s.words) (omega arith) ∙ before_link n 0 (omega arith) (omega arith);
    parents = λ n below. before_link n 1 (omega arith) (omega arith);
  }
    where
      before : (i : ℕ) → i < 2 + 18 * plan.nodes → slice_index s.words (own.next + i) ≡ unit_word k.seed l.key new (suc l.level) l.node held_place own.next plan i
      before i below = let few = ready.few in published.draft_word k laws tries s r id v at_me own owns l m word nodes ready i (omega arith) ∙ drafted i below

      before_link : (n j : ℕ) → n < plan.nodes → j < 18 → slice_index s.words (link n + j) ≡ link_word k.seed l.key new (suc l.level) l.node held_place own.next plan n j
      before_link n j below fits =
          let at : link n + j ≡ own.next + suc (suc (18 * n + j)) = omega arith in
          let div : (18 * n + j) / 18 ≡ n = omega arith in
          let rem : (18 * n + j) % 18 ≡ j = omega arith in
          ap (slice_index s.words) at ∙ before (suc (suc (18 * n + j))) (omega arith) ∙ (λ i. link_word k.seed l.key new (suc l.level) l.node held_place own.next plan (div i) (rem i))

  pub expands : Fine k (with_unit r.shape k.seed m l.level l.key own.next nodes) log (set s.words (slot_word l.node (nibble l.key k.seed l.level)) x)
  expands = stores.fine_now k laws tries s r id v at_me own owns l m word nodes ready call on is_entry x is_unit first_shows (λ n other below is_key along. link_shows n below other is_key along)
