-- One write to a slot of a reachable node publishes what stands in a unit of words: the words mean the same map, but for one key.
use Rattle.std.proofs.Common.{◌≡◌, ◌≢◌, inl, inr, ℕ, nat_le, leb-true, leb-false, zero, suc, ◌+◌, ◌-◌, ◌*◌, ◌^◌, ◌<◌, ◌≤◌, ◌==◌, false, cond, List, [], ◌∷◌, ◌++◌, length, set, Option, Some, None, slice_index, refl, sym, ap, ◌∙◌, subst, arith, length-set}
use Rattle.std.proofs.lemmas.Bool.{cases_eq}
use Rattle.std.proofs.lemmas.Option.{none-some, same_Some, slice_get_within}
use Rattle.sync_types.specs.declared.atomic_object.Number.TheVariants.{Bool as Truth}
use Rattle.sync_model.specs.declared.item.SharedEntry.{SharedEntry}
use Rattle.sync_model.specs.SharedHistory.{value_at}
use Rattle.std.specs.Prelude.{slice_index_or}
use Rattle.table_rule.specs.declared.begin.Begin.{Begin}
use Rattle.trie_nodes.specs.declared.slot.Slot.{Slot}
use Rattle.trie_nodes.specs.declared.slot.Slot.TheVariants.{Empty, Node, Entry}
use Rattle.trie_nodes.specs.Layout.{atomic_word, parent_word, slot_word, unit_words, dead_word}
use Rattle.trie_nodes.specs.Nodes.{Shows, entry_value}
use Rattle.trie_nodes.specs.Paths.{nibble, route}
use Rattle.trie_nodes.specs.Plans.{place_before}
use Rattle.trie_nodes.specs.Slots.{slot_in}
use Rattle.table_rule.specs.Gates.{Gated}
use Rattle.table_words.specs.Laws.{HistoryLaws}
use Rattle.table_rule.specs.Layout.{root_word, gate_word, heads}
use Rattle.table_rule.specs.Shape.{Shape, start_of, held_at, till, time, IsNumber, IsNode, IsEntry, IsBelow, ShowsAt, Fine}
use Rattle.table_words.specs.TrieLaws.{TrieLaws}
use Rattle.table_rule.specs.Units.{link_at, with_unit}
use Rattle.table_words.proofs.Frames.{Later, Apart}
use Rattle.table_words.proofs.KeyCalls.{ChangesKey}
use Rattle.table_words.proofs.Ledgers.{longer}
use Rattle.table_words.proofs.NodeWords as node_words
use Rattle.table_words.proofs.Outside.{nibble_below}
use Rattle.table_words.proofs.Sites.{Site, is_there, none_below, none_at, above_at, same_level, node_outside, part_outside, key_outside}
use Rattle.table_words.proofs.Units as units

-- the new words of a unit, before they are shown
pub record IsUnit (k : Begin) (ws : List ℕ) (p unit nodes : ℕ) : Type 0 where
  pub is_key : slice_index ws unit < 2 ^ 32
  pub free : (n : ℕ) → n < nodes → slice_index ws (link_at unit n) ≡ 0
  pub parents : (n : ℕ) → n < nodes → slice_index ws (parent_word (link_at unit n)) ≡ place_before p (link_at unit) n

module _ (k : Begin) (sh : Shape) (log log' : List SharedEntry) (ws : List ℕ) (m p d key x unit nodes : ℕ) (value : Option ℕ) (laws : HistoryLaws) (tries : TrieLaws) (site : Site k sh log ws m p d key unit nodes) (changes : ChangesKey k log log' m key value) where
  abbrev pub shape : Shape
  shape = with_unit sh k.seed m d key unit nodes

  abbrev pub here_at : ℕ
  here_at = slot_word p (nibble key k.seed d)

  abbrev pub words : List ℕ
  words = set ws (slot_word p (nibble key k.seed d)) x

  fine : Fine k sh log ws
  fine = site.fine

  slot_small : nibble key k.seed d < 16
  slot_small = nibble_below key k.seed d

  from : p ≤ slot_word p (nibble key k.seed d)
  from = omega arith

  to : slot_word p (nibble key k.seed d) < p + 18
  to = let small = slot_small in omega arith

  -- the words
  pub same : (i : ℕ) → i ≢ slot_word p (nibble key k.seed d) → slice_index (set ws (slot_word p (nibble key k.seed d)) x) i ≡ slice_index ws i
  same = node_words.same k sh log ws p (slot_word p (nibble key k.seed d)) x fine site.node from to

  pub here : slice_index (set ws (slot_word p (nibble key k.seed d)) x) (slot_word p (nibble key k.seed d)) ≡ x
  here = node_words.here k sh log ws p (slot_word p (nibble key k.seed d)) x fine site.node from to

  pub other_node : (q i : ℕ) → sh.kind_of q ≡ 1 → q ≢ p → q ≤ i → i < q + 18 → slice_index (set ws (slot_word p (nibble key k.seed d)) x) i ≡ slice_index ws i
  other_node = node_words.other_node k sh log ws p (slot_word p (nibble key k.seed d)) x fine site.node from to

  -- the lock and the parent of an old node
  pub top_word : (q i : ℕ) → sh.kind_of q ≡ 1 → q ≤ i → i < q + 2 → slice_index (set ws (slot_word p (nibble key k.seed d)) x) i ≡ slice_index ws i
  top_word q i is first last = let at : q + (i - q) ≡ i = omega arith in
      subst (λ n. slice_index words n ≡ slice_index ws n) at (node_words.word_off k sh log ws p (slot_word p (nibble key k.seed d)) x fine site.node from to q (i - q) is (omega arith) (λ e. absurd (omega arith)))

  pub old_key : (q : ℕ) → sh.kind_of q ≡ 2 → slice_index (set ws (slot_word p (nibble key k.seed d)) x) q ≡ slice_index ws q
  old_key = node_words.at_key k sh log ws p (slot_word p (nibble key k.seed d)) x fine site.node from to

  pub old_value : (q : ℕ) → sh.kind_of q ≡ 2 → slice_index (set ws (slot_word p (nibble key k.seed d)) x) (q + 1) ≡ slice_index ws (q + 1)
  old_value = node_words.at_value k sh log ws p (slot_word p (nibble key k.seed d)) x fine site.node from to

  pub head : (i : ℕ) → i < heads k → slice_index (set ws (slot_word p (nibble key k.seed d)) x) i ≡ slice_index ws i
  head = node_words.head k sh log ws p (slot_word p (nibble key k.seed d)) x fine site.node from to

  pub free_word : (i : ℕ) → sh.part_of i ≡ 0 → slice_index (set ws (slot_word p (nibble key k.seed d)) x) i ≡ slice_index ws i
  free_word = node_words.unused k sh log ws p (slot_word p (nibble key k.seed d)) x fine site.node from to

  pub unit_word : (i : ℕ) → i < unit_words → slice_index (set ws (slot_word p (nibble key k.seed d)) x) (unit + i) ≡ slice_index ws (unit + i)
  unit_word i inside = free_word (unit + i) (site.unused i inside)

  pub link_word : (n j : ℕ) → n < nodes → j < 18 → slice_index (set ws (slot_word p (nibble key k.seed d)) x) (link_at unit n + j) ≡ slice_index ws (link_at unit n + j)
  link_word n j below inside =
      let few = site.few in
      let at : link_at unit n + j ≡ unit + (2 + 18 * n + j) = omega arith in
      subst (λ i. slice_index words i ≡ slice_index ws i) (sym at) (unit_word (2 + 18 * n + j) (omega arith))

  -- old nodes and entries
  out : (q : ℕ) → sh.kind_of q ≡ 1 → unit ≤ q → unit + 2 + 18 * nodes ≤ q
  out q is = node_outside k sh log ws m p d key unit nodes tries site q q is (omega arith) (omega arith)

  pub old_node : (q : ℕ) → sh.kind_of q ≡ 1 → (with_unit sh k.seed m d key unit nodes).kind_of q ≡ 1
  old_node q is = units.kind_outside sh tries k.seed m d key unit nodes q (out q is) ∙ is

  pub old_map : (q : ℕ) → sh.kind_of q ≡ 1 → (with_unit sh k.seed m d key unit nodes).map_of q ≡ sh.map_of q
  old_map q is = units.map_outside sh tries k.seed m d key unit nodes q (out q is)

  pub old_path : (q : ℕ) → sh.kind_of q ≡ 1 → (with_unit sh k.seed m d key unit nodes).path_of q ≡ sh.path_of q
  old_path q is = units.path_outside sh tries k.seed m d key unit nodes q (out q is)

  pub old_cut : (q : ℕ) → sh.kind_of q ≡ 1 → (with_unit sh k.seed m d key unit nodes).cut_of q ≡ sh.cut_of q
  old_cut q is = units.cut_outside sh tries k.seed m d key unit nodes q (out q is)

  pub old_holder : (q : ℕ) → sh.kind_of q ≡ 1 → (with_unit sh k.seed m d key unit nodes).held_by q ≡ sh.held_by q
  old_holder q is = units.holder_outside sh tries k.seed m d key unit nodes q (out q is)

  pub old_leaf : (q : ℕ) → sh.kind_of q ≡ 2 → (with_unit sh k.seed m d key unit nodes).kind_of q ≡ 2
  old_leaf q is = units.kind_outside sh tries k.seed m d key unit nodes q (key_outside k sh log ws m p d key unit nodes tries site q is) ∙ is

  old_part : (q i : ℕ) → 0 < q → sh.part_of i ≡ q → (with_unit sh k.seed m d key unit nodes).part_of i ≡ q
  old_part q i some part = units.part_outside sh tries k.seed m d key unit nodes i (part_outside k sh log ws m p d key unit nodes tries site q i some part) ∙ part

  -- what was reachable is so, and nothing else is on a path that isn't the unit's
  still_there : (n : ℕ) (path : List ℕ) (q : ℕ) → sh.node_at n path ≡ Some q → (with_unit sh k.seed m d key unit nodes).node_at n path ≡ Some q
  still_there n path q at = elim (units.reached_is sh tries k.seed m d key unit nodes n path) [
    | inl same_path ↦ same_path ∙ at
    | inr link ↦ absurd (none_at k sh log ws m p d key unit nodes tries site link.1 q (ap (sh.node_at m) (sym link.3) ∙ ap (λ i. sh.node_at i path) (sym link.0) ∙ at))
  ]

  longer_log : length log ≤ length log'
  longer_log = longer log log' changes.history

  -- what the keys of an old node have
  held_same : (q other : ℕ) → sh.kind_of q ≡ 1 → (sh.cut_of q ≡ None → sh.map_of q ≡ m → other ≡ key → ⊥) → held_at k log' (time shape log' q) (shape.map_of q) other ≡ held_at k log (time sh log q) (sh.map_of q) other
  held_same q other is off = ap (λ o. held_at k log' (till o (length log')) (shape.map_of q) other) (old_cut q is) ∙ ap (λ n. held_at k log' (till (sh.cut_of q) (length log')) n other) (old_map q is) ∙ by_cut (sh.cut_of q) refl
    where
      by_cut : (o : Option ℕ) → sh.cut_of q ≡ o → held_at k log' (till o (length log')) (sh.map_of q) other ≡ held_at k log (till o (length log)) (sh.map_of q) other
      by_cut None e =
          ap (λ contents. value_at contents (sh.map_of q) other) (laws.contents_all (start_of k) log' (length log') (omega arith))
          ∙ changes.others (sh.map_of q) other (elim (cases_eq (sh.map_of q) m) [
            | inr ne ↦ inl ne
            | inl there ↦ elim (cases_eq other key) [ inr ne ↦ inr ne | inl is_it ↦ absurd (off e there is_it) ]
          ])
          ∙ sym (ap (λ contents. value_at contents (sh.map_of q) other) (laws.contents_all (start_of k) log (length log) (omega arith)))
      by_cut (Some t) e =
          ap (λ h. held_at k h t (sh.map_of q) other) changes.history.1 ∙ ap (λ contents. value_at contents (sh.map_of q) other) (laws.contents_same (start_of k) log changes.history.0 t (fine.cut q t is e))

  value_same : (q other : ℕ) → sh.kind_of q ≡ 2 → entry_value words q other ≡ entry_value ws q other
  value_same q other is = λ i. cond (old_key q is i == other) (Some (old_value q is i)) None

  -- the slot for the key, of a reachable node of the map that has no node there, is the one that is written
  only_slot : (q e : ℕ) → sh.kind_of q ≡ 1 → e < 8 → sh.cut_of q ≡ None → sh.map_of q ≡ m → sh.path_of q ≡ route k.seed e key → ((below : ℕ) → slot_in (slice_index ws (slot_word q (nibble key k.seed e))) ≢ Node below)
      → slot_word q (nibble key k.seed e) ≡ slot_word p (nibble key k.seed d)
  only_slot q e is level live there path leaf =
      let at : sh.node_at m (route k.seed e key) ≡ Some q = ap (sh.node_at m) (sym path) ∙ ap (λ n. sh.node_at n (sh.path_of q)) (sym there) ∙ fine.there q is live in
      let none_under : sh.node_at m (route k.seed (suc e) key) ≡ None = ap (λ n. sh.node_at n (route k.seed (suc e) key)) (sym there) ∙ (fine.slots q e key is level site.is_key path).childless leaf live in
      elim (cases_eq e d) [
        | inl same_depth ↦
            let q_is : q ≡ p = same_Some q p (sym at ∙ ap (λ n. sh.node_at m (route k.seed n key)) same_depth ∙ is_there k sh log ws m p d key unit nodes tries site) in
            λ i. slot_word (q_is i) (nibble key k.seed (same_depth i))
        | inr other_depth ↦ elim (cases_eq (e - d) 0) [
          | inl higher ↦ absurd (let top = above_at k sh log ws m p d key unit nodes tries site (suc e) d key p (omega arith) site.is_key (is_there k sh log ws m p d key unit nodes tries site) in none-some top.0 (sym none_under ∙ top.1))
          | inr deeper ↦ absurd (none_below k sh log ws m p d key unit nodes tries site e key q site.is_key refl (omega arith) at)
        ]
      ]

  -- a slot that isn't written
  shows_old : (q e other w : ℕ) → sh.kind_of q ≡ 1 → e < 8 → other < 2 ^ 32 → sh.path_of q ≡ route k.seed e other → slot_word q (nibble other k.seed e) ≢ slot_word p (nibble key k.seed d) → slice_index ws (slot_word q (nibble other k.seed e)) ≡ w
      → ShowsAt k sh log ws q e other w → ShowsAt k shape log' words q e other w
  shows_old q e other w is level is_key path ne is_word at = record { shows = by_slot (slot_in w) refl at.entry at.shows; entry = λ place s. old_leaf place (at.entry place s); childless = childless }
    where
      unmoved : ((below : ℕ) → slot_in w ≢ Node below) → sh.cut_of q ≡ None → sh.map_of q ≡ m → other ≡ key → ⊥
      unmoved leaf live there is_it =
          let path_here : sh.path_of q ≡ route k.seed e key = path ∙ ap (route k.seed e) is_it in
          let word_here : slice_index ws (slot_word q (nibble key k.seed e)) ≡ w = ap (λ o. slice_index ws (slot_word q (nibble o k.seed e))) (sym is_it) ∙ is_word in
          ne (ap (λ o. slot_word q (nibble o k.seed e)) is_it ∙ only_slot q e is level live there path_here (λ below s. leaf below (ap slot_in (sym word_here) ∙ s)))

      by_slot : (slot : Slot) → slot_in w ≡ slot → ((place : ℕ) → slot ≡ Entry place → sh.kind_of place ≡ 2)
          → Shows ws k.seed (IsBelow k sh log ws q e other) e other (held_at k log (time sh log q) (sh.map_of q) other) slot
          → Shows words k.seed (IsBelow k shape log' words q e other) e other (held_at k log' (time shape log' q) (shape.map_of q) other) slot
      by_slot Empty s entry shows = held_same q other is (unmoved (λ below n. absurd (let f : Empty ≡ Node below = sym s ∙ n in (cc)))) ∙ shows
      by_slot (Node below) s entry shows = let b = shows.1 in (shows.0, (old_node below b.0, old_map below b.0 ∙ b.1 ∙ sym (old_map q is), old_path below b.0 ∙ b.2, old_cut below b.0 ∙ b.3 ∙ sym (old_cut q is)))
      by_slot (Entry place) s entry shows =
          let is_entry = entry place refl in
          (ap (route k.seed (suc e)) (old_key place is_entry) ∙ shows.0, held_same q other is (unmoved (λ below n. absurd (let f : Entry place ≡ Node below = sym s ∙ n in (cc)))) ∙ shows.1 ∙ sym (value_same place other is_entry))

      childless : ((node : ℕ) → slot_in w ≢ Node node) → shape.cut_of q ≡ None → shape.node_at (shape.map_of q) (route k.seed (suc e) other) ≡ None
      childless leaf live =
          let was_live : sh.cut_of q ≡ None = sym (old_cut q is) ∙ live in
          let was = at.childless leaf was_live in
          ap (λ n. shape.node_at n (route k.seed (suc e) other)) (old_map q is) ∙ elim (units.reached_is sh tries k.seed m d key unit nodes (sh.map_of q) (route k.seed (suc e) other)) [
            | inl same_path ↦ same_path ∙ was
            | inr link ↦ absurd (
                let depth : suc e ≡ suc d + link.1 = same_level k sh log ws m p d key unit nodes tries site (suc e) (suc d + link.1) other key link.3 in
                let reached : sh.node_at m (route k.seed e other) ≡ Some q = ap (sh.node_at m) (sym path) ∙ ap (λ n. sh.node_at n (sh.path_of q)) (sym link.0) ∙ fine.there q is was_live in
                let along : route k.seed (suc d + link.1) other ≡ route k.seed (suc d + link.1) key = ap (λ n. route k.seed n other) (sym depth) ∙ link.3 in
                elim (cases_eq link.1 0) [
                  | inl first ↦
                      let e_is : e ≡ d = omega arith in
                      let both : route k.seed d other ≡ route k.seed d key = tries.above k.seed d (suc d + link.1) other key (omega arith) along in
                      let q_is : q ≡ p = same_Some q p (sym reached ∙ ap (λ n. sh.node_at m (route k.seed n other)) e_is ∙ ap (sh.node_at m) both ∙ is_there k sh log ws m p d key unit nodes tries site) in
                      let slot_is : nibble other k.seed e ≡ nibble key k.seed d = ap (nibble other k.seed) e_is ∙ tries.same_slot k.seed d (suc d + link.1) other key (omega arith) along in
                      ne (λ i. slot_word (q_is i) (slot_is i))
                  | inr later ↦ none_below k sh log ws m p d key unit nodes tries site e other q is_key (tries.above k.seed (suc d) (suc d + link.1) other key (omega arith) along) (omega arith) reached
                ])
          ]

  module _ (news : IsUnit k ws p unit nodes)
      (now : (other : ℕ) → other < 2 ^ 32 → route k.seed (suc d) other ≡ route k.seed (suc d) key → ShowsAt k (with_unit sh k.seed m d key unit nodes) log' (set ws (slot_word p (nibble key k.seed d)) x) p d other x)
      (links : (n other : ℕ) → n < nodes → other < 2 ^ 32 → route k.seed (suc d + n) other ≡ route k.seed (suc d + n) key
      → ShowsAt k (with_unit sh k.seed m d key unit nodes) log' (set ws (slot_word p (nibble key k.seed d)) x) (link_at unit n) (suc d + n) other (slice_index (set ws (slot_word p (nibble key k.seed d)) x) (slot_word (link_at unit n) (nibble other k.seed (suc d + n)))))
      (alive : slice_index ws p ≢ dead_word) where
    nodes_on : (q : ℕ) → shape.kind_of q ≡ 1 → IsNode k shape q
    nodes_on q is = elim (units.node_is sh tries k.seed m d key unit nodes q is) [
      | inl old ↦ let n = fine.nodes q old in let lies = n.lies in record {
        lies = n.lies;
        within = n.within;
        words = λ i inside. old_part q (q + i) (omega arith) (n.words i inside);
        map = subst (λ i. i < k.maps) (sym (old_map q old)) n.map;
        level = n.level;
        key = n.key;
        below = n.below;
        is_key = n.is_key;
        path = old_path q old ∙ n.path;
      }
      | inr link ↦
          let n = link.0 in let below = link.1 in let few = site.few in let lies = site.lies in let within = site.within in let map = (fine.nodes p site.node).map in
          subst (IsNode k shape) (sym link.2) record {
            lies = omega arith;
            within = omega arith;
            words = λ i inside. units.link_part sh tries k.seed m d key unit nodes n below i inside;
            map = subst (λ i. i < k.maps) (site.map ∙ sym (units.link_map sh tries k.seed m d key unit nodes n below)) map;
            level = suc d + n;
            key = key;
            below = omega arith;
            is_key = site.is_key;
            path = units.link_path sh tries k.seed m d key unit nodes n below;
          }
    ]

    leaves_on : (q : ℕ) → shape.kind_of q ≡ 2 → IsEntry k shape words q
    leaves_on q is = elim (units.leaf_is sh tries k.seed m d key unit nodes q is) [
      | inl old ↦ let l = fine.leaves q old in let lies = l.lies in record {
        lies = l.lies;
        within = l.within;
        key_part = old_part q q (omega arith) l.key_part;
        value_part = old_part q (q + 1) (omega arith) l.value_part;
        is_key = subst (λ n. n < 2 ^ 32) (sym (old_key q old)) l.is_key;
      }
      | inr mine_now ↦ let within = site.within in subst (IsEntry k shape words) (sym mine_now) record {
        lies = site.lies;
        within = omega arith;
        key_part = units.entry_part sh tries k.seed m d key unit nodes unit (omega arith) (omega arith);
        value_part = units.entry_part sh tries k.seed m d key unit nodes (unit + 1) (omega arith) (omega arith);
        is_key = let e : unit + 0 ≡ unit = omega arith in let at = unit_word 0 (omega arith) in subst (λ n. n < 2 ^ 32) (sym (subst (λ i. slice_index words i ≡ slice_index ws i) e at)) news.is_key;
      }
    ]

    live_on : (n : ℕ) (path : List ℕ) (q : ℕ) → shape.node_at n path ≡ Some q → (shape.kind_of q ≡ 1) × (shape.map_of q ≡ n) × (shape.path_of q ≡ path) × (shape.cut_of q ≡ None)
    live_on n path q at = elim (units.reached_is sh tries k.seed m d key unit nodes n path) [
      | inl same_path ↦ let l = fine.live n path q (sym same_path ∙ at) in (old_node q l.0, old_map q l.0 ∙ l.1, old_path q l.0 ∙ l.2, old_cut q l.0 ∙ l.3)
      | inr link ↦
          let i = link.1 in let below = link.2 in
          let q_is : link_at unit i ≡ q = same_Some (link_at unit i) q (sym (units.link_there sh tries k.seed m d key unit nodes i below) ∙ (λ j. shape.node_at (sym link.0 j) (sym link.3 j)) ∙ at) in
          subst (λ z. (shape.kind_of z ≡ 1) × (shape.map_of z ≡ n) × (shape.path_of z ≡ path) × (shape.cut_of z ≡ None)) q_is (
            units.link_kind sh tries k.seed m d key unit nodes i below,
            units.link_map sh tries k.seed m d key unit nodes i below ∙ sym link.0,
            units.link_path sh tries k.seed m d key unit nodes i below ∙ sym link.3,
            units.link_cut sh tries k.seed m d key unit nodes i below,
          )
    ]

    there_on : (q : ℕ) → shape.kind_of q ≡ 1 → shape.cut_of q ≡ None → shape.node_at (shape.map_of q) (shape.path_of q) ≡ Some q
    there_on q is live = elim (units.node_is sh tries k.seed m d key unit nodes q is) [
      | inl old ↦ (λ j. shape.node_at (old_map q old j) (old_path q old j)) ∙ still_there (sh.map_of q) (sh.path_of q) q (fine.there q old (sym (old_cut q old) ∙ live))
      | inr link ↦ subst (λ z. shape.node_at (shape.map_of z) (shape.path_of z) ≡ Some z) (sym link.2)
          ((λ j. shape.node_at (units.link_map sh tries k.seed m d key unit nodes link.0 link.1 j) (units.link_path sh tries k.seed m d key unit nodes link.0 link.1 j)) ∙ units.link_there sh tries k.seed m d key unit nodes link.0 link.1)
    ]

    top_on : (q : ℕ) → shape.kind_of q ≡ 1 → shape.path_of q ≡ [] → slice_index words (parent_word q) ≡ 0
    top_on q is root = elim (units.node_is sh tries k.seed m d key unit nodes q is) [
      | inl old ↦ top_word q (parent_word q) old (omega arith) (omega arith) ∙ fine.top q old (sym (old_path q old) ∙ root)
      | inr link ↦ absurd (
          let path : route k.seed (suc d + link.0) key ≡ [] = sym (units.link_path sh tries k.seed m d key unit nodes link.0 link.1) ∙ ap shape.path_of (sym link.2) ∙ root in
          let depth : suc d + link.0 ≡ 0 = sym (tries.long k.seed (suc d + link.0) key) ∙ ap length path in
          omega arith)
    ]

    parent_on : (q e other : ℕ) → shape.kind_of q ≡ 1 → shape.cut_of q ≡ None → other < 2 ^ 32 → shape.path_of q ≡ route k.seed (suc e) other → shape.node_at (shape.map_of q) (route k.seed e other) ≡ Some (slice_index words (parent_word q))
    parent_on q e other is live is_key path = elim (units.node_is sh tries k.seed m d key unit nodes q is) [
      | inl old ↦
          let was = fine.parent q e other old (sym (old_cut q old) ∙ live) is_key (sym (old_path q old) ∙ path) in
          ap (λ n. shape.node_at n (route k.seed e other)) (old_map q old) ∙ still_there (sh.map_of q) (route k.seed e other) (slice_index ws (parent_word q)) was ∙ ap (λ n. Some n) (sym (top_word q (parent_word q) old (omega arith) (omega arith)))
      | inr link ↦ of_link link.0 link.1 link.2
    ]
      where
        of_link : (n : ℕ) → n < nodes → q ≡ link_at unit n → shape.node_at (shape.map_of q) (route k.seed e other) ≡ Some (slice_index words (parent_word q))
        of_link n below q_is =
            let whole : route k.seed (suc e) other ≡ route k.seed (suc d + n) key = sym path ∙ ap shape.path_of q_is ∙ units.link_path sh tries k.seed m d key unit nodes n below in
            let depth : suc e ≡ suc d + n = same_level k sh log ws m p d key unit nodes tries site (suc e) (suc d + n) other key whole in
            let e_is : e ≡ d + n = omega arith in
            let along : route k.seed e other ≡ route k.seed (d + n) key = tries.above k.seed e (suc e) other key (omega arith) (whole ∙ ap (λ i. route k.seed i key) (sym depth)) ∙ ap (λ i. route k.seed i key) e_is in
            let word : slice_index words (parent_word q) ≡ place_before p (link_at unit) n = ap (λ z. slice_index words (parent_word z)) q_is ∙ link_word n 1 below (omega arith) ∙ news.parents n below in
            ap (λ i. shape.node_at i (route k.seed e other)) (ap shape.map_of q_is ∙ units.link_map sh tries k.seed m d key unit nodes n below) ∙ ap (shape.node_at m) along ∙ above n below ∙ ap (λ z. Some z) (sym word)
          where
            above : (n : ℕ) → n < nodes → shape.node_at m (route k.seed (d + n) key) ≡ Some (place_before p (link_at unit) n)
            above zero below = let e : d + zero ≡ d = omega arith in ap (λ i. shape.node_at m (route k.seed i key)) e ∙ still_there m (route k.seed d key) p (is_there k sh log ws m p d key unit nodes tries site)
            above (suc n) below = let e : d + suc n ≡ suc d + n = omega arith in ap (λ i. shape.node_at m (route k.seed i key)) e ∙ units.link_there sh tries k.seed m d key unit nodes n (omega arith)

    held_on : (q : ℕ) → shape.kind_of q ≡ 1 → slice_index words q ≢ dead_word → shape.held_by q ≡ slice_index words q
    held_on q is lives = elim (units.node_is sh tries k.seed m d key unit nodes q is) [
      | inl old ↦ let e = top_word q q old (omega arith) (omega arith) in old_holder q old ∙ fine.held q old (λ dead. lives (e ∙ dead)) ∙ sym e
      | inr link ↦
          let n = link.0 in let below = link.1 in
          let at : link_at unit n + 0 ≡ link_at unit n = omega arith in
          let word : slice_index words (link_at unit n) ≡ 0 = subst (λ i. slice_index words i ≡ slice_index ws i) at (link_word n 0 below (omega arith)) ∙ news.free n below in
          subst (λ z. shape.held_by z ≡ slice_index words z) (sym link.2) (units.link_holder sh tries k.seed m d key unit nodes n below ∙ sym word)
    ]

    dead_on : (q i : ℕ) → shape.kind_of q ≡ 1 → slice_index words q ≡ dead_word → i < 16 → slice_index words (slot_word q i) ≡ 0
    dead_on q i is dead inside = elim (units.node_is sh tries k.seed m d key unit nodes q is) [
      | inl old ↦
          let was : slice_index ws q ≡ dead_word = sym (top_word q q old (omega arith) (omega arith)) ∙ dead in
          other_node q (slot_word q i) old (λ e. alive (ap (slice_index ws) (sym e) ∙ was)) (omega arith) (omega arith) ∙ fine.dead q i old was inside
      | inr link ↦ absurd (
          let n = link.0 in let below = link.1 in
          let at : link_at unit n + 0 ≡ link_at unit n = omega arith in
          let word : slice_index words (link_at unit n) ≡ 0 = subst (λ i. slice_index words i ≡ slice_index ws i) at (link_word n 0 below (omega arith)) ∙ news.free n below in
          let never : 0 ≡ dead_word = sym word ∙ ap (slice_index words) (sym link.2) ∙ dead in
          omega arith)
    ]

    slots_on : (q e other : ℕ) → shape.kind_of q ≡ 1 → e < 8 → other < 2 ^ 32 → shape.path_of q ≡ route k.seed e other → ShowsAt k shape log' words q e other (slice_index words (slot_word q (nibble other k.seed e)))
    slots_on q e other is level is_key path = elim (units.node_is sh tries k.seed m d key unit nodes q is) [
      | inl old ↦ of_old old (sym (old_path q old) ∙ path)
      | inr link ↦ of_link link.0 link.1 link.2
    ]
      where
        of_old : sh.kind_of q ≡ 1 → sh.path_of q ≡ route k.seed e other → ShowsAt k shape log' words q e other (slice_index words (slot_word q (nibble other k.seed e)))
        of_old old was = elim (cases_eq (slot_word q (nibble other k.seed e)) here_at) [
          | inl written ↦
              let small = nibble_below other k.seed e in
              let q_is : q ≡ p = node_words.whose k sh log ws p (slot_word p (nibble key k.seed d)) x fine site.node from to q old (omega arith) (omega arith) in
              let same_path : route k.seed e other ≡ route k.seed d key = sym was ∙ ap sh.path_of q_is ∙ site.path in
              let e_is : e ≡ d = same_level k sh log ws m p d key unit nodes tries site e d other key same_path in
              let slot_is : nibble other k.seed e ≡ nibble key k.seed d = omega arith in
              let along : route k.seed d other ≡ route k.seed d key = ap (λ n. route k.seed n other) (sym e_is) ∙ same_path in
              let both : route k.seed (suc d) other ≡ route k.seed (suc d) key = (λ i. along i ++ (ap (nibble other k.seed) (sym e_is) ∙ slot_is) i ∷ []) in
              let word : slice_index words (slot_word q (nibble other k.seed e)) ≡ x = ap (slice_index words) written ∙ here in
              subst (λ (z : ℕ × ℕ). ShowsAt k shape log' words z.0 z.1 other (slice_index words (slot_word q (nibble other k.seed e)))) (λ i. (sym q_is i, sym e_is i)) (subst (ShowsAt k shape log' words p d other) (sym word) (now other is_key both))
          | inr unwritten ↦
              let w = slice_index ws (slot_word q (nibble other k.seed e)) in
              subst (ShowsAt k shape log' words q e other) (sym (same (slot_word q (nibble other k.seed e)) unwritten)) (shows_old q e other w old level is_key was unwritten refl (fine.slots q e other old level is_key was))
        ]

        of_link : (n : ℕ) → n < nodes → q ≡ link_at unit n → ShowsAt k shape log' words q e other (slice_index words (slot_word q (nibble other k.seed e)))
        of_link n below q_is =
            let whole : route k.seed e other ≡ route k.seed (suc d + n) key = sym path ∙ ap shape.path_of q_is ∙ units.link_path sh tries k.seed m d key unit nodes n below in
            let e_is : e ≡ suc d + n = same_level k sh log ws m p d key unit nodes tries site e (suc d + n) other key whole in
            subst (λ (z : ℕ × ℕ). ShowsAt k shape log' words z.0 z.1 other (slice_index words (slot_word z.0 (nibble other k.seed z.1)))) (λ i. (sym q_is i, sym e_is i)) (links n other below is_key (ap (λ i. route k.seed i other) (sym e_is) ∙ whole))

    pub fine_published : Fine k (with_unit sh k.seed m d key unit nodes) log' (set ws (slot_word p (nibble key k.seed d)) x)
    fine_published = record {
      wide = length-set ws here_at x ∙ fine.wide;
      numbers = λ a kind at. let below = slice_get_within k.kinds a kind at in
          subst (λ (z : ℕ × List _). IsNumber kind z.0 (slice_index_or z.1 a (Truth false))) (λ i. (sym (head (atomic_word a) (omega arith)) i, sym changes.numbers i)) (fine.numbers a kind at);
      headed = λ i below. let lies = site.lies in units.part_outside sh tries k.seed m d key unit nodes i (λ past. absurd (omega arith)) ∙ fine.headed i below;
      nodes = nodes_on;
      leaves = leaves_on;
      roots = λ n below. still_there n [] (slice_index ws (root_word k n)) (fine.roots n below) ∙ ap (λ z. Some z) (sym (head (root_word k n) (omega arith)));
      live = live_on;
      there = there_on;
      top = top_on;
      parent = parent_on;
      cut = λ q moment is cut. elim (units.node_is sh tries k.seed m d key unit nodes q is) [
        | inl old ↦ let was = fine.cut q moment old (sym (old_cut q old) ∙ cut) in let up = longer_log in omega arith
        | inr link ↦ absurd (none-some moment (sym (units.link_cut sh tries k.seed m d key unit nodes link.0 link.1) ∙ ap shape.cut_of (sym link.2) ∙ cut))
      ];
      held = held_on;
      dead = dead_on;
      slots = slots_on;
    }

  pub gates_published : (n : ℕ) → n < k.maps → Gated k sh ws n → Gated k (with_unit sh k.seed m d key unit nodes) (set ws (slot_word p (nibble key k.seed d)) x) n
  gates_published n below g = record { word = head (gate_word k n) (omega arith) ∙ g.word; callers = g.callers; closers = g.closers }

  pub later_published : Later sh (with_unit sh k.seed m d key unit nodes) log log' ws (set ws (slot_word p (nibble key k.seed d)) x)
  later_published = record {
    history = changes.history;
    node = old_node;
    map = old_map;
    path = old_path;
    cut = λ q moment is cut. old_cut q is ∙ cut;
    fresh = λ q moment is live cut. absurd (none-some moment (sym live ∙ sym (old_cut q is) ∙ cut));
    cut_word = λ q moment n is cut below. other_node q (q + n) is (λ e. none-some moment (sym site.reachable ∙ ap sh.cut_of (sym e) ∙ cut)) (omega arith) (omega arith);
    parent = λ q is. top_word q (parent_word q) is (omega arith) (omega arith);
    dead = λ q is dead. top_word q q is (omega arith) (omega arith) ∙ dead;
    entry = old_leaf;
    key = old_key;
    value = old_value;
  }

  -- the node is held by the caller, and the unit lies in its room
  pub apart_published : (c : ℕ) → sh.held_by p ≡ suc c → ((i : ℕ) → i < unit_words → sh.area_of (unit + i) ≡ suc c) → Apart k c sh (with_unit sh k.seed m d key unit nodes) ws (set ws (slot_word p (nibble key k.seed d)) x)
  apart_published c held area =
      let theirs : (e q : ℕ) → e ≢ c → sh.held_by q ≡ suc e → q ≢ p = (λ e q other is_held at. other (let both : suc e ≡ suc c = sym is_held ∙ ap sh.held_by at ∙ held in omega arith)) in
      let away : (e i : ℕ) → e ≢ c → sh.area_of i ≡ suc e → unit ≤ i → unit + 2 + 18 * nodes ≤ i = (λ e i other is_area past. let few = site.few in elim (units.tested (nat_le (unit + 2 + 18 * nodes) i)) [
        | inl beyond ↦ leb-true (unit + 2 + 18 * nodes) i beyond
        | inr within ↦ absurd (let below = leb-false (unit + 2 + 18 * nodes) i within in
            let n : unit + (i - unit) ≡ i = omega arith in
            let both : suc e ≡ suc c = sym is_area ∙ subst (λ j. sh.area_of j ≡ suc c) n (area (i - unit) (omega arith)) in other (omega arith))
      ]) in record {
        held = λ e q other is inside is_held. old_holder q is ∙ is_held;
        words = λ e q i other is inside is_held from to. other_node q i is (theirs e q other is_held) from to;
        reachable = λ e q other is inside is_held live. old_cut q is ∙ live;
        steady = λ e q other is inside live. inl (old_cut q is ∙ live);
        area = λ e i other is_area. is_area;
        unused = λ e i other lies is_area none_there. units.part_outside sh tries k.seed m d key unit nodes i (away e i other is_area) ∙ none_there;
        room = λ e i other lies is_area none_there. free_word i none_there;
        inside = λ e n other. refl;
        closed = λ e n other closed. closed;
        alone = λ e n other closed alone. alone;
        unheld = λ e q other reach is_held. units.was_held sh tries k.seed m d key unit nodes q e reach is_held;
        unclosed = λ e n other closed. closed;
      }
