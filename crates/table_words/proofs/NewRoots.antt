-- A map's root word takes the place of a new empty node. All nodes that the map had are cut off: they stand for what it was.
use Rattle.std.proofs.Common.{◌≡◌, ◌≢◌, ◌⊎◌, inl, inr, ℕ, zero, suc, ◌+◌, ◌-◌, ◌^◌, ◌<◌, ◌≤◌, ◌==◌, ◌&&◌, Bool, true, false, cond, nat_lt, nat_le, List, [], ◌∷◌, ◌++◌, length, set, Option, Some, None, slice_index, refl, sym, ap, ◌∙◌, subst, arith, length-set, length-append, get_or-set_same, get_or-set_other, leb-true, le-leb, ltb-true, lt-ltb, eq-eqb, ne_eqb}
use Rattle.std.proofs.lemmas.Bool.{cases_eq}
use Rattle.std.proofs.lemmas.Option.{none-some, same_Some, slice_get_within}
use Rattle.std.specs.Prelude.{slice_index_or}
use Rattle.sync_types.specs.declared.atomic_object.Number.TheVariants.{Bool as Truth}
use Rattle.sync_model.specs.declared.item.SharedEntry.{SharedEntry}
use Rattle.sync_model.specs.Journal.{Begins}
use Rattle.sync_model.specs.SharedHistory.{value_at, contents_after}
use Rattle.table_rule.specs.declared.begin.Begin.{Begin}
use Rattle.trie_nodes.specs.declared.slot.Slot.{Slot}
use Rattle.trie_nodes.specs.declared.slot.Slot.TheVariants.{Empty, Node, Entry}
use Rattle.trie_nodes.specs.Layout.{atomic_word, parent_word, slot_word, unit_words, dead_word}
use Rattle.trie_nodes.specs.Nodes.{Shows, entry_value}
use Rattle.trie_nodes.specs.Paths.{nibble, route}
use Rattle.trie_nodes.specs.Slots.{slot_in}
use Rattle.table_rule.specs.Gates.{Gated}
use Rattle.table_words.specs.Laws.{HistoryLaws}
use Rattle.table_rule.specs.Layout.{root_word, gate_word, heads, size_of}
use Rattle.table_rule.specs.Shape.{Shape, start_of, held_at, till, time, IsNumber, IsNode, IsEntry, IsBelow, ShowsAt, Fine}
use Rattle.table_words.proofs.Frames.{Later, Apart}
use Rattle.table_words.proofs.Ledgers.{longer}
use Rattle.table_words.proofs.Outside.{nibble_below}
use Rattle.table_words.proofs.Units.{both_true, and_true, not_true}

-- the shape with a new root of map m, in the first words of a unit: each node of the map that was reachable is cut off now
module _ (sh : Shape) (m unit now : ℕ) where
  abbrev pub in_root : ℕ → Bool
  in_root i = nat_le unit i && nat_lt i (unit + 18)

  abbrev pub cut_now : Bool → Option ℕ → Option ℕ
  cut_now mine None = cond mine (Some now) None
  cut_now mine (Some moment) = Some moment

  abbrev pub root_at : List ℕ → Option ℕ
  root_at [] = Some unit
  root_at (slot ∷ path) = None

  abbrev pub with_root : Shape
  with_root = record {
    node_at = λ n path. cond (n == m) (root_at path) (sh.node_at n path);
    kind_of = λ p. cond (p == unit) 1 (sh.kind_of p);
    part_of = λ i. cond (in_root i) unit (sh.part_of i);
    map_of = λ p. cond (p == unit) m (sh.map_of p);
    path_of = λ p. cond (p == unit) [] (sh.path_of p);
    cut_of = λ p. cond (p == unit) None (cut_now (sh.map_of p == m) (sh.cut_of p));
    held_by = λ p. cond (p == unit) 0 (sh.held_by p);
    area_of = sh.area_of;
    closed_by = sh.closed_by;
    inside = sh.inside;
  }

-- a unit of words that are 0, and part of nothing
pub record Ground (k : Begin) (sh : Shape) (log : List SharedEntry) (ws : List ℕ) (m unit : ℕ) : Type 0 where
  pub fine : Fine k sh log ws
  pub below : m < k.maps
  pub lies : heads k ≤ unit
  pub within : unit + unit_words ≤ size_of k
  pub unused : (i : ℕ) → i < unit_words → sh.part_of (unit + i) ≡ 0
  pub blank : (i : ℕ) → i < unit_words → slice_index ws (unit + i) ≡ 0

-- a history that goes on, so that one map is empty, and all else stays
pub record EmptiesMap (k : Begin) (log log' : List SharedEntry) (m : ℕ) : Type 0 where
  pub history : Begins log' log
  pub numbers : (contents_after (start_of k) log').numbers ≡ (contents_after (start_of k) log).numbers
  pub here : (key : ℕ) → value_at (contents_after (start_of k) log') m key ≡ None
  pub others : (n key : ℕ) → n ≢ m → value_at (contents_after (start_of k) log') n key ≡ value_at (contents_after (start_of k) log) n key

-- a way down is not empty
some_way : (xs : List ℕ) (x : ℕ) → xs ++ x ∷ [] ≡ [] → ⊥
some_way xs x e = let long = length-append xs (x ∷ []) in let none_there : length (xs ++ x ∷ []) ≡ 0 = ap length e in omega arith

module _ (k : Begin) (sh : Shape) (log log' : List SharedEntry) (ws : List ℕ) (m unit : ℕ) (laws : HistoryLaws) (ground : Ground k sh log ws m unit) (empties : EmptiesMap k log log' m) where
  abbrev pub shape : Shape
  shape = with_root sh m unit (length log)

  abbrev pub words : List ℕ
  words = set ws (root_word k m) unit

  fine : Fine k sh log ws
  fine = ground.fine

  some_place : 0 < unit
  some_place = let lies = ground.lies in omega arith

  -- the words
  pub same : (i : ℕ) → i ≢ root_word k m → slice_index (set ws (root_word k m) unit) i ≡ slice_index ws i
  same i ne = get_or-set_other ws (root_word k m) i unit 0 ne

  pub behind_heads : (i : ℕ) → heads k ≤ i → slice_index (set ws (root_word k m) unit) i ≡ slice_index ws i
  behind_heads i past = same i (λ e. let below = ground.below in absurd (omega arith))

  root_is : slice_index (set ws (root_word k m) unit) (root_word k m) ≡ unit
  root_is = let wide = fine.wide in let below = ground.below in get_or-set_same ws (root_word k m) unit 0 (omega arith)

  unit_word : (i : ℕ) → i < unit_words → slice_index (set ws (root_word k m) unit) (unit + i) ≡ 0
  unit_word i inside = let lies = ground.lies in behind_heads (unit + i) (omega arith) ∙ ground.blank i inside

  -- the new node
  root_kind : (with_root sh m unit (length log)).kind_of unit ≡ 1
  root_kind = ap (λ b. cond b 1 (sh.kind_of unit)) (eq-eqb unit unit refl)

  root_map : (with_root sh m unit (length log)).map_of unit ≡ m
  root_map = ap (λ b. cond b m (sh.map_of unit)) (eq-eqb unit unit refl)

  root_path : (with_root sh m unit (length log)).path_of unit ≡ []
  root_path = ap (λ b. cond b [] (sh.path_of unit)) (eq-eqb unit unit refl)

  root_cut : (with_root sh m unit (length log)).cut_of unit ≡ None
  root_cut = ap (λ b. cond b None (cut_now sh m unit (length log) (sh.map_of unit == m) (sh.cut_of unit))) (eq-eqb unit unit refl)

  root_holder : (with_root sh m unit (length log)).held_by unit ≡ 0
  root_holder = ap (λ b. cond b 0 (sh.held_by unit)) (eq-eqb unit unit refl)

  -- all others
  kind_off : (p : ℕ) → p ≢ unit → (with_root sh m unit (length log)).kind_of p ≡ sh.kind_of p
  kind_off p ne = ap (λ b. cond b 1 (sh.kind_of p)) (ne_eqb p unit ne)

  map_off : (p : ℕ) → p ≢ unit → (with_root sh m unit (length log)).map_of p ≡ sh.map_of p
  map_off p ne = ap (λ b. cond b m (sh.map_of p)) (ne_eqb p unit ne)

  path_off : (p : ℕ) → p ≢ unit → (with_root sh m unit (length log)).path_of p ≡ sh.path_of p
  path_off p ne = ap (λ b. cond b [] (sh.path_of p)) (ne_eqb p unit ne)

  cut_off : (p : ℕ) → p ≢ unit → (with_root sh m unit (length log)).cut_of p ≡ cut_now sh m unit (length log) (sh.map_of p == m) (sh.cut_of p)
  cut_off p ne = ap (λ b. cond b None (cut_now sh m unit (length log) (sh.map_of p == m) (sh.cut_of p))) (ne_eqb p unit ne)

  holder_off : (p : ℕ) → p ≢ unit → (with_root sh m unit (length log)).held_by p ≡ sh.held_by p
  holder_off p ne = ap (λ b. cond b 0 (sh.held_by p)) (ne_eqb p unit ne)

  part_in : (i : ℕ) → unit ≤ i → i < unit + 18 → (with_root sh m unit (length log)).part_of i ≡ unit
  part_in i from to = ap (λ b. cond b unit (sh.part_of i)) (and_true (nat_le unit i) (nat_lt i (unit + 18)) (le-leb unit i from) (lt-ltb i (unit + 18) to))

  pub part_out : (i : ℕ) → (unit ≤ i → i < unit + 18 → ⊥) → (with_root sh m unit (length log)).part_of i ≡ sh.part_of i
  part_out i out = ap (λ b. cond b unit (sh.part_of i)) (not_true (in_root sh m unit (length log) i) (λ e. let b = both_true (nat_le unit i) (nat_lt i (unit + 18)) e in out (leb-true unit i b.0) (ltb-true i (unit + 18) b.1)))

  part_old : (i q : ℕ) → 0 < q → sh.part_of i ≡ q → (with_root sh m unit (length log)).part_of i ≡ q
  part_old i q some part = part_out i (λ from to.
      let at : unit + (i - unit) ≡ i = omega arith in
      let none_there : sh.part_of i ≡ 0 = subst (λ n. sh.part_of n ≡ 0) at (ground.unused (i - unit) (omega arith)) in
      let both : q ≡ 0 = sym part ∙ none_there in
      omega arith) ∙ part

  first_unused : sh.part_of unit ≡ 0
  first_unused = let at : unit + 0 ≡ unit = omega arith in subst (λ n. sh.part_of n ≡ 0) at (ground.unused 0 (omega arith))

  pub old_node : (p : ℕ) → sh.kind_of p ≡ 1 → p ≢ unit
  old_node p is e =
      let n = fine.nodes p is in let lies = n.lies in
      let at : p + 0 ≡ p = omega arith in
      let part : sh.part_of p ≡ p = subst (λ i. sh.part_of i ≡ p) at (n.words 0 (omega arith)) in
      let none_there : p ≡ 0 = sym part ∙ ap sh.part_of e ∙ first_unused in
      omega arith

  old_leaf : (p : ℕ) → sh.kind_of p ≡ 2 → p ≢ unit
  old_leaf p is e = let l = fine.leaves p is in let lies = l.lies in let none_there : p ≡ 0 = sym l.key_part ∙ ap sh.part_of e ∙ first_unused in omega arith

  node_is : (p : ℕ) → (with_root sh m unit (length log)).kind_of p ≡ 1 → (p ≡ unit) ⊎ ((p ≢ unit) × (sh.kind_of p ≡ 1))
  node_is p is = elim (cases_eq p unit) [ inl e ↦ inl e | inr ne ↦ inr (ne, sym (kind_off p ne) ∙ is) ]

  leaf_is : (p : ℕ) → (with_root sh m unit (length log)).kind_of p ≡ 2 → (p ≢ unit) × (sh.kind_of p ≡ 2)
  leaf_is p is = elim (cases_eq p unit) [
    | inl e ↦ absurd (let two : 1 ≡ 2 = sym root_kind ∙ ap shape.kind_of (sym e) ∙ is in omega arith)
    | inr ne ↦ (ne, sym (kind_off p ne) ∙ is)
  ]

  -- what is reachable
  there_here : (path : List ℕ) → (with_root sh m unit (length log)).node_at m path ≡ root_at sh m unit (length log) path
  there_here path = ap (λ b. cond b (root_at sh m unit (length log) path) (sh.node_at m path)) (eq-eqb m m refl)

  there_elsewhere : (n : ℕ) (path : List ℕ) → n ≢ m → (with_root sh m unit (length log)).node_at n path ≡ sh.node_at n path
  there_elsewhere n path ne = ap (λ b. cond b (root_at sh m unit (length log) path) (sh.node_at n path)) (ne_eqb n m ne)

  none_deeper : (xs : List ℕ) (x : ℕ) → root_at sh m unit (length log) (xs ++ x ∷ []) ≡ None
  none_deeper [] x = refl
  none_deeper (y ∷ xs) x = refl

  -- when a node was cut off
  cut_kept : (p moment : ℕ) → p ≢ unit → sh.cut_of p ≡ Some moment → (with_root sh m unit (length log)).cut_of p ≡ Some moment
  cut_kept p moment ne is = cut_off p ne ∙ ap (cut_now sh m unit (length log) (sh.map_of p == m)) is

  cut_elsewhere : (p : ℕ) → p ≢ unit → sh.map_of p ≢ m → sh.cut_of p ≡ None → (with_root sh m unit (length log)).cut_of p ≡ None
  cut_elsewhere p ne other live = cut_off p ne ∙ ap (cut_now sh m unit (length log) (sh.map_of p == m)) live ∙ ap (λ b. cond b (Some (length log)) None) (ne_eqb (sh.map_of p) m other)

  pub cut_here : (p : ℕ) → p ≢ unit → sh.map_of p ≡ m → sh.cut_of p ≡ None → (with_root sh m unit (length log)).cut_of p ≡ Some (length log)
  cut_here p ne mine live = cut_off p ne ∙ ap (cut_now sh m unit (length log) (sh.map_of p == m)) live ∙ ap (λ b. cond b (Some (length log)) None) (eq-eqb (sh.map_of p) m mine)

  -- what is reachable yet was so, in another map
  live_was : (p : ℕ) → p ≢ unit → (with_root sh m unit (length log)).cut_of p ≡ None → (sh.map_of p ≢ m) × (sh.cut_of p ≡ None)
  live_was p ne live = by_cut (sh.cut_of p) refl
    where
      by_cut : (o : Option ℕ) → sh.cut_of p ≡ o → (sh.map_of p ≢ m) × (sh.cut_of p ≡ None)
      by_cut None e = (λ mine. none-some (length log) (sym live ∙ cut_here p ne mine e), e)
      by_cut (Some t) e = absurd (none-some t (sym live ∙ cut_kept p t ne e))

  cut_by : (p moment : ℕ) → p ≢ unit → sh.kind_of p ≡ 1 → (with_root sh m unit (length log)).cut_of p ≡ Some moment → moment ≤ length log
  cut_by p moment ne is cut = by_cut (sh.cut_of p) refl
    where
      by_cut : (o : Option ℕ) → sh.cut_of p ≡ o → moment ≤ length log
      by_cut None e = elim (cases_eq (sh.map_of p) m) [
        | inl mine ↦ let at = same_Some (length log) moment (sym (cut_here p ne mine e) ∙ cut) in omega arith
        | inr other ↦ absurd (none-some moment (sym (cut_elsewhere p ne other e) ∙ cut))
      ]
      by_cut (Some t) e = let at = same_Some t moment (sym (cut_kept p t ne e) ∙ cut) in let was = fine.cut p t is e in omega arith

  -- what keys have
  longer_log : length log ≤ length log'
  longer_log = longer log log' empties.history

  at_moment : (t n key : ℕ) → t ≤ length log → held_at k log' t n key ≡ held_at k log t n key
  at_moment t n key within = ap (λ h. held_at k h t n key) empties.history.1 ∙ ap (λ contents. value_at contents n key) (laws.contents_same (start_of k) log empties.history.0 t within)

  held_same : (q key : ℕ) → q ≢ unit → sh.kind_of q ≡ 1 → held_at k log' (time shape log' q) (shape.map_of q) key ≡ held_at k log (time sh log q) (sh.map_of q) key
  held_same q key ne is =
      ap (λ o. held_at k log' (till o (length log')) (shape.map_of q) key) (cut_off q ne)
      ∙ ap (λ n. held_at k log' (till (cut_now sh m unit (length log) (sh.map_of q == m) (sh.cut_of q)) (length log')) n key) (map_off q ne)
      ∙ by_cut (sh.cut_of q) refl
    where
      by_cut : (o : Option ℕ) → sh.cut_of q ≡ o → held_at k log' (till (cut_now sh m unit (length log) (sh.map_of q == m) o) (length log')) (sh.map_of q) key ≡ held_at k log (till o (length log)) (sh.map_of q) key
      by_cut None e = elim (cases_eq (sh.map_of q) m) [
        | inl mine ↦ ap (λ b. held_at k log' (till (cond b (Some (length log)) None) (length log')) (sh.map_of q) key) (eq-eqb (sh.map_of q) m mine) ∙ at_moment (length log) (sh.map_of q) key (omega arith)
        | inr other ↦ ap (λ b. held_at k log' (till (cond b (Some (length log)) None) (length log')) (sh.map_of q) key) (ne_eqb (sh.map_of q) m other)
            ∙ ap (λ contents. value_at contents (sh.map_of q) key) (laws.contents_all (start_of k) log' (length log') (omega arith))
            ∙ empties.others (sh.map_of q) key other
            ∙ sym (ap (λ contents. value_at contents (sh.map_of q) key) (laws.contents_all (start_of k) log (length log) (omega arith)))
      ]
      by_cut (Some t) e = at_moment t (sh.map_of q) key (fine.cut q t is e)

  value_same : (q key : ℕ) → sh.kind_of q ≡ 2 → entry_value words q key ≡ entry_value ws q key
  value_same q key is = let lies = (fine.leaves q is).lies in λ i. cond (behind_heads q lies i == key) (Some (behind_heads (q + 1) (omega arith) i)) None

  -- the slot of an old node
  shows_old : (q d key w : ℕ) → q ≢ unit → sh.kind_of q ≡ 1 → ShowsAt k sh log ws q d key w → ShowsAt k shape log' words q d key w
  shows_old q d key w ne is at = record {
    shows = by_slot (slot_in w) at.entry at.shows;
    entry = λ place e. kind_off place (old_leaf place (at.entry place e)) ∙ at.entry place e;
    childless = λ leaf live. let was = live_was q ne live in
        ap (λ n. shape.node_at n (route k.seed (suc d) key)) (map_off q ne) ∙ there_elsewhere (sh.map_of q) (route k.seed (suc d) key) was.0 ∙ at.childless leaf was.1;
  }
    where
      by_slot : (slot : Slot) → ((place : ℕ) → slot ≡ Entry place → sh.kind_of place ≡ 2)
          → Shows ws k.seed (IsBelow k sh log ws q d key) d key (held_at k log (time sh log q) (sh.map_of q) key) slot
          → Shows words k.seed (IsBelow k shape log' words q d key) d key (held_at k log' (time shape log' q) (shape.map_of q) key) slot
      by_slot Empty entry shows = held_same q key ne is ∙ shows
      by_slot (Node below) entry shows =
          let b = shows.1 in
          let off = old_node below b.0 in (
            shows.0,
            (
              kind_off below off ∙ b.0,
              map_off below off ∙ b.1 ∙ sym (map_off q ne),
              path_off below off ∙ b.2,
              cut_off below off ∙ (λ i. cut_now sh m unit (length log) (b.1 i == m) (b.3 i)) ∙ sym (cut_off q ne),
            ),
          )
      by_slot (Entry place) entry shows =
          let is_entry = entry place refl in let lies = (fine.leaves place is_entry).lies in
          (ap (route k.seed (suc d)) (behind_heads place lies) ∙ shows.0, held_same q key ne is ∙ shows.1 ∙ sym (value_same place key is_entry))

  -- a slot of the new root
  shows_new : (key : ℕ) → ShowsAt k shape log' words unit 0 key 0
  shows_new key = record {
    shows = ap (λ o. held_at k log' (till o (length log')) (shape.map_of unit) key) root_cut
        ∙ ap (λ n. held_at k log' (length log') n key) root_map
        ∙ ap (λ contents. value_at contents m key) (laws.contents_all (start_of k) log' (length log') (omega arith))
        ∙ empties.here key;
    entry = λ place e. absurd (let f : Empty ≡ Entry place = e in (cc));
    childless = λ leaf live. ap (λ n. shape.node_at n (route k.seed 1 key)) root_map ∙ there_here (route k.seed 1 key);
  }

  nodes_on : (q : ℕ) → shape.kind_of q ≡ 1 → IsNode k shape q
  nodes_on q is = elim (node_is q is) [
    | inl at ↦ subst (IsNode k shape) (sym at) (let within = ground.within in record {
      lies = ground.lies;
      within = omega arith;
      words = λ i inside. part_in (unit + i) (omega arith) (omega arith);
      map = subst (λ n. n < k.maps) (sym root_map) ground.below;
      level = 0;
      key = 0;
      below = omega arith;
      is_key = omega arith;
      path = root_path;
    })
    | inr old ↦ let n = fine.nodes q old.1 in let lies = n.lies in record {
      lies = n.lies;
      within = n.within;
      words = λ i inside. part_old (q + i) q (omega arith) (n.words i inside);
      map = subst (λ i. i < k.maps) (sym (map_off q old.0)) n.map;
      level = n.level;
      key = n.key;
      below = n.below;
      is_key = n.is_key;
      path = path_off q old.0 ∙ n.path;
    }
  ]

  leaves_on : (q : ℕ) → shape.kind_of q ≡ 2 → IsEntry k shape words q
  leaves_on q is = let old = leaf_is q is in let l = fine.leaves q old.1 in let lies = l.lies in record {
    lies = l.lies;
    within = l.within;
    key_part = part_old q q (omega arith) l.key_part;
    value_part = part_old (q + 1) q (omega arith) l.value_part;
    is_key = subst (λ n. n < 2 ^ 32) (sym (behind_heads q lies)) l.is_key;
  }

  live_on : (n : ℕ) (path : List ℕ) (q : ℕ) → shape.node_at n path ≡ Some q → (shape.kind_of q ≡ 1) × (shape.map_of q ≡ n) × (shape.path_of q ≡ path) × (shape.cut_of q ≡ None)
  live_on n path q at = elim (cases_eq n m) [
    | inl mine ↦ by_path mine path (sym (there_here path) ∙ ap (λ i. shape.node_at i path) (sym mine) ∙ at)
    | inr other ↦
        let l = fine.live n path q (sym (there_elsewhere n path other) ∙ at) in
        let off = old_node q l.0 in
        (kind_off q off ∙ l.0, map_off q off ∙ l.1, path_off q off ∙ l.2, cut_elsewhere q off (λ e. other (sym l.1 ∙ e)) l.3)
  ]
    where
      by_path : n ≡ m → (path : List ℕ) → root_at sh m unit (length log) path ≡ Some q → (shape.kind_of q ≡ 1) × (shape.map_of q ≡ n) × (shape.path_of q ≡ path) × (shape.cut_of q ≡ None)
      by_path mine [] e = let at = same_Some unit q e in
          subst (λ z. (shape.kind_of z ≡ 1) × (shape.map_of z ≡ n) × (shape.path_of z ≡ []) × (shape.cut_of z ≡ None)) at (root_kind, root_map ∙ sym mine, root_path, root_cut)
      by_path mine (slot ∷ path) e = absurd (none-some q e)

  there_on : (q : ℕ) → shape.kind_of q ≡ 1 → shape.cut_of q ≡ None → shape.node_at (shape.map_of q) (shape.path_of q) ≡ Some q
  there_on q is live = elim (node_is q is) [
    | inl at ↦ subst (λ z. shape.node_at (shape.map_of z) (shape.path_of z) ≡ Some z) (sym at) ((λ j. shape.node_at (root_map j) (root_path j)) ∙ there_here [])
    | inr old ↦ let was = live_was q old.0 live in
        (λ j. shape.node_at (map_off q old.0 j) (path_off q old.0 j)) ∙ there_elsewhere (sh.map_of q) (sh.path_of q) was.0 ∙ fine.there q old.1 was.1
  ]

  top_on : (q : ℕ) → shape.kind_of q ≡ 1 → shape.path_of q ≡ [] → slice_index words (parent_word q) ≡ 0
  top_on q is root = elim (node_is q is) [
    | inl at ↦ ap (λ z. slice_index words (parent_word z)) at ∙ unit_word 1 (omega arith)
    | inr old ↦ let lies = (fine.nodes q old.1).lies in behind_heads (parent_word q) (omega arith) ∙ fine.top q old.1 (sym (path_off q old.0) ∙ root)
  ]

  parent_on : (q d key : ℕ) → shape.kind_of q ≡ 1 → shape.cut_of q ≡ None → key < 2 ^ 32 → shape.path_of q ≡ route k.seed (suc d) key → shape.node_at (shape.map_of q) (route k.seed d key) ≡ Some (slice_index words (parent_word q))
  parent_on q d key is live is_key path = elim (node_is q is) [
    | inl at ↦ absurd (some_way (route k.seed d key) (nibble key k.seed d) (sym path ∙ ap shape.path_of at ∙ root_path))
    | inr old ↦
        let was = live_was q old.0 live in
        let lies = (fine.nodes q old.1).lies in
        ap (λ n. shape.node_at n (route k.seed d key)) (map_off q old.0) ∙ there_elsewhere (sh.map_of q) (route k.seed d key) was.0
        ∙ fine.parent q d key old.1 was.1 is_key (sym (path_off q old.0) ∙ path) ∙ ap (λ n. Some n) (sym (behind_heads (parent_word q) (omega arith)))
  ]

  free_root : slice_index (set ws (root_word k m) unit) unit ≡ 0
  free_root = let at : unit + 0 ≡ unit = omega arith in subst (λ i. slice_index words i ≡ 0) at (unit_word 0 (omega arith))

  held_on : (q : ℕ) → shape.kind_of q ≡ 1 → slice_index words q ≢ dead_word → shape.held_by q ≡ slice_index words q
  held_on q is lives = elim (node_is q is) [
    | inl at ↦ subst (λ z. shape.held_by z ≡ slice_index words z) (sym at) (root_holder ∙ sym free_root)
    | inr old ↦ let e = behind_heads q (fine.nodes q old.1).lies in holder_off q old.0 ∙ fine.held q old.1 (λ dead. lives (e ∙ dead)) ∙ sym e
  ]

  dead_on : (q i : ℕ) → shape.kind_of q ≡ 1 → slice_index words q ≡ dead_word → i < 16 → slice_index words (slot_word q i) ≡ 0
  dead_on q i is dead inside = elim (node_is q is) [
    | inl at ↦ absurd (let never : 0 ≡ dead_word = sym free_root ∙ ap (slice_index words) (sym at) ∙ dead in omega arith)
    | inr old ↦ let lies = (fine.nodes q old.1).lies in behind_heads (slot_word q i) (omega arith) ∙ fine.dead q i old.1 (sym (behind_heads q lies) ∙ dead) inside
  ]

  slots_on : (q d key : ℕ) → shape.kind_of q ≡ 1 → d < 8 → key < 2 ^ 32 → shape.path_of q ≡ route k.seed d key → ShowsAt k shape log' words q d key (slice_index words (slot_word q (nibble key k.seed d)))
  slots_on q d key is level is_key path = elim (node_is q is) [
    | inl at ↦ subst (λ z. ShowsAt k shape log' words z d key (slice_index words (slot_word z (nibble key k.seed d)))) (sym at) (of_root d (sym root_path ∙ ap shape.path_of (sym at) ∙ path))
    | inr old ↦
        let small = nibble_below key k.seed d in
        let lies = (fine.nodes q old.1).lies in
        subst (ShowsAt k shape log' words q d key) (sym (behind_heads (slot_word q (nibble key k.seed d)) (omega arith)))
        (shows_old q d key (slice_index ws (slot_word q (nibble key k.seed d))) old.0 old.1 (fine.slots q d key old.1 level is_key (sym (path_off q old.0) ∙ path)))
  ]
    where
      of_root : (e : ℕ) → [] ≡ route k.seed e key → ShowsAt k shape log' words unit e key (slice_index words (slot_word unit (nibble key k.seed e)))
      of_root zero way =
          let small = nibble_below key k.seed 0 in
          let at : slot_word unit (nibble key k.seed 0) ≡ unit + (2 + nibble key k.seed 0) = omega arith in
          subst (ShowsAt k shape log' words unit 0 key) (sym (ap (slice_index words) at ∙ unit_word (2 + nibble key k.seed 0) (omega arith))) (shows_new key)
      of_root (suc e) way = absurd (some_way (route k.seed e key) (nibble key k.seed e) (sym way))

  pub fine_rooted : Fine k (with_root sh m unit (length log)) log' (set ws (root_word k m) unit)
  fine_rooted = record {
    wide = length-set ws (root_word k m) unit ∙ fine.wide;
    numbers = λ a kind at. let below = slice_get_within k.kinds a kind at in
        subst (λ (z : ℕ × List _). IsNumber kind z.0 (slice_index_or z.1 a (Truth false))) (λ i. (sym (same (atomic_word a) (λ e. absurd (omega arith))) i, sym empties.numbers i)) (fine.numbers a kind at);
    headed = λ i below. let lies = ground.lies in part_out i (λ from to. absurd (omega arith)) ∙ fine.headed i below;
    nodes = nodes_on;
    leaves = leaves_on;
    roots = λ n below. elim (cases_eq n m) [
      | inl mine ↦ subst (λ i. shape.node_at i [] ≡ Some (slice_index words (root_word k i))) (sym mine) (there_here [] ∙ ap (λ z. Some z) (sym root_is))
      | inr other ↦ there_elsewhere n [] other ∙ fine.roots n below ∙ ap (λ z. Some z) (sym (same (root_word k n) (λ e. other (omega arith))))
    ];
    live = live_on;
    there = there_on;
    top = top_on;
    parent = parent_on;
    cut = λ q moment is cut. let up = longer_log in elim (node_is q is) [
      | inl at ↦ absurd (none-some moment (sym root_cut ∙ ap shape.cut_of (sym at) ∙ cut))
      | inr old ↦ let was = cut_by q moment old.0 old.1 cut in omega arith
    ];
    held = held_on;
    dead = dead_on;
    slots = slots_on;
  }

  pub gates_rooted : (n : ℕ) → n < k.maps → Gated k sh ws n → Gated k (with_root sh m unit (length log)) (set ws (root_word k m) unit) n
  gates_rooted n below g = record { word = same (gate_word k n) (λ e. absurd (omega arith)) ∙ g.word; callers = g.callers; closers = g.closers }

  pub later_rooted : Later sh (with_root sh m unit (length log)) log log' ws (set ws (root_word k m) unit)
  later_rooted = record {
    history = empties.history;
    node = λ p is. kind_off p (old_node p is) ∙ is;
    map = λ p is. map_off p (old_node p is);
    path = λ p is. path_off p (old_node p is);
    cut = λ p moment is cut. cut_kept p moment (old_node p is) cut;
    fresh = λ p moment is live cut. elim (cases_eq (sh.map_of p) m) [
      | inl mine ↦ let at = same_Some (length log) moment (sym (cut_here p (old_node p is) mine live) ∙ cut) in omega arith
      | inr other ↦ absurd (none-some moment (sym (cut_elsewhere p (old_node p is) other live) ∙ cut))
    ];
    cut_word = λ p moment n is cut below. let lies = (fine.nodes p is).lies in behind_heads (p + n) (omega arith);
    parent = λ p is. let lies = (fine.nodes p is).lies in behind_heads (parent_word p) (omega arith);
    dead = λ p is dead. behind_heads p (fine.nodes p is).lies ∙ dead;
    entry = λ p is. kind_off p (old_leaf p is) ∙ is;
    key = λ p is. behind_heads p (fine.leaves p is).lies;
    value = λ p is. let lies = (fine.leaves p is).lies in behind_heads (p + 1) (omega arith);
  }

  -- a reachable node that somebody holds was one before
  pub was_held : (p e : ℕ) → (with_root sh m unit (length log)).cut_of p ≡ None → (with_root sh m unit (length log)).held_by p ≡ suc e → (sh.cut_of p ≡ None) × (sh.held_by p ≡ suc e)
  was_held p e reach held = elim (cases_eq p unit) [
    | inl it ↦ absurd (let z : 0 ≡ suc e = sym root_holder ∙ ap (with_root sh m unit (length log)).held_by (sym it) ∙ held in omega arith)
    | inr ne ↦ (by_cut ne (sh.cut_of p) refl, sym (holder_off p ne) ∙ held)
  ]
    where
      by_cut : p ≢ unit → (o : Option ℕ) → sh.cut_of p ≡ o → sh.cut_of p ≡ None
      by_cut ne None is = is
      by_cut ne (Some t) is = absurd (none-some t (sym reach ∙ cut_kept p t ne is))

  -- no writer of the map is inside, and the unit lies in the caller's room
  pub apart_rooted : (c : ℕ) → ((d : ℕ) → sh.inside m d ≡ false) → ((i : ℕ) → i < unit_words → sh.area_of (unit + i) ≡ suc c) → Apart k c sh (with_root sh m unit (length log)) ws (set ws (root_word k m) unit)
  apart_rooted c nobody area = record {
    held = λ d p other is inside held. holder_off p (old_node p is) ∙ held;
    words = λ d p i other is inside held from to. let lies = (fine.nodes p is).lies in behind_heads i (omega arith);
    reachable = λ d p other is inside held live. cut_elsewhere p (old_node p is) (elsewhere d p inside) live;
    steady = λ d p other is inside live. inl (cut_elsewhere p (old_node p is) (elsewhere d p inside) live);
    area = λ d i other mine. mine;
    unused = λ d i other lies theirs none_there. part_out i (λ from to.
        let at : unit + (i - unit) ≡ i = omega arith in
        let both : suc d ≡ suc c = sym theirs ∙ subst (λ n. sh.area_of n ≡ suc c) at (area (i - unit) (omega arith)) in
        other (omega arith)) ∙ none_there;
    room = λ d i other lies theirs none_there. behind_heads i lies;
    inside = λ d n other. refl;
    closed = λ d n other closed. closed;
    alone = λ d n other closed alone. alone;
    unheld = λ d p other reach held. was_held p d reach held;
    unclosed = λ d n other closed. closed;
  }
    where
      elsewhere : (d p : ℕ) → sh.inside (sh.map_of p) d ≡ true → sh.map_of p ≢ m
      elsewhere d p inside e = let f : false ≡ true = sym (nobody d) ∙ ap (λ n. sh.inside n d) (sym e) ∙ inside in (cc)
