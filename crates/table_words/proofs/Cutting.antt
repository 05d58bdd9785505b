-- A node that is dead is cut off: its parent's slot is emptied. The words mean the same map.
use Rattle.std.proofs.Common.{◌≡◌, ◌≢◌, ◌⊎◌, inl, inr, ℕ, suc, ◌+◌, ◌^◌, ◌<◌, ◌≤◌, ◌==◌, cond, List, [], ◌∷◌, ◌++◌, length, set, Option, Some, None, slice_index, refl, sym, ap, ◌∙◌, subst, arith, length-set, eq-eqb, ne_eqb}
use Rattle.std.proofs.lemmas.Bool.{cases_eq}
use Rattle.std.proofs.lemmas.List.{append-nil}
use Rattle.std.proofs.lemmas.Option.{none-some, same_Some, slice_get_within}
use Rattle.sync_model.specs.declared.item.SharedEntry.{SharedEntry}
use Rattle.sync_model.specs.SharedHistory.{number_at, contents_after}
use Rattle.table_rule.specs.declared.begin.Begin.{Begin}
use Rattle.trie_nodes.specs.declared.slot.Slot.{Slot}
use Rattle.trie_nodes.specs.declared.slot.Slot.TheVariants.{Empty, Node, Entry}
use Rattle.trie_nodes.specs.Layout.{atomic_word, parent_word, slot_word, dead_word}
use Rattle.trie_nodes.specs.Nodes.{Shows, entry_value}
use Rattle.trie_nodes.specs.Paths.{nibble, route}
use Rattle.trie_nodes.specs.Slots.{slot_in}
use Rattle.table_rule.specs.declared.view.Own.{Own}
use Rattle.table_rule.specs.Gates.{Gated}
use Rattle.table_rule.specs.Layout.{root_word, gate_word, heads}
use Rattle.table_rule.specs.Owed.{HasRoom}
use Rattle.table_rule.specs.Shape.{Shape, start_of, held_at, till, time, IsNumber, IsBelow, ShowsAt, Fine}
use Rattle.table_words.specs.TrieLaws.{TrieLaws}
use Rattle.table_words.proofs.Frames.{Later, Apart}
use Rattle.table_words.proofs.NodeWords as words
use Rattle.table_words.proofs.Outside.{nibble_below}

-- what is reachable, but for one node
abbrev pub unless : ℕ → Option ℕ → Option ℕ
unless child None = None
unless child (Some p) = cond (p == child) None (Some p)

-- the shape in which a node is cut off at this moment
abbrev pub with_cut : Shape → ℕ → ℕ → Shape
with_cut sh child now = record sh { node_at = λ m path. unless child (sh.node_at m path); cut_of = λ p. cond (p == child) (Some now) (sh.cut_of p) }

module _ (child : ℕ) where
  unless_none : (o : Option ℕ) → o ≡ None → unless child o ≡ None
  unless_none o e = ap (unless child) e

  unless_same : (o : Option ℕ) → o ≡ Some child → unless child o ≡ None
  unless_same o e = ap (unless child) e ∙ ap (λ b. cond b None (Some child)) (eq-eqb child child refl)

  unless_other : (o : Option ℕ) (p : ℕ) → p ≢ child → o ≡ Some p → unless child o ≡ Some p
  unless_other o p ne e = ap (unless child) e ∙ ap (λ b. cond b None (Some p)) (ne_eqb p child ne)

  -- what is left was there, and is another node
  was_there : (o : Option ℕ) (p : ℕ) → unless child o ≡ Some p → (o ≡ Some p) × (p ≢ child)
  was_there None p e = absurd (none-some p e)
  was_there (Some q) p e = elim (cases_eq q child) [
    | inl it ↦ absurd (none-some p (sym (unless_same (Some q) (ap (λ n. Some n) it)) ∙ e))
    | inr ne ↦ let same = sym (unless_other (Some q) q ne refl) ∙ e in (same, λ at. ne (same_Some q p same ∙ at))
  ]

-- a dead node that is reachable, and its parent, with a key on whose path both stand
pub record Stub (k : Begin) (sh : Shape) (log : List SharedEntry) (ws : List ℕ) (p d key child : ℕ) : Type 0 where
  pub fine : Fine k sh log ws
  pub node : sh.kind_of p ≡ 1
  pub path : sh.path_of p ≡ route k.seed d key
  pub reachable : sh.cut_of p ≡ None
  pub is_key : key < 2 ^ 32
  pub level : suc d < 8
  pub below : sh.kind_of child ≡ 1
  pub map : sh.map_of child ≡ sh.map_of p
  pub way : sh.path_of child ≡ route k.seed (suc d) key
  pub live : sh.cut_of child ≡ None
  pub dead : slice_index ws child ≡ dead_word

module _ (k : Begin) (sh : Shape) (log : List SharedEntry) (ws : List ℕ) (p d key child : ℕ) (tries : TrieLaws) (stub : Stub k sh log ws p d key child) where
  fine : Fine k sh log ws
  fine = stub.fine

  small : nibble key k.seed d < 16
  small = nibble_below key k.seed d

  abbrev pub shape : Shape
  shape = with_cut sh child (length log)

  abbrev pub now : List ℕ
  now = set ws (slot_word p (nibble key k.seed d)) 0

  -- the words
  from : p ≤ slot_word p (nibble key k.seed d)
  from = omega arith

  to : slot_word p (nibble key k.seed d) < p + 18
  to = let low = small in omega arith

  here : slice_index (set ws (slot_word p (nibble key k.seed d)) 0) (slot_word p (nibble key k.seed d)) ≡ 0
  here = words.here k sh log ws p (slot_word p (nibble key k.seed d)) 0 fine stub.node from to

  same : (i : ℕ) → i ≢ slot_word p (nibble key k.seed d) → slice_index (set ws (slot_word p (nibble key k.seed d)) 0) i ≡ slice_index ws i
  same = words.same k sh log ws p (slot_word p (nibble key k.seed d)) 0 fine stub.node from to

  head : (i : ℕ) → i < heads k → slice_index (set ws (slot_word p (nibble key k.seed d)) 0) i ≡ slice_index ws i
  head = words.head k sh log ws p (slot_word p (nibble key k.seed d)) 0 fine stub.node from to

  pub at_key : (q : ℕ) → sh.kind_of q ≡ 2 → slice_index (set ws (slot_word p (nibble key k.seed d)) 0) q ≡ slice_index ws q
  at_key = words.at_key k sh log ws p (slot_word p (nibble key k.seed d)) 0 fine stub.node from to

  pub at_value : (q : ℕ) → sh.kind_of q ≡ 2 → slice_index (set ws (slot_word p (nibble key k.seed d)) 0) (q + 1) ≡ slice_index ws (q + 1)
  at_value = words.at_value k sh log ws p (slot_word p (nibble key k.seed d)) 0 fine stub.node from to

  -- the lock and the parent of a node
  pub lock_same : (q : ℕ) → sh.kind_of q ≡ 1 → slice_index (set ws (slot_word p (nibble key k.seed d)) 0) q ≡ slice_index ws q
  lock_same q is = let at : q + 0 ≡ q = omega arith in
      subst (λ i. slice_index now i ≡ slice_index ws i) at (words.word_off k sh log ws p (slot_word p (nibble key k.seed d)) 0 fine stub.node from to q 0 is (omega arith) (λ e. absurd (omega arith)))

  pub parent_same : (q : ℕ) → sh.kind_of q ≡ 1 → slice_index (set ws (slot_word p (nibble key k.seed d)) 0) (parent_word q) ≡ slice_index ws (parent_word q)
  parent_same q is = words.word_off k sh log ws p (slot_word p (nibble key k.seed d)) 0 fine stub.node from to q 1 is (omega arith) (λ e. absurd (omega arith))

  -- a slot's word is as it was, or 0
  slot_now : (i : ℕ) → slice_index ws i ≡ 0 → slice_index (set ws (slot_word p (nibble key k.seed d)) 0) i ≡ 0
  slot_now i none_there = elim (cases_eq i (slot_word p (nibble key k.seed d))) [ inl e ↦ ap (slice_index now) e ∙ here | inr ne ↦ same i ne ∙ none_there ]

  -- the shape
  pub cut_here : (with_cut sh child (length log)).cut_of child ≡ Some (length log)
  cut_here = ap (λ b. cond b (Some (length log)) (sh.cut_of child)) (eq-eqb child child refl)

  -- a node that is reachable is another one, and was reachable
  pub other_reachable : (q : ℕ) → (with_cut sh child (length log)).cut_of q ≡ None → q ≢ child
  other_reachable q reach e = none-some (length log) (sym reach ∙ ap (with_cut sh child (length log)).cut_of e ∙ cut_here)

  pub cut_off : (q : ℕ) → q ≢ child → (with_cut sh child (length log)).cut_of q ≡ sh.cut_of q
  cut_off q ne = ap (λ b. cond b (Some (length log)) (sh.cut_of q)) (ne_eqb q child ne)

  -- a node that was cut off is another one
  cut_other : (q moment : ℕ) → sh.cut_of q ≡ Some moment → q ≢ child
  cut_other q moment cut e = none-some moment (sym stub.live ∙ ap sh.cut_of (sym e) ∙ cut)

  live_was : (q : ℕ) → (with_cut sh child (length log)).cut_of q ≡ None → (q ≢ child) × (sh.cut_of q ≡ None)
  live_was q live = elim (cases_eq q child) [
    | inl e ↦ absurd (none-some (length log) (sym live ∙ ap shape.cut_of e ∙ cut_here))
    | inr ne ↦ (ne, sym (cut_off q ne) ∙ live)
  ]

  child_there : sh.node_at (sh.map_of p) (route k.seed (suc d) key) ≡ Some child
  child_there = (λ i. sh.node_at (sym stub.map i) (sym stub.way i)) ∙ fine.there child stub.below stub.live

  parent_there : sh.node_at (sh.map_of p) (route k.seed d key) ≡ Some p
  parent_there = ap (sh.node_at (sh.map_of p)) (sym stub.path) ∙ fine.there p stub.node stub.reachable

  -- each slot of the dead node is empty, so that its keys have nothing
  child_empty : (e other : ℕ) → e < 8 → other < 2 ^ 32 → sh.path_of child ≡ route k.seed e other → ShowsAt k sh log ws child e other 0
  child_empty e other level is_key path =
      let low = nibble_below other k.seed e in
      subst (ShowsAt k sh log ws child e other) (fine.dead child (nibble other k.seed e) stub.below stub.dead low) (fine.slots child e other stub.below level is_key path)

  -- what a node stands for stays
  time_same : (q : ℕ) → time (with_cut sh child (length log)) log q ≡ time sh log q
  time_same q = elim (cases_eq q child) [
    | inl e ↦ ap (λ o. till o (length log)) (ap shape.cut_of e ∙ cut_here) ∙ sym (ap (λ o. till o (length log)) (ap sh.cut_of e ∙ stub.live))
    | inr ne ↦ ap (λ o. till o (length log)) (cut_off q ne)
  ]

  held_same : (q other : ℕ) → held_at k log (time (with_cut sh child (length log)) log q) (sh.map_of q) other ≡ held_at k log (time sh log q) (sh.map_of q) other
  held_same q other = ap (λ n. held_at k log n (sh.map_of q) other) (time_same q)

  value_same : (q other : ℕ) → sh.kind_of q ≡ 2 → entry_value now q other ≡ entry_value ws q other
  value_same q other is = λ i. cond (at_key q is i == other) (Some (at_value q is i)) None

  -- levels of equal paths
  same_level : (e f one other : ℕ) → route k.seed e one ≡ route k.seed f other → e ≡ f
  same_level e f one other same = sym (tries.long k.seed e one) ∙ ap length same ∙ tries.long k.seed f other

  -- nothing is reachable below the dead node
  none_below : (q e other : ℕ) → sh.kind_of q ≡ 1 → sh.cut_of q ≡ None → other < 2 ^ 32 → sh.path_of q ≡ route k.seed (suc e) other → sh.node_at (sh.map_of q) (route k.seed e other) ≡ Some child → ⊥
  none_below q e other is live is_key path at =
      let l = fine.live (sh.map_of q) (route k.seed e other) child at in
      let depth : e ≡ suc d = same_level e (suc d) other key (sym l.2 ∙ stub.way) in
      let level = stub.level in
      let there : sh.node_at (sh.map_of child) (route k.seed (suc e) other) ≡ Some q = (λ i. sh.node_at (l.1 i) (sym path i)) ∙ fine.there q is live in
      none-some q (sym ((child_empty e other (omega arith) is_key l.2).childless (λ node f. absurd (let g : Empty ≡ Node node = f in (cc))) stub.live) ∙ there)

  -- a key of the slot that is emptied
  along : (other : ℕ) → sh.path_of p ≡ route k.seed d other → nibble other k.seed d ≡ nibble key k.seed d → route k.seed (suc d) other ≡ route k.seed (suc d) key
  along other path slot = let same_way : route k.seed d other ≡ route k.seed d key = sym path ∙ stub.path in λ i. same_way i ++ slot i ∷ []

  -- it has nothing in the map
  emptied : (other : ℕ) → other < 2 ^ 32 → sh.path_of p ≡ route k.seed d other → nibble other k.seed d ≡ nibble key k.seed d → ShowsAt k (with_cut sh child (length log)) log (set ws (slot_word p (nibble key k.seed d)) 0) p d other 0
  emptied other is_key path slot =
      let way = along other path slot in
      let none_there = (child_empty (suc d) other stub.level is_key (stub.way ∙ sym way)).shows in record {
        shows = held_same p other ∙ ap (λ o. held_at k log (till o (length log)) (sh.map_of p) other) (stub.reachable ∙ sym stub.live) ∙ ap (λ m. held_at k log (time sh log child) m other) (sym stub.map) ∙ none_there;
        entry = λ place e. absurd (let f : Empty ≡ Entry place = e in (cc));
        childless = λ leaf live. unless_same child (sh.node_at (sh.map_of p) (route k.seed (suc d) other)) (ap (sh.node_at (sh.map_of p)) way ∙ child_there);
      }

  -- a slot of the dead node
  shows_dead : (e other : ℕ) → e < 8 → other < 2 ^ 32 → sh.path_of child ≡ route k.seed e other → ShowsAt k (with_cut sh child (length log)) log (set ws (slot_word p (nibble key k.seed d)) 0) child e other 0
  shows_dead e other level is_key path = record {
    shows = held_same child other ∙ (child_empty e other level is_key path).shows;
    entry = λ place e. absurd (let f : Empty ≡ Entry place = e in (cc));
    childless = λ leaf live. absurd (none-some (length log) (sym live ∙ cut_here));
  }

  -- no other slot leads to the dead node
  no_other : (q e other : ℕ) → sh.kind_of q ≡ 1 → sh.path_of q ≡ route k.seed e other → slot_word q (nibble other k.seed e) ≢ slot_word p (nibble key k.seed d) → IsBelow k sh log ws q e other child → ⊥
  no_other q e other is path ne b =
      let way : route k.seed (suc e) other ≡ route k.seed (suc d) key = sym b.2 ∙ stub.way in
      let depth : suc e ≡ suc d = same_level (suc e) (suc d) other key way in
      let level : e ≡ d = omega arith in
      let way_here : route k.seed (suc d) other ≡ route k.seed (suc d) key = ap (λ n. route k.seed (suc n) other) (sym level) ∙ way in
      let above : route k.seed d other ≡ route k.seed d key = tries.above k.seed d (suc d) other key (omega arith) way_here in
      let slot : nibble other k.seed e ≡ nibble key k.seed d = ap (nibble other k.seed) level ∙ tries.same_slot k.seed d (suc d) other key (omega arith) way_here in
      let there : sh.node_at (sh.map_of p) (route k.seed d key) ≡ Some q =
      (λ i. sh.node_at ((sym stub.map ∙ b.1) i) ((sym above ∙ ap (λ n. route k.seed n other) (sym level) ∙ sym path) i)) ∙ fine.there q is (sym b.3 ∙ stub.live) in
      let it : q ≡ p = same_Some q p (sym there ∙ parent_there) in
      ne (omega arith)

  shows_old : (q e other w : ℕ) → q ≢ child → sh.kind_of q ≡ 1 → sh.path_of q ≡ route k.seed e other → slot_word q (nibble other k.seed e) ≢ slot_word p (nibble key k.seed d)
      → ShowsAt k sh log ws q e other w → ShowsAt k (with_cut sh child (length log)) log (set ws (slot_word p (nibble key k.seed d)) 0) q e other w
  shows_old q e other w off is path ne at = record {
    shows = by_slot (slot_in w) at.entry at.shows;
    entry = at.entry;
    childless = λ leaf live. unless_none child (sh.node_at (sh.map_of q) (route k.seed (suc e) other)) (at.childless leaf (live_was q live).1);
  }
    where
      by_slot : (slot : Slot) → ((place : ℕ) → slot ≡ Entry place → sh.kind_of place ≡ 2)
          → Shows ws k.seed (IsBelow k sh log ws q e other) e other (held_at k log (time sh log q) (sh.map_of q) other) slot
          → Shows now k.seed (IsBelow k shape log now q e other) e other (held_at k log (time shape log q) (sh.map_of q) other) slot
      by_slot Empty entry shows = held_same q other ∙ shows
      by_slot (Node below) entry shows =
          let b = shows.1 in
          let other_one : below ≢ child = (λ it. no_other q e other is path ne (subst (IsBelow k sh log ws q e other) it b)) in
          (shows.0, (b.0, b.1, b.2, cut_off below other_one ∙ b.3 ∙ sym (cut_off q off)))
      by_slot (Entry place) entry shows =
          let is_entry = entry place refl in
          (ap (route k.seed (suc e)) (at_key place is_entry) ∙ shows.0, held_same q other ∙ shows.1 ∙ sym (value_same place other is_entry))

  slots_on : (q e other : ℕ) → sh.kind_of q ≡ 1 → e < 8 → other < 2 ^ 32 → sh.path_of q ≡ route k.seed e other
      → ShowsAt k (with_cut sh child (length log)) log (set ws (slot_word p (nibble key k.seed d)) 0) q e other (slice_index (set ws (slot_word p (nibble key k.seed d)) 0) (slot_word q (nibble other k.seed e)))
  slots_on q e other is level is_key path = elim (cases_eq q child) [
    | inl it ↦ subst (λ n. sh.path_of n ≡ route k.seed e other → ShowsAt k shape log now n e other (slice_index now (slot_word n (nibble other k.seed e)))) (sym it)
        (λ way. subst (ShowsAt k shape log now child e other) (sym (slot_now (slot_word child (nibble other k.seed e)) (fine.dead child (nibble other k.seed e) stub.below stub.dead (nibble_below other k.seed e)))) (shows_dead e other level is_key way)) path
    | inr off ↦ elim (cases_eq (slot_word q (nibble other k.seed e)) (slot_word p (nibble key k.seed d))) [
      | inl at ↦
          let low = nibble_below other k.seed e in
          let it : q ≡ p = words.whose k sh log ws p (slot_word p (nibble key k.seed d)) 0 fine stub.node from to q is (omega arith) (omega arith) in
          let path_here : sh.path_of p ≡ route k.seed e other = ap sh.path_of (sym it) ∙ path in
          let depth : e ≡ d = same_level e d other key (sym path_here ∙ stub.path) in
          let slot : nibble other k.seed e ≡ nibble key k.seed d = omega arith in
          subst (ShowsAt k shape log now q e other) (sym (ap (slice_index now) at ∙ here))
          (subst (λ (z : ℕ × ℕ). ShowsAt k shape log now z.0 z.1 other 0) (λ i. (sym it i, sym depth i))
          (emptied other is_key (path_here ∙ ap (λ n. route k.seed n other) depth) (ap (nibble other k.seed) (sym depth) ∙ slot)))
      | inr ne ↦ subst (ShowsAt k shape log now q e other) (sym (same (slot_word q (nibble other k.seed e)) ne))
          (shows_old q e other (slice_index ws (slot_word q (nibble other k.seed e))) off is path ne (fine.slots q e other is level is_key path))
    ]
  ]

  parent_on : (q e other : ℕ) → sh.kind_of q ≡ 1 → (with_cut sh child (length log)).cut_of q ≡ None → other < 2 ^ 32 → sh.path_of q ≡ route k.seed (suc e) other
      → (with_cut sh child (length log)).node_at (sh.map_of q) (route k.seed e other) ≡ Some (slice_index (set ws (slot_word p (nibble key k.seed d)) 0) (parent_word q))
  parent_on q e other is live is_key path =
      let was = live_was q live in
      let up = fine.parent q e other is was.1 is_key path in
      unless_other child (sh.node_at (sh.map_of q) (route k.seed e other)) (slice_index ws (parent_word q)) (λ it. none_below q e other is was.1 is_key path (up ∙ ap (λ n. Some n) it)) up
      ∙ ap (λ n. Some n) (sym (parent_same q is))

  root_on : (m : ℕ) → m < k.maps → (with_cut sh child (length log)).node_at m [] ≡ Some (slice_index (set ws (slot_word p (nibble key k.seed d)) 0) (root_word k m))
  root_on m below =
      let root = slice_index ws (root_word k m) in
      let at = fine.roots m below in
      let l = fine.live m [] root at in
      unless_other child (sh.node_at m []) root
      (λ it. absurd (let deep : 0 ≡ suc d = ap length (sym l.2 ∙ ap sh.path_of it ∙ stub.way) ∙ tries.long k.seed (suc d) key in omega arith)) at
      ∙ ap (λ n. Some n) (sym (head (root_word k m) (omega arith)))

  cut_by : (q moment : ℕ) → sh.kind_of q ≡ 1 → (with_cut sh child (length log)).cut_of q ≡ Some moment → moment ≤ length log
  cut_by q moment is cut = elim (cases_eq q child) [
    | inl it ↦ let at = same_Some (length log) moment (sym cut_here ∙ ap shape.cut_of (sym it) ∙ cut) in omega arith
    | inr ne ↦ fine.cut q moment is (sym (cut_off q ne) ∙ cut)
  ]

  pub fine_cut : Fine k (with_cut sh child (length log)) log (set ws (slot_word p (nibble key k.seed d)) 0)
  fine_cut = record {
    wide = length-set ws (slot_word p (nibble key k.seed d)) 0 ∙ fine.wide;
    numbers = λ a kind at. let below = slice_get_within k.kinds a kind at in
        subst (λ n. IsNumber kind n (number_at (contents_after (start_of k) log) a)) (sym (head (atomic_word a) (omega arith))) (fine.numbers a kind at);
    headed = fine.headed;
    nodes = λ q is. let n = fine.nodes q is in record { lies = n.lies; within = n.within; words = n.words; map = n.map; level = n.level; key = n.key; below = n.below; is_key = n.is_key; path = n.path };
    leaves = λ q is. let l = fine.leaves q is in record { lies = l.lies; within = l.within; key_part = l.key_part; value_part = l.value_part; is_key = subst (λ n. n < 2 ^ 32) (sym (at_key q is)) l.is_key };
    roots = root_on;
    live = λ m path q at. let was = was_there child (sh.node_at m path) q at in let l = fine.live m path q was.0 in (l.0, l.1, l.2, cut_off q was.1 ∙ l.3);
    there = λ q is live. let was = live_was q live in unless_other child (sh.node_at (sh.map_of q) (sh.path_of q)) q was.0 (fine.there q is was.1);
    top = λ q is root. parent_same q is ∙ fine.top q is root;
    parent = parent_on;
    cut = cut_by;
    held = λ q is lives. let e = lock_same q is in fine.held q is (λ dead. lives (e ∙ dead)) ∙ sym e;
    dead = λ q i is dead below. slot_now (slot_word q i) (fine.dead q i is (sym (lock_same q is) ∙ dead) below);
    slots = slots_on;
  }

  pub gates_cut : (m : ℕ) → m < k.maps → Gated k sh ws m → Gated k (with_cut sh child (length log)) (set ws (slot_word p (nibble key k.seed d)) 0) m
  gates_cut m below g = record { word = head (gate_word k m) (omega arith) ∙ g.word; callers = g.callers; closers = g.closers }

  pub later_cut : Later sh (with_cut sh child (length log)) log log ws (set ws (slot_word p (nibble key k.seed d)) 0)
  later_cut = record {
    history = ([], sym (append-nil log));
    node = λ q is. is;
    map = λ q is. refl;
    path = λ q is. refl;
    cut = λ q moment is cut. cut_off q (cut_other q moment cut) ∙ cut;
    fresh = λ q moment is live cut. elim (cases_eq q child) [
      | inl it ↦ let at = same_Some (length log) moment (sym cut_here ∙ ap shape.cut_of (sym it) ∙ cut) in omega arith
      | inr ne ↦ absurd (none-some moment (sym live ∙ sym (cut_off q ne) ∙ cut))
    ];
    cut_word = λ q moment n is cut below. words.other_node k sh log ws p (slot_word p (nibble key k.seed d)) 0 fine stub.node from to q (q + n) is (λ e. none-some moment (sym stub.reachable ∙ ap sh.cut_of (sym e) ∙ cut)) (omega arith) (omega arith);
    parent = parent_same;
    dead = λ q is dead. lock_same q is ∙ dead;
    entry = λ q is. is;
    key = at_key;
    value = at_value;
  }

  pub was_reachable : (q : ℕ) → (with_cut sh child (length log)).cut_of q ≡ None → sh.cut_of q ≡ None
  was_reachable q reach = sym (cut_off q (other_reachable q reach)) ∙ reach

  -- whoever stands at the dead node finds it dead
  pub steady_cut : (q : ℕ) → sh.cut_of q ≡ None → ((with_cut sh child (length log)).cut_of q ≡ None) ⊎ (slice_index (set ws (slot_word p (nibble key k.seed d)) 0) q ≡ dead_word)
  steady_cut q live = elim (cases_eq q child) [
    | inl it ↦ inr (ap (slice_index now) it ∙ lock_same child stub.below ∙ stub.dead)
    | inr ne ↦ inl (cut_off q ne ∙ live)
  ]

  -- the caller holds both locks
  pub apart_cut : (c : ℕ) → sh.held_by p ≡ suc c → sh.held_by child ≡ suc c → Apart k c sh (with_cut sh child (length log)) ws (set ws (slot_word p (nibble key k.seed d)) 0)
  apart_cut c mine both = record {
    held = λ e q other is inside held. held;
    words = λ e q i other is inside held low high. words.other_node k sh log ws p (slot_word p (nibble key k.seed d)) 0 fine stub.node from to q i is (λ it. other (let n : suc e ≡ suc c = sym held ∙ ap sh.held_by it ∙ mine in omega arith)) low high;
    reachable = λ e q other is inside held live. cut_off q (λ it. other (let n : suc e ≡ suc c = sym held ∙ ap sh.held_by it ∙ both in omega arith)) ∙ live;
    steady = λ e q other is inside live. steady_cut q live;
    area = λ e i other theirs. theirs;
    unused = λ e i other lies theirs none_there. none_there;
    room = λ e i other lies theirs none_there. words.unused k sh log ws p (slot_word p (nibble key k.seed d)) 0 fine stub.node from to i none_there;
    inside = λ e m other. refl;
    closed = λ e m other closed. closed;
    alone = λ e m other closed alone. alone;
    unheld = λ e q other reach held. (was_reachable q reach, held);
    unclosed = λ e m other closed. closed;
  }

  -- a room is part of no node
  pub room_cut : (c : ℕ) (own : Own) → HasRoom k sh ws c own → HasRoom k (with_cut sh child (length log)) (set ws (slot_word p (nibble key k.seed d)) 0) c own
  room_cut c own h = record {
    lies = h.lies;
    within = h.within;
    mine = h.mine;
    unused = h.unused;
    words = λ n below. words.unused k sh log ws p (slot_word p (nibble key k.seed d)) 0 fine stub.node from to (own.next + n) (h.unused n below) ∙ h.words n below;
  }
