-- The lock word of a node changes: another holds it, or nobody.
use Rattle.std.proofs.Common.{◌≡◌, ◌≢◌, ℕ, suc, ◌+◌, ◌-◌, ◌^◌, ◌<◌, ◌≤◌, ◌==◌, eq-eqb, Bool, true, false, cond, List, [], set, Some, None, slice_index, inl, inr, refl, sym, ap, ◌∙◌, subst, arith, length-set}
use Rattle.std.proofs.lemmas.Bool.{cases_eq, eqb-true}
use Rattle.std.proofs.lemmas.List.{append-nil}
use Rattle.std.proofs.lemmas.Option.{none-some, slice_get_within}
use Rattle.sync_model.specs.declared.item.SharedEntry.{SharedEntry}
use Rattle.sync_model.specs.SharedHistory.{number_at, contents_after}
use Rattle.table_rule.specs.declared.begin.Begin.{Begin}
use Rattle.trie_nodes.specs.declared.slot.Slot.{Slot}
use Rattle.trie_nodes.specs.declared.slot.Slot.TheVariants.{Empty, Node, Entry}
use Rattle.trie_nodes.specs.Layout.{atomic_word, parent_word, slot_word, dead_word}
use Rattle.trie_nodes.specs.Nodes.{Shows}
use Rattle.trie_nodes.specs.Paths.{nibble, route}
use Rattle.trie_nodes.specs.Slots.{slot_in}
use Rattle.table_rule.specs.declared.view.Own.{Own}
use Rattle.table_rule.specs.Gates.{Gated}
use Rattle.table_rule.specs.Layout.{root_word, gate_word, heads}
use Rattle.table_rule.specs.Owed.{HasRoom}
use Rattle.table_rule.specs.Shape.{Shape, start_of, held_at, time, IsNumber, IsBelow, ShowsAt, Fine}
use Rattle.table_words.proofs.Frames.{Later, Apart}
use Rattle.table_words.proofs.NodeWords as words
use Rattle.table_words.proofs.Outside.{nibble_below}

-- the same shape, with another holder of a node's lock
abbrev pub with_holder : Shape → ℕ → ℕ → Shape
with_holder sh node holder = record sh { held_by = λ p. cond (p == node) holder (sh.held_by p) }

pub holder_of : (sh : Shape) (node holder : ℕ) → (with_holder sh node holder).held_by node ≡ holder
holder_of sh node holder = ap (λ b. cond b holder (sh.held_by node)) (eq-eqb node node refl)

pub other_holder : (sh : Shape) (node holder p : ℕ) → p ≢ node → (with_holder sh node holder).held_by p ≡ sh.held_by p
other_holder sh node holder p ne = by_test (p == node) refl
  where
    by_test : (b : Bool) → (p == node) ≡ b → cond b holder (sh.held_by p) ≡ sh.held_by p
    by_test true e = absurd (ne (eqb-true p node e))
    by_test false e = refl

module _ (k : Begin) (sh : Shape) (log : List SharedEntry) (ws : List ℕ) (node x holder : ℕ) (fine : Fine k sh log ws) (is_node : sh.kind_of node ≡ 1) (holds : x ≢ dead_word → holder ≡ x)
    (empty : x ≡ dead_word → (i : ℕ) → i < 16 → slice_index ws (slot_word node i) ≡ 0) where
  from : node ≤ node
  from = omega arith

  to : node < node + 18
  to = omega arith

  same : (i : ℕ) → i ≢ node → slice_index (set ws node x) i ≡ slice_index ws i
  same = words.same k sh log ws node node x fine is_node from to

  pub here : slice_index (set ws node x) node ≡ x
  here = words.here k sh log ws node node x fine is_node from to

  pub unused : (i : ℕ) → sh.part_of i ≡ 0 → slice_index (set ws node x) i ≡ slice_index ws i
  unused = words.unused k sh log ws node node x fine is_node from to

  -- a word of a node behind its lock
  pub behind : (p i : ℕ) → sh.kind_of p ≡ 1 → p < i → i < p + 18 → slice_index (set ws node x) i ≡ slice_index ws i
  behind p i is past within = let at : p + (i - p) ≡ i = omega arith in
      subst (λ n. slice_index (set ws node x) n ≡ slice_index ws n) at (words.word_off k sh log ws node node x fine is_node from to p (i - p) is (omega arith) (λ e. absurd (omega arith)))

  pub other_node : (p i : ℕ) → sh.kind_of p ≡ 1 → p ≢ node → p ≤ i → i < p + 18 → slice_index (set ws node x) i ≡ slice_index ws i
  other_node = words.other_node k sh log ws node node x fine is_node from to

  at_key : (p : ℕ) → sh.kind_of p ≡ 2 → slice_index (set ws node x) p ≡ slice_index ws p
  at_key = words.at_key k sh log ws node node x fine is_node from to

  at_value : (p : ℕ) → sh.kind_of p ≡ 2 → slice_index (set ws node x) (p + 1) ≡ slice_index ws (p + 1)
  at_value = words.at_value k sh log ws node node x fine is_node from to

  head : (i : ℕ) → i < heads k → slice_index (set ws node x) i ≡ slice_index ws i
  head = words.head k sh log ws node node x fine is_node from to

  pub gates_hold : (m : ℕ) → m < k.maps → Gated k sh ws m → Gated k (with_holder sh node holder) (set ws node x) m
  gates_hold m below g = record { word = head (gate_word k m) (omega arith) ∙ g.word; callers = g.callers; closers = g.closers }

  pub later_hold : slice_index ws node ≢ dead_word → sh.cut_of node ≡ None → Later sh (with_holder sh node holder) log log ws (set ws node x)
  later_hold alive reach = record {
    history = ([], sym (append-nil log));
    node = λ p is. is;
    map = λ p is. refl;
    path = λ p is. refl;
    cut = λ p moment is cut. cut;
    fresh = λ p moment is live cut. absurd (none-some moment (sym live ∙ cut));
    cut_word = λ p moment n is cut below. other_node p (p + n) is (λ e. none-some moment (sym reach ∙ ap sh.cut_of (sym e) ∙ cut)) (omega arith) (omega arith);
    parent = λ p is. behind p (parent_word p) is (omega arith) (omega arith);
    dead = λ p is dead. same p (λ e. alive (ap (slice_index ws) (sym e) ∙ dead)) ∙ dead;
    entry = λ p is. is;
    key = at_key;
    value = at_value;
  }

  pub apart_hold : (c : ℕ) → ((d : ℕ) → d ≢ c → sh.held_by node ≢ suc d) → ((d : ℕ) → d ≢ c → holder ≢ suc d) → Apart k c sh (with_holder sh node holder) ws (set ws node x)
  apart_hold c nobody_else mine_now =
      let elsewhere_held : (d p : ℕ) → d ≢ c → sh.held_by p ≡ suc d → p ≢ node = (λ d p other held e. nobody_else d other (ap sh.held_by (sym e) ∙ held)) in record {
        held = λ d p other is inside held. other_holder sh node holder p (elsewhere_held d p other held) ∙ held;
        words = λ d p i other is inside held from to. other_node p i is (elsewhere_held d p other held) from to;
        reachable = λ d p other is inside held live. live;
        steady = λ d p other is inside live. inl live;
        area = λ d i other mine. mine;
        unused = λ d i other lies mine none_there. none_there;
        room = λ d i other lies at none_there. unused i none_there;
        inside = λ d m other. refl;
        closed = λ d m other closed. closed;
        alone = λ d m other closed alone. alone;
        unheld = λ d p other reach held. elim (cases_eq p node) [
          | inl e ↦ absurd (mine_now d other (sym (holder_of sh node holder) ∙ ap (with_holder sh node holder).held_by (sym e) ∙ held))
          | inr ne ↦ (reach, sym (other_holder sh node holder p ne) ∙ held)
        ];
        unclosed = λ d m other closed. closed;
      }

  shows_on : (p d key w : ℕ) → ShowsAt k sh log ws p d key w → ShowsAt k (with_holder sh node holder) log (set ws node x) p d key w
  shows_on p d key w at = record { shows = by_slot (slot_in w) at.entry at.shows; entry = at.entry; childless = at.childless }
    where
      by_slot : (slot : Slot) → ((place : ℕ) → slot ≡ Entry place → sh.kind_of place ≡ 2)
          → Shows ws k.seed (IsBelow k sh log ws p d key) d key (held_at k log (time sh log p) (sh.map_of p) key) slot
          → Shows (set ws node x) k.seed (IsBelow k (with_holder sh node holder) log (set ws node x) p d key) d key (held_at k log (time sh log p) (sh.map_of p) key) slot
      by_slot Empty entry shows = shows
      by_slot (Node below) entry shows = shows
      by_slot (Entry place) entry shows =
          let is_entry = entry place refl in
          (ap (route k.seed (suc d)) (at_key place is_entry) ∙ shows.0, shows.1 ∙ sym (λ i. cond (at_key place is_entry i == key) (Some (at_value place is_entry i)) None))

  held_on : (p : ℕ) → sh.kind_of p ≡ 1 → slice_index (set ws node x) p ≢ dead_word → (with_holder sh node holder).held_by p ≡ slice_index (set ws node x) p
  held_on p is alive = elim (cases_eq p node) [
    | inl e ↦ subst (λ n. slice_index (set ws node x) n ≢ dead_word → (with_holder sh node holder).held_by n ≡ slice_index (set ws node x) n) (sym e)
        (λ living. holder_of sh node holder ∙ holds (λ dead. living (here ∙ dead)) ∙ sym here) alive
    | inr ne ↦ let e = same p ne in other_holder sh node holder p ne ∙ fine.held p is (λ dead. alive (e ∙ dead)) ∙ sym e
  ]

  dead_on : (p i : ℕ) → sh.kind_of p ≡ 1 → slice_index (set ws node x) p ≡ dead_word → i < 16 → slice_index (set ws node x) (slot_word p i) ≡ 0
  dead_on p i is dead below = behind p (slot_word p i) is (omega arith) (omega arith) ∙ elim (cases_eq p node) [
    | inl e ↦ subst (λ n. slice_index (set ws node x) n ≡ dead_word → slice_index ws (slot_word n i) ≡ 0) (sym e) (λ now. empty (sym here ∙ now) i below) dead
    | inr ne ↦ fine.dead p i is (sym (same p ne) ∙ dead) below
  ]

  pub fine_hold : Fine k (with_holder sh node holder) log (set ws node x)
  fine_hold = record {
    wide = length-set ws node x ∙ fine.wide;
    numbers = λ a kind at. let below = slice_get_within k.kinds a kind at in
        subst (λ n. IsNumber kind n (number_at (contents_after (start_of k) log) a)) (sym (head (atomic_word a) (omega arith))) (fine.numbers a kind at);
    headed = fine.headed;
    nodes = λ p is. let n = fine.nodes p is in record { lies = n.lies; within = n.within; words = n.words; map = n.map; level = n.level; key = n.key; below = n.below; is_key = n.is_key; path = n.path };
    leaves = λ p is. let l = fine.leaves p is in record { lies = l.lies; within = l.within; key_part = l.key_part; value_part = l.value_part; is_key = subst (λ n. n < 2 ^ 32) (sym (at_key p is)) l.is_key };
    roots = λ m below. fine.roots m below ∙ ap (λ n. Some n) (sym (head (root_word k m) (omega arith)));
    live = fine.live;
    there = fine.there;
    top = λ p is root. behind p (parent_word p) is (omega arith) (omega arith) ∙ fine.top p is root;
    parent = λ p d key is live is_key path. fine.parent p d key is live is_key path ∙ ap (λ n. Some n) (sym (behind p (parent_word p) is (omega arith) (omega arith)));
    cut = fine.cut;
    held = held_on;
    dead = dead_on;
    slots = λ p d key is level is_key path. let n = nibble_below key k.seed d in
        subst (ShowsAt k (with_holder sh node holder) log (set ws node x) p d key) (sym (behind p (slot_word p (nibble key k.seed d)) is (omega arith) (omega arith)))
        (shows_on p d key (slice_index ws (slot_word p (nibble key k.seed d))) (fine.slots p d key is level is_key path));
  }

  -- a room is part of no node
  pub room_hold : (c : ℕ) (own : Own) → HasRoom k sh ws c own → HasRoom k (with_holder sh node holder) (set ws node x) c own
  room_hold c own h = record {
    lies = h.lies;
    within = h.within;
    mine = h.mine;
    unused = h.unused;
    words = λ n below. unused (own.next + n) (h.unused n below) ∙ h.words n below;
  }
