-- A word changes that is part of no node and no entry: a gate's, or one of a room. What the words mean stays.
use Rattle.std.proofs.Common.{◌≡◌, ◌≢◌, ℕ, suc, ◌+◌, ◌-◌, ◌*◌, ◌/◌, ◌^◌, ◌<◌, ◌≤◌, ◌==◌, Bool, false, cond, bit_xor, List, [], length, set, Some, None, slice_index, inl, refl, sym, ap, ◌∙◌, subst, arith, length-set, get_or-set_other}
use Rattle.std.proofs.Math.Nat.{mod-lt}
use Rattle.std.proofs.lemmas.List.{append-nil}
use Rattle.std.proofs.lemmas.Option.{none-some, slice_get_within}
use Rattle.sync_model.specs.declared.item.SharedEntry.{SharedEntry}
use Rattle.sync_model.specs.SharedHistory.{number_at, contents_after}
use Rattle.table_rule.specs.declared.begin.Begin.{Begin}
use Rattle.trie_nodes.specs.declared.slot.Slot.{Slot}
use Rattle.trie_nodes.specs.declared.slot.Slot.TheVariants.{Empty, Node, Entry}
use Rattle.trie_nodes.specs.Layout.{atomic_word, parent_word, slot_word}
use Rattle.trie_nodes.specs.Nodes.{Shows}
use Rattle.trie_nodes.specs.Paths.{nibble, route}
use Rattle.trie_nodes.specs.Slots.{slot_in}
use Rattle.table_rule.specs.Layout.{root_word, heads}
use Rattle.table_rule.specs.Shape.{Shape, start_of, held_at, time, IsNumber, IsBelow, ShowsAt, Fine}
use Rattle.table_words.proofs.Frames.{Later, Apart}

pub nibble_below : (key seed level : ℕ) → nibble key seed level < 16
unfolding nibble
nibble_below key seed level = mod-lt (bit_xor key seed / 2 ^ (4 * level)) (omega arith)

-- the same shape, with other writers inside the gates
abbrev pub with_inside : Shape → (ℕ → ℕ → Bool) → Shape
with_inside sh inside = record sh { inside = inside }

module _ (k : Begin) (sh : Shape) (log : List SharedEntry) (ws : List ℕ) (j x : ℕ) (inside : ℕ → ℕ → Bool) (fine : Fine k sh log ws) (free : sh.part_of j ≡ 0) (behind : length k.kinds < j) (no_root : (m : ℕ) → m < k.maps → root_word k m ≢ j) where
  abbrev pub new : Shape
  new = with_inside sh inside

  pub same : (i : ℕ) → i ≢ j → slice_index (set ws j x) i ≡ slice_index ws i
  same i ne = get_or-set_other ws j i x 0 ne

  -- no node's word
  pub in_node : (p i : ℕ) → sh.kind_of p ≡ 1 → p ≤ i → i < p + 18 → slice_index (set ws j x) i ≡ slice_index ws i
  in_node p i is from to = same i (λ e.
      let at : p + (i - p) ≡ i = omega arith in
      let part : sh.part_of i ≡ p = subst (λ n. sh.part_of n ≡ p) at ((fine.nodes p is).words (i - p) (omega arith)) in
      let none_there : p ≡ 0 = sym part ∙ ap sh.part_of e ∙ free in
      let lies = (fine.nodes p is).lies in
      absurd (omega arith))

  pub at_key : (p : ℕ) → sh.kind_of p ≡ 2 → slice_index (set ws j x) p ≡ slice_index ws p
  at_key p is = same p (λ e. let l = fine.leaves p is in let none_there : p ≡ 0 = sym l.key_part ∙ ap sh.part_of e ∙ free in let lies = l.lies in absurd (omega arith))

  pub at_value : (p : ℕ) → sh.kind_of p ≡ 2 → slice_index (set ws j x) (p + 1) ≡ slice_index ws (p + 1)
  at_value p is = same (p + 1) (λ e. let l = fine.leaves p is in let none_there : p ≡ 0 = sym l.value_part ∙ ap sh.part_of e ∙ free in let lies = l.lies in absurd (omega arith))

  pub later_out : Later sh (with_inside sh inside) log log ws (set ws j x)
  later_out = record {
    history = ([], sym (append-nil log));
    node = λ p is. is;
    map = λ p is. refl;
    path = λ p is. refl;
    cut = λ p moment is cut. cut;
    fresh = λ p moment is live cut. absurd (none-some moment (sym live ∙ cut));
    cut_word = λ p moment n is cut below. in_node p (p + n) is (omega arith) (omega arith);
    parent = λ p is. in_node p (parent_word p) is (omega arith) (omega arith);
    dead = λ p is dead. in_node p p is (omega arith) (omega arith) ∙ dead;
    entry = λ p is. is;
    key = at_key;
    value = at_value;
  }

  -- the word is in no other caller's room
  pub apart_out : (c : ℕ) → ((d i : ℕ) → d ≢ c → heads k ≤ i → sh.area_of i ≡ suc d → i ≢ j) → ((d m : ℕ) → d ≢ c → inside m d ≡ sh.inside m d)
      → ((d m : ℕ) → d ≢ c → sh.closed_by m ≡ suc d → ((e : ℕ) → sh.inside m e ≡ false) → (e : ℕ) → inside m e ≡ false) → Apart k c sh (with_inside sh inside) ws (set ws j x)
  apart_out c room inside_same alone = record {
    held = λ d p other is inside held. held;
    words = λ d p i other is inside held from to. in_node p i is from to;
    reachable = λ d p other is inside held live. live;
    steady = λ d p other is inside live. inl live;
    area = λ d i other mine. mine;
    unused = λ d i other lies mine none_there. none_there;
    room = λ d i other lies mine none_there. same i (room d i other lies mine);
    inside = inside_same;
    closed = λ d m other closed. closed;
    alone = alone;
    unheld = λ d p other reach held. (reach, held);
    unclosed = λ d m other closed. closed;
  }

  shows_on : (p d key w : ℕ) → ShowsAt k sh log ws p d key w → ShowsAt k (with_inside sh inside) log (set ws j x) p d key w
  shows_on p d key w at = record { shows = by_slot (slot_in w) at.entry at.shows; entry = at.entry; childless = at.childless }
    where
      by_slot : (slot : Slot) → ((place : ℕ) → slot ≡ Entry place → sh.kind_of place ≡ 2)
          → Shows ws k.seed (IsBelow k sh log ws p d key) d key (held_at k log (time sh log p) (sh.map_of p) key) slot
          → Shows (set ws j x) k.seed (IsBelow k (with_inside sh inside) log (set ws j x) p d key) d key (held_at k log (time sh log p) (sh.map_of p) key) slot
      by_slot Empty entry shows = shows
      by_slot (Node node) entry shows = shows
      by_slot (Entry place) entry shows =
          let is_entry = entry place refl in
          (ap (route k.seed (suc d)) (at_key place is_entry) ∙ shows.0, shows.1 ∙ sym (λ i. cond (at_key place is_entry i == key) (Some (at_value place is_entry i)) None))

  pub fine_out : Fine k (with_inside sh inside) log (set ws j x)
  fine_out = record {
    wide = length-set ws j x ∙ fine.wide;
    numbers = λ a kind at. let below = slice_get_within k.kinds a kind at in
        subst (λ n. IsNumber kind n (number_at (contents_after (start_of k) log) a)) (sym (same (atomic_word a) (λ e. absurd (omega arith)))) (fine.numbers a kind at);
    headed = fine.headed;
    nodes = λ p is. let n = fine.nodes p is in record { lies = n.lies; within = n.within; words = n.words; map = n.map; level = n.level; key = n.key; below = n.below; is_key = n.is_key; path = n.path };
    leaves = λ p is. let l = fine.leaves p is in record { lies = l.lies; within = l.within; key_part = l.key_part; value_part = l.value_part; is_key = subst (λ n. n < 2 ^ 32) (sym (at_key p is)) l.is_key };
    roots = λ m below. fine.roots m below ∙ ap (λ n. Some n) (sym (same (root_word k m) (no_root m below)));
    live = fine.live;
    there = fine.there;
    top = λ p is root. in_node p (parent_word p) is (omega arith) (omega arith) ∙ fine.top p is root;
    parent = λ p d key is live is_key path. fine.parent p d key is live is_key path ∙ ap (λ n. Some n) (sym (in_node p (parent_word p) is (omega arith) (omega arith)));
    cut = fine.cut;
    held = λ p is alive. let e = in_node p p is (omega arith) (omega arith) in fine.held p is (λ dead. alive (e ∙ dead)) ∙ sym e;
    dead = λ p i is dead below. in_node p (slot_word p i) is (omega arith) (omega arith) ∙ fine.dead p i is (sym (in_node p p is (omega arith) (omega arith)) ∙ dead) below;
    slots = λ p d key is level is_key path. let n = nibble_below key k.seed d in
        subst (ShowsAt k (with_inside sh inside) log (set ws j x) p d key) (sym (in_node p (slot_word p (nibble key k.seed d)) is (omega arith) (omega arith)))
        (shows_on p d key (slice_index ws (slot_word p (nibble key k.seed d))) (fine.slots p d key is level is_key path));
  }
