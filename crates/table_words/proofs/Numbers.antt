-- An atomic's word changes: the shape stays.
use Rattle.std.proofs.Common.{◌≡◌, ◌≢◌, ℕ, suc, ◌+◌, ◌^◌, ◌<◌, ◌≤◌, ◌==◌, false, cond, List, length, set, get_or, Option, Some, None, slice_get, slice_index, inl, inr, refl, sym, ap, ◌∙◌, subst, arith, length-set, get_or-set_same, get_or-set_other}
use Rattle.std.proofs.lemmas.Bool.{cases_eq}
use Rattle.std.proofs.lemmas.List.{length-map}
use Rattle.std.proofs.lemmas.Option.{same_Some, slice_get_within}
use Rattle.std.specs.FinMap.{empty, get}
use Rattle.std.specs.Prelude.{slice_index_or}
use Rattle.sync_types.specs.declared.atomic_object.AtomicKind.{AtomicKind}
use Rattle.sync_types.specs.declared.atomic_object.Number.{Number}
use Rattle.sync_types.specs.declared.atomic_object.Number.TheVariants.{Bool as Truth}
use Rattle.sync_model.specs.declared.item.SharedEntry.{SharedEntry}
use Rattle.sync_model.specs.Journal.{Begins}
use Rattle.sync_types.specs.SequentialAtomic.{zero_of}
use Rattle.sync_model.specs.SharedHistory.{value_at, number_at, contents_after}
use Rattle.table_rule.specs.declared.begin.Begin.{Begin}
use Rattle.table_rule.specs.Gates.{Gated}
use Rattle.table_words.specs.Laws.{HistoryLaws}
use Rattle.trie_nodes.specs.Layout.{atomic_word, parent_word, slot_word}
use Rattle.table_rule.specs.Layout.{root_word, gate_word}
use Rattle.trie_nodes.specs.declared.slot.Slot.{Slot}
use Rattle.trie_nodes.specs.declared.slot.Slot.TheVariants.{Empty, Node, Entry}
use Rattle.trie_nodes.specs.Nodes.{entry_value, Shows}
use Rattle.trie_nodes.specs.Slots.{slot_in}
use Rattle.trie_nodes.specs.Paths.{nibble, route}
use Rattle.table_rule.specs.Shape.{Shape, start_of, held_at, till, time, IsNumber, IsBelow, ShowsAt, Fine}
use Rattle.table_words.proofs.Frames.{Later, Apart}
use Rattle.table_words.proofs.Ledgers.{longer}

module _ (k : Begin) (laws : HistoryLaws) (sh : Shape) (log log' : List SharedEntry) (ws : List ℕ) (a word : ℕ) (kind : AtomicKind) (at : slice_get k.kinds a ≡ Some kind) (fine : Fine k sh log ws) where
  abbrev changed : List ℕ
  changed = set ws (atomic_word a) word

  below : a < length k.kinds
  below = slice_get_within k.kinds a kind at

  same : (i : ℕ) → i ≢ atomic_word a → slice_index (set ws (atomic_word a) word) i ≡ slice_index ws i
  same i ne = get_or-set_other ws (atomic_word a) i word 0 ne

  -- the heads of maps and all blocks stay
  pub behind : (i : ℕ) → length k.kinds < i → slice_index (set ws (atomic_word a) word) i ≡ slice_index ws i
  behind i lies = let inside = below in same i (λ e. omega arith)

  here : slice_index (set ws (atomic_word a) word) (atomic_word a) ≡ word
  here = let wide = fine.wide in let inside = below in get_or-set_same ws (atomic_word a) word 0 (omega arith)

  in_node : (p i : ℕ) → sh.kind_of p ≡ 1 → p ≤ i → slice_index (set ws (atomic_word a) word) i ≡ slice_index ws i
  in_node p i is from = let lies = (fine.nodes p is).lies in behind i (omega arith)

  in_entry : (p i : ℕ) → sh.kind_of p ≡ 2 → p ≤ i → slice_index (set ws (atomic_word a) word) i ≡ slice_index ws i
  in_entry p i is from = let lies = (fine.leaves p is).lies in behind i (omega arith)

  pub gates_on : (m : ℕ) → m < k.maps → Gated k sh ws m → Gated k sh (set ws (atomic_word a) word) m
  gates_on m inside g = record { word = behind (gate_word k m) (omega arith) ∙ g.word; callers = g.callers; closers = g.closers }

  pub apart_on : (c : ℕ) → Apart k c sh sh ws (set ws (atomic_word a) word)
  apart_on c = record {
    held = λ d p other is inside held. held;
    words = λ d p i other is inside held from to. in_node p i is from;
    reachable = λ d p other is inside held live. live;
    steady = λ d p other is inside live. inl live;
    area = λ d i other mine. mine;
    unused = λ d i other lies mine none_there. none_there;
    room = λ d i other lies mine none_there. behind i (omega arith);
    inside = λ d m other. refl;
    closed = λ d m other closed. closed;
    alone = λ d m other closed alone. alone;
    unheld = λ d p other reach held. (reach, held);
    unclosed = λ d m other closed. closed;
  }

  module _ (history : Begins log' log) where
    pub later_on : Later sh sh log log' ws (set ws (atomic_word a) word)
    later_on = record {
      history = history;
      node = λ p is. is;
      map = λ p is. refl;
      path = λ p is. refl;
      cut = λ p moment is cut. cut;
      fresh = λ p moment is live cut. absurd (let e : None ≡ Some moment = sym live ∙ cut in (cc));
      cut_word = λ p moment n is cut below. in_node p (p + n) is (omega arith);
      parent = λ p is. in_node p (parent_word p) is (omega arith);
      dead = λ p is dead. in_node p p is (omega arith) ∙ dead;
      entry = λ p is. is;
      key = λ p is. in_entry p p is (omega arith);
      value = λ p is. in_entry p (p + 1) is (omega arith);
    }

    module _ (number : Number) (maps : (contents_after (start_of k) log').maps ≡ (contents_after (start_of k) log).maps)
        (numbers : (contents_after (start_of k) log').numbers ≡ set (contents_after (start_of k) log).numbers a number) where
      held_same : (p m key : ℕ) → sh.kind_of p ≡ 1 → held_at k log' (time sh log' p) m key ≡ held_at k log (time sh log p) m key
      held_same p m key is = by_cut (sh.cut_of p) refl
        where
          by_cut : (o : Option ℕ) → sh.cut_of p ≡ o → held_at k log' (till o (length log')) m key ≡ held_at k log (till o (length log)) m key
          by_cut None e =
              ap (λ contents. value_at contents m key) (laws.contents_all (start_of k) log' (length log') (omega arith))
              ∙ ap (λ held. get (slice_index_or held m empty) key) maps
              ∙ sym (ap (λ contents. value_at contents m key) (laws.contents_all (start_of k) log (length log) (omega arith)))
          by_cut (Some t) e =
              ap (λ h. held_at k h t m key) history.1 ∙ ap (λ contents. value_at contents m key) (laws.contents_same (start_of k) log history.0 t (fine.cut p t is e))

      value_same : (q key : ℕ) → sh.kind_of q ≡ 2 → entry_value (set ws (atomic_word a) word) q key ≡ entry_value ws q key
      value_same q key is = λ i. cond (in_entry q q is (omega arith) i == key) (Some (in_entry q (q + 1) is (omega arith) i)) None

      shows_on : (p d key w : ℕ) → sh.kind_of p ≡ 1 → ShowsAt k sh log ws p d key w → ShowsAt k sh log' (set ws (atomic_word a) word) p d key w
      shows_on p d key w is at = record { shows = by_slot (slot_in w) at.entry at.shows; entry = at.entry; childless = at.childless }
        where
          now : held_at k log' (time sh log' p) (sh.map_of p) key ≡ held_at k log (time sh log p) (sh.map_of p) key
          now = held_same p (sh.map_of p) key is

          by_slot : (slot : Slot) → ((place : ℕ) → slot ≡ Entry place → sh.kind_of place ≡ 2)
              → Shows ws k.seed (IsBelow k sh log ws p d key) d key (held_at k log (time sh log p) (sh.map_of p) key) slot
              → Shows (set ws (atomic_word a) word) k.seed (IsBelow k sh log' (set ws (atomic_word a) word) p d key) d key (held_at k log' (time sh log' p) (sh.map_of p) key) slot
          by_slot Empty entry shows = now ∙ shows
          by_slot (Node node) entry shows = shows
          by_slot (Entry place) entry shows = let is_entry = entry place refl in (ap (route k.seed (suc d)) (in_entry place place is_entry (omega arith)) ∙ shows.0, now ∙ shows.1 ∙ sym (value_same place key is_entry))

      numbers_on : IsNumber kind word number → (b : ℕ) (other : AtomicKind) → slice_get k.kinds b ≡ Some other → IsNumber other (slice_index (set ws (atomic_word a) word) (atomic_word b)) (number_at (contents_after (start_of k) log') b)
      numbers_on now b other at_b = elim (cases_eq b a) [
        | inl e ↦ mine e
        | inr ne ↦ others ne
      ]
        where
          mine : b ≡ a → IsNumber other (slice_index (set ws (atomic_word a) word) (atomic_word b)) (number_at (contents_after (start_of k) log') b)
          mine e =
              let same_kind : kind ≡ other = same_Some kind other (sym at ∙ ap (slice_get k.kinds) (sym e) ∙ at_b) in
              let inside = below in
              let long = laws.numbers_long (start_of k) log in
              let kinds = length-map k.kinds zero_of in
              let held : number_at (contents_after (start_of k) log') a ≡ number = ap (λ ns. get_or ns a (Truth false)) numbers ∙ get_or-set_same (contents_after (start_of k) log).numbers a number (Truth false) (omega arith) in
              subst (λ (n : ℕ). IsNumber other (slice_index (set ws (atomic_word a) word) (atomic_word n)) (number_at (contents_after (start_of k) log') n)) (sym e)
              (subst (λ (x : ℕ × Number). IsNumber other x.0 x.1) (λ i. (sym here i, sym held i)) (subst (λ z. IsNumber z word number) same_kind now))

          others : b ≢ a → IsNumber other (slice_index (set ws (atomic_word a) word) (atomic_word b)) (number_at (contents_after (start_of k) log') b)
          others ne =
              let was = fine.numbers b other at_b in
              let word_is = same (atomic_word b) (λ e. ne (omega arith)) in
              let held : number_at (contents_after (start_of k) log') b ≡ number_at (contents_after (start_of k) log) b = ap (λ ns. get_or ns b (Truth false)) numbers ∙ get_or-set_other (contents_after (start_of k) log).numbers a b number (Truth false) ne in
              subst (λ (x : ℕ × Number). IsNumber other x.0 x.1) (λ i. (sym word_is i, sym held i)) was

      pub fine_on : IsNumber kind word number → Fine k sh log' (set ws (atomic_word a) word)
      fine_on now = record {
        wide = length-set ws (atomic_word a) word ∙ fine.wide;
        numbers = numbers_on now;
        headed = fine.headed;
        nodes = fine.nodes;
        leaves = λ p is. let l = fine.leaves p is in record { lies = l.lies; within = l.within; key_part = l.key_part; value_part = l.value_part; is_key = subst (λ n. n < 2 ^ 32) (sym (in_entry p p is (omega arith))) l.is_key };
        roots = λ m inside. fine.roots m inside ∙ ap (λ n. Some n) (sym (behind (root_word k m) (omega arith)));
        live = fine.live;
        there = fine.there;
        top = λ p is root. in_node p (parent_word p) is (omega arith) ∙ fine.top p is root;
        parent = λ p d key is live is_key path. fine.parent p d key is live is_key path ∙ ap (λ n. Some n) (sym (in_node p (parent_word p) is (omega arith)));
        cut = λ p moment is cut. let was = fine.cut p moment is cut in let up = longer log log' history in omega arith;
        held = λ p is alive. let e = in_node p p is (omega arith) in fine.held p is (λ dead. alive (e ∙ dead)) ∙ sym e;
        dead = λ p i is dead inside. in_node p (slot_word p i) is (omega arith) ∙ fine.dead p i is (sym (in_node p p is (omega arith)) ∙ dead) inside;
        slots = λ p d key is level is_key path. subst (ShowsAt k sh log' (set ws (atomic_word a) word) p d key) (sym (in_node p (slot_word p (nibble key k.seed d)) is (omega arith)))
            (shows_on p d key (slice_index ws (slot_word p (nibble key k.seed d))) is (fine.slots p d key is level is_key path));
      }
