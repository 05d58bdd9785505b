-- A seat may publish its call's change, in each of the three ways, whatever the table is.
use Rattle.std.proofs.Common.{◌≡◌, ◌≢◌, inl, inr, ℕ, ◌+◌, ◌-◌, ◌*◌, ◌^◌, ◌<◌, ◌≤◌, ◌==◌, true, cond, List, length, set, Option, Some, None, slice_index, refl, sym, ap, ◌∙◌, subst, arith}
use Rattle.std.proofs.lemmas.Option.{none-some, same_Some}
use mathlib.Core.Option.{some}
use lib.ListN.{get_elem?}
use Rattle.atomic_table.specs.Table.{Me, keeps, Allows}
use Rattle.sync_model.specs.declared.item.SharedCall.TheVariants as calls
use Rattle.sync_model.specs.declared.item.SharedReply.TheVariants as replies
use Rattle.sync_types.specs.declared.map_object.MapCall.{MapCall}
use Rattle.sync_model.specs.Shared.{Called, cost_of}
use Rattle.sync_model.specs.SharedHistory.{value_at, contents_after}
use Rattle.table_rule.specs.declared.begin.Begin.{Begin}
use Rattle.table_rule.specs.declared.view.Leaf.{Leaf}
use Rattle.table_rule.specs.declared.view.Lock.{Lock}
use Rattle.table_rule.specs.declared.view.Own.{Own}
use Rattle.table_rule.specs.declared.view.View.{View}
use Rattle.sync_types.specs.KeyCalls.{is_key_entry, key_reply, key_after}
use Rattle.table_words.specs.Laws.{HistoryLaws}
use Rattle.trie_nodes.specs.declared.slot.Slot.{Slot}
use Rattle.trie_nodes.specs.declared.slot.Slot.TheVariants.{Empty, Node, Entry}
use Rattle.trie_nodes.specs.Layout.{slot_word}
use Rattle.trie_nodes.specs.Nodes.{Shows, entry_value}
use Rattle.trie_nodes.specs.Paths.{nibble}
use Rattle.trie_nodes.specs.Slots.{slot_in}
use Rattle.table_rule.specs.Making.{leaf_value, HasLeaf, Sees, Removes, Stores, Expands, Makes, MayPublish, bare, used_in, Publishes}
use Rattle.table_rule.specs.Owed.{Locks}
use Rattle.table_rule.specs.Rule.{TableState, Kept}
use Rattle.table_rule.specs.Shape.{start_of, held_at, till, time, IsBelow, ShowsAt, Fine}
use Rattle.table_words.specs.TrieLaws.{TrieLaws}
use Rattle.table_rule.specs.Units.{with_unit}
use Rattle.table_rule.specs.Views.{with_item, paid, spend, called_view, view_state}
use Rattle.table_words.proofs.Chains as chains
use Rattle.table_words.proofs.Published as published
use Rattle.table_words.proofs.Stores as stores
use Rattle.table_words.proofs.Placing.{call_number}

-- the cost of a call that writes
paid_is : (cost words : ℕ) (owns : List Own) → cost ≡ 1 → paid cost words owns ≡ spend words owns
paid_is cost words owns e = ap (λ c. paid c words owns) e

-- one more than nothing is not a node
no_node : (found : Slot) (leaf : Option Leaf) (below : ℕ) → HasLeaf found leaf → found ≢ Node below
no_node Empty leaf below has e = absurd (cc)
no_node (Node node) leaf below has e = has
no_node (Entry place) leaf below has e = absurd (cc)

module _ (k : Begin) (laws : HistoryLaws) (tries : TrieLaws) (s : TableState) (r : Kept k s) (id : ℕ) (v : View) (at_me : get_elem? s.views id ≡ some v) (call : MapCall ℕ) (m : ℕ) (l : Lock) (x : ℕ) (may : MayPublish k v call m l x) where
  sees : Sees k v may.own may.owns l m may.found
  sees = may.sees

  level : l.level < 8
  level = ((r.suits id v at_me sees.live).lock l sees.locked).2.level

  ready_for : (nodes : ℕ) → l.level + nodes < 8 → length may.own.draft ≤ 2 + 18 * nodes → published.IsReady k v may.own may.owns l m sees.word nodes
  ready_for nodes few short = record {
    live = sees.live;
    is = sees.is;
    locked = sees.locked;
    living = sees.living;
    alone = sees.alone;
    inside = sees.inside;
    found = sees.found_is;
    leaf = λ below e. no_node may.found v.leaf below sees.shows (sees.slot_is ∙ e);
    few = few;
    spare = sees.spare;
    short = short;
  }

  -- the call is made
  abbrev Then : Type 0
  Then = (w : View) × Kept k record { words = set s.words (slot_word l.node (nibble l.key k.seed l.level)) x; homes = s.homes; views = set s.views id w } × Makes m call (key_reply call (leaf_value v.leaf l.key)) (used_in v.owns) None (Some (bare l)) v w

  -- what the key has is what the slot shows
  module _ (nodes : ℕ) (few : l.level + nodes < 8) (short : length may.own.draft ≤ 2 + 18 * nodes) where
    ready : published.IsReady k v may.own may.owns l m sees.word nodes
    ready = ready_for nodes few short

    locks : Locks k r.shape s.words v.number m l
    locks = published.locks k laws tries s r id v at_me may.own may.owns l m sees.word nodes ready

    was : ShowsAt k r.shape r.log s.words l.node l.level l.key sees.word
    was = subst (ShowsAt k r.shape r.log s.words l.node l.level l.key) (published.slot_is k laws tries s r id v at_me may.own may.owns l m sees.word nodes ready) (r.fine.slots l.node l.level l.key locks.node locks.level locks.key locks.path)

    held : Option ℕ
    held = value_at (contents_after (start_of k) r.log) m l.key

    held_then : held_at k r.log (time r.shape r.log l.node) (r.shape.map_of l.node) l.key ≡ value_at (contents_after (start_of k) r.log) m l.key
    held_then = (λ i. held_at k r.log (till (locks.reachable i) (length r.log)) (locks.map i) l.key) ∙ ap (λ z. value_at z m l.key) (laws.contents_all (start_of k) r.log (length r.log) (omega arith))

    held_is : value_at (contents_after (start_of k) r.log) m l.key ≡ leaf_value v.leaf l.key
    held_is = sym held_then ∙ by_found may.found sees.shows (subst (λ f. Shows s.words k.seed (IsBelow k r.shape r.log s.words l.node l.level l.key) l.level l.key (held_at k r.log (time r.shape r.log l.node) (r.shape.map_of l.node) l.key) f) (sym sees.slot_is) was.shows)
      where
        by_found : (f : Slot) → HasLeaf f v.leaf → Shows s.words k.seed (IsBelow k r.shape r.log s.words l.node l.level l.key) l.level l.key (held_at k r.log (time r.shape r.log l.node) (r.shape.map_of l.node) l.key) f
            → held_at k r.log (time r.shape r.log l.node) (r.shape.map_of l.node) l.key ≡ leaf_value v.leaf l.key
        by_found Empty has shows = shows ∙ ap (λ o. leaf_value o l.key) (sym has)
        by_found (Node below) has shows = absurd has
        by_found (Entry place) has shows =
            let e = has.0 in
            let words = (r.suits id v at_me sees.live).leaf e has.1 in
            shows.1 ∙ (λ i. entry_value s.words (sym has.2 i) l.key) ∙ (λ i. cond (words.key i == l.key) (Some (words.value i)) None) ∙ ap (λ o. leaf_value o l.key) (sym has.1)

    is_entry : is_key_entry call (value_at (contents_after (start_of k) r.log) m l.key) ≡ true
    is_entry = ap (is_key_entry call) held_is ∙ may.is_entry

    -- the words of the entry that stands in the slot
    entry_words : (place : ℕ) → slot_in sees.word ≡ Entry place → (e : Leaf) × (v.leaf ≡ Some e) × (e.place ≡ place) × (slice_index s.words place ≡ e.key)
    entry_words place is = by_found may.found sees.shows (sees.slot_is ∙ is)
      where
        by_found : (f : Slot) → HasLeaf f v.leaf → f ≡ Entry place → (e : Leaf) × (v.leaf ≡ Some e) × (e.place ≡ place) × (slice_index s.words place ≡ e.key)
        by_found Empty has e = absurd (cc)
        by_found (Node below) has e = absurd has
        by_found (Entry other) has e =
            let l_place : has.0.place ≡ place = has.2 ∙ stores.entry_place other place e in
            let words = (r.suits id v at_me sees.live).leaf has.0 has.1 in
            (has.0, has.1, l_place, ap (slice_index s.words) (sym l_place) ∙ words.key)

    abbrev view_after : View
    view_after = published.view_after k laws tries s r id v at_me may.own may.owns l m sees.word nodes ready call may.on is_entry

    done : Fine k (with_unit r.shape k.seed m l.level l.key may.own.next nodes) (stores.log k laws tries s r id v at_me may.own may.owns l m sees.word nodes ready call may.on is_entry) (set s.words (slot_word l.node (nibble l.key k.seed l.level)) x) → 2 + 18 * nodes ≡ used_in v.owns → Then
    done fine used =
        let item = published.item k laws tries s r id v at_me may.own may.owns l m sees.word nodes ready call may.on is_entry in
        let time = call_number k s r v (length r.log) in
        let called = published.is_called k laws tries s r id v at_me may.own may.owns l m sees.word nodes ready call may.on is_entry in (
          view_after,
          published.kept_published k laws tries s r id v at_me may.own may.owns l m sees.word nodes ready call may.on is_entry may.values x fine,
          record {
            item = item;
            time = time;
            seen = stores.log k laws tries s r id v at_me may.own may.owns l m sees.word nodes ready call may.on is_entry;
            is = ap (λ o. record (called_view v o (stores.log k laws tries s r id v at_me may.own may.owns l m sees.word nodes ready call may.on is_entry) time) { walk = None; leaf = None; lock = Some (bare l) })
                (ap (λ o. spend (2 + 18 * nodes) (with_item o item time)) (sym sees.is) ∙ ap (λ n. spend n (with_item v.owns item time)) used ∙ sym (paid_is (cost_of call) (used_in v.owns) (with_item v.owns item time) may.costs));
            called = subst (λ (z : Begin × Option ℕ × ℕ). Called (start_of z.0) (calls.Map m call) (replies.Map (key_reply call z.1)) z.2 (view_state v) (view_state view_after)) (λ i. (sym sees.begin i, held_is i, sym may.costs i)) called;
            looks = published.looks_then k laws tries s r id v at_me may.own may.owns l m sees.word nodes ready call may.on is_entry may.values sees.begin;
          },
        )

  used : used_in v.owns ≡ 2 + (length may.own.draft - 2)
  used = ap used_in sees.is

  few_none : l.level + 0 < 8
  few_none = let below = level in omega arith

  by_removes : Removes may.own v.leaf l call x → Then
  by_removes w =
      let none_drafted : length may.own.draft ≡ 0 = ap length w.draft in
      let short : length may.own.draft ≤ 2 + 18 * 0 = omega arith in
      let used_is = used in
      done 0 few_none short (stores.removes k laws tries s r id v at_me may.own may.owns l m sees.word 0 (ready 0 few_none short) call may.on (is_entry 0 few_none short) x
      (λ place is. let e = entry_words 0 few_none short place is in e.3 ∙ w.free e.0 e.1) refl (let zero_word = ap (λ d. slice_index d 0) w.draft in omega arith) w.is (ap (key_after call) (held_is 0 few_none short) ∙ w.after)) (omega arith)

  by_stores : Stores may.own v.leaf l call x → Then
  by_stores w =
      let two : length may.own.draft ≡ 2 = ap length w.draft in
      let short : length may.own.draft ≤ 2 + 18 * 0 = omega arith in
      let used_is = used in
      let first : slice_index may.own.draft 0 ≡ l.key = ap (λ d. slice_index d 0) w.draft in
      done 0 few_none short (stores.stores k laws tries s r id v at_me may.own may.owns l m sees.word 0 (ready 0 few_none short) call may.on (is_entry 0 few_none short) x
      (λ place is. let e = entry_words 0 few_none short place is in e.3 ∙ w.free e.0 e.1) refl (subst (λ n. n < 2 ^ 32) (sym first) (locks 0 few_none short).key) w.value w.is (ap (key_after call) (held_is 0 few_none short) ∙ w.after) first (ap (λ d. slice_index d 1) w.draft)) (omega arith)

  by_expands : Expands k may.own v.leaf l call x → Then
  by_expands w =
      let sized = w.sized in
      let fits = w.planned.within in
      let some_nodes = w.planned.some in
      let short : length may.own.draft ≤ 2 + 18 * w.plan.nodes = omega arith in
      let used_is = used in
      let few : l.level + w.plan.nodes < 8 = omega arith in
      let stands = in_slot may.found sees.shows w.other w.other_is in
      let e = entry_words w.plan.nodes few short w.other.place (sym sees.slot_is ∙ stands) in
      let key_is : e.0.key ≡ w.other.key = ap (λ (z : Leaf). z.key) (same_Some e.0 w.other (sym e.1 ∙ w.other_is)) in
      done w.plan.nodes few short (chains.expands k laws tries s r id v at_me may.own may.owns l m sees.word w.plan.nodes (ready w.plan.nodes few short) call may.on (is_entry w.plan.nodes few short) x w.value w.other.place w.other.key w.plan refl
      (sym sees.slot_is ∙ stands) (e.3 ∙ key_is) w.planned w.is (ap (key_after call) (held_is w.plan.nodes few short) ∙ w.after) w.draft) (omega arith)
    where
      in_slot : (f : Slot) → HasLeaf f v.leaf → (e : Leaf) → v.leaf ≡ Some e → f ≡ Entry e.place
      in_slot Empty has e is = absurd (none-some e (sym has ∙ is))
      in_slot (Node below) has e is = absurd has
      in_slot (Entry place) has e is = ap (λ p. Entry p) (sym has.2 ∙ ap (λ (z : Leaf). z.place) (same_Some has.0 e (sym has.1 ∙ is)))

  pub published_now : Then
  published_now = elim may.writes [ inl w ↦ by_removes w | inr others ↦ elim others [ inl w ↦ by_stores w | inr w ↦ by_expands w ] ]

pub publishes : (k : Begin) → HistoryLaws → TrieLaws → (id : ℕ) (me : Me (Unit {0}) View) (call : MapCall ℕ) (m : ℕ) (l : Lock) (x : ℕ) → MayPublish k me.0 call m l x → Allows (Kept k) 0 id me (slot_word l.node (nibble l.key k.seed l.level)) (λ n. x) (λ found. Publishes m call (used_in me.0.owns) me)
publishes k laws tries id me call m l x may = λ s r one at_me bounded.
    let t = published_now k laws tries s r id me.0 at_me call m l x may in
    (t.0, keeps, tt, t.1, (refl, λ z e. subst (λ (y : Lock). Makes m call (key_reply call (leaf_value me.0.leaf y.key)) (used_in me.0.owns) None (Some (bare y)) me.0 t.0) (same_Some l z (sym may.sees.locked ∙ e)) t.2))
