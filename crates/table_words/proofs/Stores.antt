-- What may be published in a slot: nothing, where it has no other key; the call's own entry, where it has no other key; and a chain to both entries, where it has the entry of another key.
use Rattle.std.proofs.Common.{◌≡◌, ◌≢◌, ◌⊎◌, inl, inr, ℕ, suc, ◌+◌, ◌^◌, ◌<◌, ◌==◌, true, false, cond, List, length, set, Option, Some, None, slice_index, refl, sym, ap, ◌∙◌, subst, arith, eq-eqb, eqb-true}
use Rattle.std.proofs.lemmas.Bool.{cases_eq}
use mathlib.Core.Option.{some}
use lib.ListN.{get_elem?}
use Rattle.sync_model.specs.declared.item.SharedEntry.{SharedEntry}
use Rattle.sync_types.specs.declared.map_object.MapCall.{MapCall}
use Rattle.sync_model.specs.SharedHistory.{value_at, contents_after, history_with}
use Rattle.table_rule.specs.declared.begin.Begin.{Begin}
use Rattle.table_rule.specs.declared.view.Lock.{Lock}
use Rattle.table_rule.specs.declared.view.Own.{Own}
use Rattle.table_rule.specs.declared.view.View.{View}
use Rattle.sync_types.specs.KeyCalls.{is_key_entry, key_after}
use Rattle.table_words.specs.Laws.{HistoryLaws}
use Rattle.trie_nodes.specs.declared.slot.Slot.{Slot}
use Rattle.trie_nodes.specs.declared.slot.Slot.TheVariants.{Empty, Node, Entry}
use Rattle.trie_nodes.specs.Layout.{slot_word, unit_words}
use Rattle.trie_nodes.specs.Nodes.{Shows, entry_value}
use Rattle.trie_nodes.specs.Paths.{nibble, route}
use Rattle.trie_nodes.specs.Slots.{word_of_slot, slot_in}
use Rattle.table_rule.specs.Owed.{Locks}
use Rattle.table_rule.specs.Rule.{TableState, Kept}
use Rattle.table_rule.specs.Shape.{Shape, start_of, held_at, till, time, IsBelow, ShowsAt, Fine}
use Rattle.table_words.specs.TrieLaws.{TrieLaws}
use Rattle.table_rule.specs.Units.{link_at, with_unit}
use Rattle.table_words.proofs.KeyCalls.{IsOn, ChangesKey}
use Rattle.table_words.proofs.Published as published
use Rattle.table_words.proofs.Publishing as publishing
use Rattle.table_words.proofs.Sites as sites
use Rattle.table_words.proofs.Units as units

pub test_off : (a b : ℕ) → a ≢ b → (a == b) ≡ false
test_off a b ne = units.not_true (a == b) (λ e. ne (eqb-true a b e))

pub own_value : (ws : List ℕ) (place key : ℕ) → slice_index ws place ≡ key → entry_value ws place key ≡ Some (slice_index ws (place + 1))
own_value ws place key e = ap (λ b. cond b (Some (slice_index ws (place + 1))) None) (eq-eqb (slice_index ws place) key e)

pub other_value : (ws : List ℕ) (place key : ℕ) → slice_index ws place ≢ key → entry_value ws place key ≡ None
other_value ws place key ne = ap (λ b. cond b (Some (slice_index ws (place + 1))) None) (test_off (slice_index ws place) key ne)

place_in : Slot → ℕ
place_in Empty = 0
place_in (Node place) = place
place_in (Entry place) = place

pub entry_place : (a b : ℕ) → Entry a ≡ Entry b → a ≡ b
unfolding place_in
entry_place a b e = ap place_in e

pub none_or_some : (o : Option ℕ) → (o ≡ None) ⊎ ((q : ℕ) × (o ≡ Some q))
none_or_some None = inl refl
none_or_some (Some q) = inr (q, refl)

module _ (k : Begin) (laws : HistoryLaws) (tries : TrieLaws) (s : TableState) (r : Kept k s) (id : ℕ) (v : View) (at_me : get_elem? s.views id ≡ some v) (own : Own) (owns : List Own) (l : Lock) (m word nodes : ℕ) (ready : published.IsReady k v own owns l m word nodes)
    (call : MapCall ℕ) (on : IsOn l.key call) (is_entry : is_key_entry call (value_at (contents_after (start_of k) r.log) m l.key) ≡ true) where
  abbrev pub log : List SharedEntry
  log = history_with r.log v.number (published.item k laws tries s r id v at_me own owns l m word nodes ready call on is_entry)

  abbrev pub shape : Shape
  shape = with_unit r.shape k.seed m l.level l.key own.next nodes

  abbrev pub words : ℕ → List ℕ
  words x = set s.words (slot_word l.node (nibble l.key k.seed l.level)) x

  abbrev pub value : Option ℕ
  value = key_after call (value_at (contents_after (start_of k) r.log) m l.key)

  pub site : sites.Site k r.shape r.log s.words m l.node l.level l.key own.next nodes
  site = published.site k laws tries s r id v at_me own owns l m word nodes ready

  pub locks : Locks k r.shape s.words v.number m l
  locks = published.locks k laws tries s r id v at_me own owns l m word nodes ready

  pub changes : ChangesKey k r.log log m l.key value
  changes = published.changes k laws tries s r id v at_me own owns l m word nodes ready call on is_entry

  -- another key of the slot
  abbrev pub OnSlot : ℕ → Type 0
  OnSlot other = route k.seed (suc l.level) other ≡ route k.seed (suc l.level) l.key

  -- what the slot showed of it
  pub was : (other : ℕ) → other < 2 ^ 32 → OnSlot other → ShowsAt k r.shape r.log s.words l.node l.level other word
  was other is_key along =
      let above = tries.above k.seed l.level (suc l.level) other l.key (omega arith) along in
      let slot = tries.same_slot k.seed l.level (suc l.level) other l.key (omega arith) along in
      subst (ShowsAt k r.shape r.log s.words l.node l.level other) (ap (λ n. slice_index s.words (slot_word l.node n)) slot ∙ published.slot_is k laws tries s r id v at_me own owns l m word nodes ready)
      (r.fine.slots l.node l.level other locks.node locks.level is_key (locks.path ∙ sym above))

  pub was_held : (other : ℕ) → held_at k r.log (time r.shape r.log l.node) (r.shape.map_of l.node) other ≡ value_at (contents_after (start_of k) r.log) m other
  was_held other = (λ i. held_at k r.log (till (locks.reachable i) (length r.log)) (locks.map i) other) ∙ ap (λ z. value_at z m other) (laws.contents_all (start_of k) r.log (length r.log) (omega arith))

  module _ (x : ℕ) where
    -- what a key has now
    pub held_now : (q other : ℕ) → shape.cut_of q ≡ None → shape.map_of q ≡ m → held_at k log (time shape log q) (shape.map_of q) other ≡ value_at (contents_after (start_of k) log) m other
    held_now q other live map = (λ i. held_at k log (till (live i) (length log)) (map i) other) ∙ ap (λ z. value_at z m other) (laws.contents_all (start_of k) log (length log) (omega arith))

    pub cut_now : shape.cut_of l.node ≡ None
    cut_now = publishing.old_cut k r.shape r.log log s.words m l.node l.level l.key x own.next nodes value laws tries site changes l.node locks.node ∙ locks.reachable

    pub map_now : shape.map_of l.node ≡ m
    map_now = publishing.old_map k r.shape r.log log s.words m l.node l.level l.key x own.next nodes value laws tries site changes l.node locks.node ∙ locks.map

    pub unit_now : (i : ℕ) → i < unit_words → slice_index (words x) (own.next + i) ≡ slice_index own.draft i
    unit_now i below = publishing.unit_word k r.shape r.log log s.words m l.node l.level l.key x own.next nodes value laws tries site changes i below ∙ published.draft_word k laws tries s r id v at_me own owns l m word nodes ready i below

    pub first_now : slice_index (words x) own.next ≡ slice_index own.draft 0
    first_now = let e : own.next + 0 ≡ own.next = omega arith in subst (λ i. slice_index (words x) i ≡ slice_index own.draft 0) e (unit_now 0 (omega arith))

    pub fine_now : publishing.IsUnit k s.words l.node own.next nodes
        → ((other : ℕ) → other < 2 ^ 32 → OnSlot other → ShowsAt k shape log (words x) l.node l.level other x)
        → ((n other : ℕ) → n < nodes → other < 2 ^ 32 → route k.seed (suc l.level + n) other ≡ route k.seed (suc l.level + n) l.key
        → ShowsAt k shape log (words x) (link_at own.next n) (suc l.level + n) other (slice_index (words x) (slot_word (link_at own.next n) (nibble other k.seed (suc l.level + n)))))
        → Fine k shape log (words x)
    fine_now news now links = publishing.fine_published k r.shape r.log log s.words m l.node l.level l.key x own.next nodes value laws tries site changes news now links (published.alive k laws tries s r id v at_me own owns l m word nodes ready)

    -- the slot has no entry but the key's own
    module _ (free : (place : ℕ) → slot_in word ≡ Entry place → slice_index s.words place ≡ l.key) (few : nodes ≡ 0) (small : slice_index own.draft 0 < 2 ^ 32) where
      nothing_else : (other : ℕ) → other < 2 ^ 32 → OnSlot other → other ≢ l.key → held_at k log (time shape log l.node) (shape.map_of l.node) other ≡ None
      nothing_else other is_key along ne = held_now l.node other cut_now map_now ∙ changes.others m other (inr ne) ∙ sym (was_held other) ∙ by_slot (slot_in word) refl (was other is_key along).shows
        where
          by_slot : (slot : Slot) → slot_in word ≡ slot → Shows s.words k.seed (IsBelow k r.shape r.log s.words l.node l.level other) l.level other (held_at k r.log (time r.shape r.log l.node) (r.shape.map_of l.node) other) slot
              → held_at k r.log (time r.shape r.log l.node) (r.shape.map_of l.node) other ≡ None
          by_slot Empty e shows = shows
          by_slot (Node below) e shows = absurd (ready.leaf below e)
          by_slot (Entry place) e shows = shows.1 ∙ other_value s.words place other (λ is. ne (sym is ∙ free place e))

      its_value : held_at k log (time shape log l.node) (shape.map_of l.node) l.key ≡ value
      its_value = held_now l.node l.key cut_now map_now ∙ changes.here

      no_child : (other : ℕ) → other < 2 ^ 32 → OnSlot other → shape.node_at (shape.map_of l.node) (route k.seed (suc l.level) other) ≡ None
      no_child other is_key along = ap (λ n. shape.node_at n (route k.seed (suc l.level) other)) map_now ∙ elim (units.reached_is r.shape tries k.seed m l.level l.key own.next nodes m (route k.seed (suc l.level) other)) [
        | inl same ↦ same ∙ ap (r.shape.node_at m) along ∙ sites.childless k r.shape r.log s.words m l.node l.level l.key own.next nodes tries site
        | inr link ↦ absurd (let below = link.2 in omega arith)
      ]

      no_links : publishing.IsUnit k s.words l.node own.next nodes
      no_links = let e : own.next + 0 ≡ own.next = omega arith in record {
        is_key = subst (λ n. n < 2 ^ 32) (sym (subst (λ i. slice_index s.words i ≡ slice_index own.draft 0) e (published.draft_word k laws tries s r id v at_me own owns l m word nodes ready 0 (omega arith)))) small;
        free = λ n below. absurd (omega arith);
        parents = λ n below. absurd (omega arith);
      }

      pub removes : x ≡ 0 → value ≡ None → Fine k (with_unit r.shape k.seed m l.level l.key own.next nodes) log (set s.words (slot_word l.node (nibble l.key k.seed l.level)) x)
      removes x_is gone = fine_now no_links (λ other is_key along. record {
        shows = subst (λ n. Shows (words x) k.seed (IsBelow k shape log (words x) l.node l.level other) l.level other (held_at k log (time shape log l.node) (shape.map_of l.node) other) (slot_in n)) (sym x_is) (elim (cases_eq other l.key) [
          | inl is ↦ ap (held_at k log (time shape log l.node) (shape.map_of l.node)) is ∙ its_value ∙ gone
          | inr ne ↦ nothing_else other is_key along ne
        ]);
        entry = λ place e. absurd (let f : Empty ≡ Entry place = ap slot_in (sym x_is) ∙ e in (cc));
        childless = λ leaf live. no_child other is_key along;
      }) (λ n other below. absurd (omega arith))

      pub stores : (new : ℕ) → x ≡ word_of_slot (Entry own.next) → value ≡ Some new → slice_index own.draft 0 ≡ l.key → slice_index own.draft 1 ≡ new
          → Fine k (with_unit r.shape k.seed m l.level l.key own.next nodes) log (set s.words (slot_word l.node (nibble l.key k.seed l.level)) x)
      stores new x_is has key_is value_is =
          let slot : slot_in x ≡ Entry own.next = ap slot_in x_is ∙ tries.entry own.next in
          let word_key : slice_index (words x) own.next ≡ l.key = first_now ∙ key_is in
          let word_value : slice_index (words x) (own.next + 1) ≡ new = unit_now 1 (omega arith) ∙ value_is in
          fine_now no_links (λ other is_key along. record {
            shows = subst (Shows (words x) k.seed (IsBelow k shape log (words x) l.node l.level other) l.level other (held_at k log (time shape log l.node) (shape.map_of l.node) other)) (sym slot) (
              ap (route k.seed (suc l.level)) word_key ∙ sym along,
              elim (cases_eq other l.key) [
                | inl is ↦ ap (held_at k log (time shape log l.node) (shape.map_of l.node)) is ∙ its_value ∙ has ∙ ap (λ n. Some n) (sym word_value) ∙ sym (own_value (words x) own.next other (word_key ∙ sym is))
                | inr ne ↦ nothing_else other is_key along ne ∙ sym (other_value (words x) own.next other (λ e. ne (sym e ∙ word_key)))
              ],
            );
            entry = λ place e. subst (λ q. shape.kind_of q ≡ 2) (entry_place own.next place (sym slot ∙ e)) (units.entry_kind r.shape tries k.seed m l.level l.key own.next nodes);
            childless = λ leaf live. no_child other is_key along;
          }) (λ n other below. absurd (omega arith))
