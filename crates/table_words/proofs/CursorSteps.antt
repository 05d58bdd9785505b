-- The steps of a seat with a cursor.
use Rattle.std.proofs.Common.{◌≡◌, ℕ, suc, ◌+◌, ◌<◌, ◌≤◌, List, [], ◌∷◌, ◌++◌, length, set, Option, Some, None, slice_get, slice_index, inl, inr, refl, sym, ap, ◌∙◌, subst, arith, length-append, append_assoc}
use Rattle.std.proofs.lemmas.List.{append-nil, set-get_or}
use Rattle.std.proofs.lemmas.Option.{same_Some, slice_get_within}
use mathlib.Core.Option.{some}
use lib.ListN.{get_elem?}
use Rattle.atomic_table.specs.Table.{Me, Act, keeps, Valid, stepped, carried_after, Allows}
use Rattle.sync_model.specs.declared.item.Item.{Item}
use Rattle.sync_model.specs.declared.item.SharedCall.TheVariants as calls
use Rattle.sync_model.specs.declared.item.SharedReply.TheVariants as replies
use Rattle.sync_model.specs.SharedCalls.{Knows, IsStep, MayShow}
use Rattle.trie_nodes.specs.declared.slot.Slot.{Slot}
use Rattle.trie_nodes.specs.declared.slot.Slot.TheVariants.{Empty, Node, Entry}
use Rattle.trie_nodes.specs.Layout.{slot_word}
use Rattle.trie_nodes.specs.Places.{bump, but_last}
use Rattle.trie_nodes.specs.Slots.{slot_in}
use Rattle.table_rule.specs.declared.begin.Begin.{Begin}
use Rattle.table_rule.specs.declared.view.Leaf.{Leaf}
use Rattle.table_rule.specs.declared.view.Spot.{Spot}
use Rattle.table_rule.specs.declared.view.View.{View}
use Rattle.table_rule.specs.Cursors.{at_spot, behind, behind_shown, down_in, up_from, Sweeps, SweepsIn, SweepsSlot, GoesUp, ShowsNone, Sweeping, StandsIn}
use Rattle.table_words.specs.Laws.{HistoryLaws}
use Rattle.table_rule.specs.Layout.{size_of, callers_of, IsBegin}
use Rattle.table_rule.specs.Ledger.{Owned, Fits}
use Rattle.table_rule.specs.Owed.{IsLeaf, Stands}
use Rattle.table_rule.specs.Rule.{TableState, Kept}
use Rattle.table_rule.specs.Shape.{start_of, time}
use Rattle.table_words.specs.SweepLaws.{SweepLaws}
use Rattle.table_rule.specs.Walking.{HasWords}
use Rattle.table_words.proofs.Ledgers.{longer, first}
use Rattle.table_words.proofs.Sweeping.{here, till_end, empty_passed, entry_of, own_key, not_shown, own_value, entry_passed, goes_down, goes_up, all_passed}
use Rattle.table_words.proofs.Swept.{kept_there, view_after, kept_swept, sweeps}

bump_last : (front : List ℕ) (slot : ℕ) → bump (front ++ slot ∷ []) ≡ front ++ suc slot ∷ []
bump_last [] slot = refl
bump_last (x ∷ []) slot = refl
bump_last (x ∷ y ∷ front) slot = ap (λ l. x ∷ l) (bump_last (y ∷ front) slot)

but_last_item : (front : List ℕ) (x : ℕ) → but_last (front ++ x ∷ []) ≡ front
but_last_item [] x = refl
but_last_item (y ∷ []) x = refl
but_last_item (y ∷ z ∷ front) x = ap (λ l. y ∷ l) (but_last_item (z ∷ front) x)

pub has_words : (k : Begin) (v : View) (place words : ℕ) → IsBegin k → v.begin ≡ k → place + words ≤ size_of k → 0 < words → HasWords v place words
has_words k v place words b begin within some_words =
    let objects = b.objects in
    let units = b.units in
    (subst (λ (z : Begin). place + words ≤ size_of z) (sym begin) within, omega arith)

-- a seat with a cursor, at some state of the table
module _ (k : Begin) (laws : HistoryLaws) (sweep : SweepLaws) (id : ℕ) (me : Me (Unit {0}) View) (z : Spot) (with_cursor : Sweeping k me z) (s : TableState) (r : Kept k s) (at_me : get_elem? s.views id ≡ some me.0) where
  abbrev v : View
  v = me.0

  stands : Stands k r.shape r.log r.calls z
  stands = (r.suits id me.0 at_me with_cursor.live).spot z with_cursor.spot

  fits : Fits (callers_of k) r.log r.calls r.claim id me.0
  fits = r.fits id me.0 at_me with_cursor.live

  owned : Owned (callers_of k) r.calls r.claim id me.0.front me.0.number with_cursor.own
  owned = first k laws r.log r.calls (callers_of k) r.claim id r.lawful me.0 with_cursor.own with_cursor.owns with_cursor.is fits

  from : length me.0.seen ≤ length r.log
  from = longer me.0.seen r.log fits.seen

  -- the call that began the cursor
  begun : (b : ℕ) → calls.Next z.begin ≡ calls.Next b → (y : Item) × (m : ℕ) × (b < length with_cursor.own.items) × (slice_get with_cursor.own.items b ≡ Some y) × (y.call ≡ calls.Begin m)
  begun b next =
      let of = with_cursor.of in
      let same : z.begin ≡ b = cc in
      subst (λ n. (y : Item) × (m : ℕ) × (n < length with_cursor.own.items) × (slice_get with_cursor.own.items n ≡ Some y) × (y.call ≡ calls.Begin m)) same
      (of.begin, z.map, slice_get_within with_cursor.own.items z.begin of.begin of.at, of.at, of.call)

  -- what the cursor's own step may show, any step of it may
  shows_so : (show : Option (ℕ × ℕ)) → MayShow (start_of k) r.log r.calls me.0.number z.begin z.map z.front (length with_cursor.own.items) (length r.log) show
      → (b m : ℕ) (y : Item) (shown : Option (ℕ × ℕ)) → slice_get with_cursor.own.items b ≡ Some y → y.call ≡ calls.Begin m → calls.Next z.begin ≡ calls.Next b → replies.Shown show ≡ replies.Shown shown → MayShow (start_of k) r.log r.calls me.0.number b m y.front (length with_cursor.own.items) (length r.log) shown
  shows_so show may b m y shown at begin next reply =
      let of = with_cursor.of in
      let same : z.begin ≡ b = cc in
      let item : of.begin ≡ y = same_Some of.begin y (sym of.at ∙ ap (slice_get with_cursor.own.items) same ∙ at) in
      let both : calls.Begin z.map ≡ calls.Begin m = sym of.call ∙ ap (λ (x : Item). x.call) item ∙ begin in
      let map : z.map ≡ m = cc in
      let front : z.front ≡ y.front = sym of.front ∙ ap (λ (x : Item). x.front) item in
      let told : show ≡ shown = cc in
      subst (MayShow (start_of k) r.log r.calls me.0.number b m y.front (length with_cursor.own.items) (length r.log)) told
      (subst (λ (l : List ℕ). MayShow (start_of k) r.log r.calls me.0.number b m l (length with_cursor.own.items) (length r.log) show) front
      (subst (λ (x : ℕ × ℕ). MayShow (start_of k) r.log r.calls me.0.number x.0 x.1 z.front (length with_cursor.own.items) (length r.log) show) (λ i. (same i, map i)) may))

  -- the cursor's front is known at each moment since its begin
  known : (moment : ℕ) → z.since ≤ moment → Knows r.calls z.front moment
  known moment since = laws.known r.calls r.calls z.front z.since moment (λ c. ([], sym (append-nil (r.calls c)))) since stands.knows

  step_there : (j : ℕ) (x : Item) (shown : Option (ℕ × ℕ)) → IsStep (r.calls me.0.number) z.begin j x shown → IsStep with_cursor.own.items z.begin j x shown
  step_there j x shown step = subst (λ items. IsStep items z.begin j x shown) owned.items step

  -- it may show none where it has passed all keys
  pub none_left : z.slots ≡ 16 ∷ [] → MayShow (start_of k) r.log r.calls me.0.number z.begin z.map z.front (length with_cursor.own.items) (length r.log) None
  none_left ended key fits unshown = elim (all_passed k sweep r.shape r.log r.calls z stands ended key fits) [
    | inl there ↦
        let step = with_cursor.of.shown key there in
        let mine = subst (λ items. IsStep items z.begin step.0 step.1 (Some (key, step.2))) (sym owned.items) step.3 in
        absurd (unshown step.0 step.1 step.2 (slice_get_within with_cursor.own.items step.0 step.1 step.3.at) mine)
    | inr absent ↦ record { moment = absent.0; knows = known absent.0 absent.1; within = absent.2; is = absent.3 }
  ]

  -- no word changes
  on : (word : ℕ) (u : View) → Kept k record { words = s.words; homes = s.homes; views = set s.views id u } → Kept k (stepped s word (slice_index s.words word) id me.1 u keeps)
  on word u kept = subst (λ ws. Kept k record { words = ws; homes = s.homes; views = set s.views id u }) (sym (set-get_or s.words word 0)) kept

  told : (found : Slot) (u : View) → SweepsIn z found me.0 u → (y : Spot) → me.0.spot ≡ Some y → SweepsIn y found me.0 u
  told found u swept y e = subst (λ x. SweepsIn x found me.0 u) (same_Some z y (sym with_cursor.spot ∙ e)) swept

  -- a step of the cursor is placed at the end of the history
  swept : (word : ℕ) (show : Option (ℕ × ℕ)) → MayShow (start_of k) r.log r.calls me.0.number z.begin z.map z.front (length with_cursor.own.items) (length r.log) show
      → (leaf : Option Leaf) → ((l : Leaf) → leaf ≡ Some l → IsLeaf r.shape s.words l) → (spot : Spot) → Stands k r.shape r.log r.calls spot
      → (u : View) × Kept k (stepped s word (slice_index s.words word) id me.1 u keeps) × Sweeps (calls.Next z.begin) (replies.Shown show) (Some spot) leaf me.0 u
  swept word show may leaf leaves spot stands_so =
      let stands_there : (y : Spot) → Some spot ≡ Some y → Stands k r.shape r.log r.calls y = (λ y at. subst (Stands k r.shape r.log r.calls) (same_Some spot y at) stands_so) in
      let after = view_after k laws s r id me.0 at_me with_cursor.live with_cursor.own with_cursor.owns with_cursor.is with_cursor.walk (calls.Next z.begin) (replies.Shown show) (show, refl) refl from begun (shows_so show may) leaf leaves (Some spot) stands_there in (
        after,
        on word after (kept_swept k laws s r id me.0 at_me with_cursor.live with_cursor.own with_cursor.owns with_cursor.is with_cursor.walk (calls.Next z.begin) (replies.Shown show) (show, refl) refl from begun (shows_so show may) leaf leaves (Some spot) stands_there),
        sweeps k laws s r id me.0 at_me with_cursor.live with_cursor.own with_cursor.owns with_cursor.is with_cursor.walk (calls.Next z.begin) (replies.Shown show) (show, refl) refl from begun (shows_so show may) leaf leaves (Some spot) stands_there with_cursor.begin,
      )

  -- the cursor reads the slot where it stands
  module _ (node slot : ℕ) (stands_in : StandsIn z node slot) (inside : slot < 16) where
    abbrev word : ℕ
    word = slice_index s.words (slot_word node slot)

    abbrev Told : Slot → Type 0
    Told found = (u : View) × (a : Act (Unit {0})) × Valid s.homes me.1 a × Kept k (stepped s (slot_word node slot) (slice_index s.words (slot_word node slot)) id me.1 u a) × SweepsSlot me found (u, carried_after me.1 a)

    bumped : bump z.slots ≡ stands_in.front ++ suc slot ∷ []
    bumped = ap bump stands_in.slots ∙ bump_last stands_in.front slot

    by_slot : (found : Slot) → slot_in (slice_index s.words (slot_word node slot)) ≡ found → Told found
    by_slot Empty e =
        let passed = subst (λ l. Stands k r.shape r.log r.calls (record z { slots = l })) (sym bumped) (empty_passed k sweep r.shape r.log s.words r.begin r.fine r.calls z stands stands_in.front slot stands_in.slots stands_in.above node stands_in.nodes inside e) in
        let u = at_spot me.0 (Some (behind z)) me.0.leaf in (
          u,
          keeps,
          tt,
          on (slot_word node slot) u (kept_there k s r id me.0 at_me with_cursor.live (Some (behind z)) (λ y at. subst (Stands k r.shape r.log r.calls) (same_Some (behind z) y at) passed)),
          (refl, told Empty u refl),
        )
    by_slot (Node below) e =
        let down = goes_down k sweep r.shape r.log s.words r.begin r.fine r.calls z stands stands_in.front slot stands_in.slots stands_in.above node stands_in.nodes inside below e in
        let u = at_spot me.0 (Some (down_in z below)) me.0.leaf in
        let within = (r.fine.nodes below down.1).within in
        let long = ap length stands_in.slots ∙ length-append stands_in.front (slot ∷ []) in
        let deep = down.2 in (
          u,
          keeps,
          tt,
          on (slot_word node slot) u (kept_there k s r id me.0 at_me with_cursor.live (Some (down_in z below)) (λ y at. subst (Stands k r.shape r.log r.calls) (same_Some (down_in z below) y at) down.0)),
          (refl, told (Node below) u (refl, has_words k me.0 below 18 r.begin with_cursor.begin within (omega arith), omega arith)),
        )
    by_slot (Entry place) e =
        let key = slice_index s.words place in
        let value = slice_index s.words (place + 1) in
        let mine = own_key k sweep r.shape r.log s.words r.begin r.fine r.calls z stands stands_in.front slot stands_in.slots stands_in.above node stands_in.nodes inside place e in
        let kind = entry_of k sweep r.shape r.log s.words r.begin r.fine r.calls z stands stands_in.front slot stands_in.slots stands_in.above node stands_in.nodes inside place e in
        let l : Leaf = record { place = place; key = key; value = value } in
        let may : MayShow (start_of k) r.log r.calls me.0.number z.begin z.map z.front (length with_cursor.own.items) (length r.log) (Some (key, value)) = (
          (λ j x other before step. not_shown k sweep r.shape r.log s.words r.begin r.fine r.calls z stands stands_in.front slot stands_in.slots stands_in.above node stands_in.nodes inside place e (with_cursor.of.steps j x key other (step_there j x (Some (key, other)) step))),
          record {
            moment = time r.shape r.log node;
            knows = known (time r.shape r.log node) (here k sweep r.shape r.log s.words r.begin r.fine r.calls z stands stands_in.front slot stands_in.slots stands_in.above node stands_in.nodes).since;
            within = till_end k sweep r.shape r.log s.words r.begin r.fine r.calls z stands stands_in.front slot stands_in.slots stands_in.above node stands_in.nodes;
            is = own_value k sweep r.shape r.log s.words r.begin r.fine r.calls z stands stands_in.front slot stands_in.slots stands_in.above node stands_in.nodes inside place e;
          },
        ) in
        let passed = subst (λ n. Stands k r.shape r.log r.calls (record z { slots = n; shown = z.shown ++ key ∷ [] })) (sym bumped)
        (entry_passed k sweep r.shape r.log s.words r.begin r.fine r.calls z stands stands_in.front slot stands_in.slots stands_in.above node stands_in.nodes inside place e) in
        let step = swept (slot_word node slot) (Some (key, value)) may (Some l) (λ y at. subst (IsLeaf r.shape s.words) (same_Some l y at) record { entry = kind; key = refl; value = refl }) (behind_shown z key) passed in (
          step.0,
          keeps,
          tt,
          step.1,
          (refl, told (Entry place) step.0 (l, refl, mine.0, has_words k me.0 place 2 r.begin with_cursor.begin (r.fine.leaves place kind).within (omega arith), step.2)),
        )

    pub told_in : Told (slot_in (slice_index s.words (slot_word node slot)))
    told_in = by_slot (slot_in (slice_index s.words (slot_word node slot))) refl

  abbrev Allowed : ℕ → (Me (Unit {0}) View → Type 0) → Type 0
  Allowed word then = (u : View) × (a : Act (Unit {0})) × Valid s.homes me.1 a × Kept k (stepped s word (slice_index s.words word) id me.1 u a) × then (u, carried_after me.1 a)

  -- it goes up
  pub gone_up : (word node slot : ℕ) (front above : List ℕ) → z.slots ≡ front ++ slot ∷ 16 ∷ [] → z.nodes ≡ above ++ node ∷ [] → Allowed word (GoesUp me (slice_index s.words word))
  gone_up word node slot front above slots_are nodes_are =
      let up = goes_up k sweep r.shape r.log r.calls z stands front slot slots_are above node nodes_are in
      let nodes : but_last z.nodes ≡ above = ap but_last nodes_are ∙ but_last_item above node in
      let slots : bump (but_last z.slots) ≡ front ++ suc slot ∷ [] = ap (λ l. bump (but_last l)) (slots_are ∙ sym (append_assoc front (slot ∷ []) (16 ∷ []))) ∙ ap bump (but_last_item (front ++ slot ∷ []) 16) ∙ bump_last front slot in
      let there = subst (λ (x : List ℕ × List ℕ). Stands k r.shape r.log r.calls (record z { nodes = x.0; slots = x.1 })) (λ i. (sym nodes i, sym slots i)) up in
      let u = at_spot me.0 (Some (up_from z)) me.0.leaf in (
        u,
        keeps,
        tt,
        on word u (kept_there k s r id me.0 at_me with_cursor.live (Some (up_from z)) (λ y at. subst (Stands k r.shape r.log r.calls) (same_Some (up_from z) y at) there)),
        (refl, λ y e. ap (λ x. at_spot me.0 (Some (up_from x)) me.0.leaf) (same_Some z y (sym with_cursor.spot ∙ e))),
      )

  -- it has passed all, and shows none
  pub shown_none : (word : ℕ) → z.slots ≡ 16 ∷ [] → Allowed word (ShowsNone me (slice_index s.words word))
  shown_none word ended =
      let step = swept word None (none_left ended) me.0.leaf (r.suits id me.0 at_me with_cursor.live).leaf z stands in (
        step.0,
        keeps,
        tt,
        step.1,
        (refl, λ y e. subst (λ x. Sweeps (calls.Next x.begin) (replies.Shown None) (Some x) me.0.leaf me.0 step.0) (same_Some z y (sym with_cursor.spot ∙ e)) step.2),
      )

-- the cursor of a seat reads the slot where it stands
pub sweeps_slot : (k : Begin) → HistoryLaws → SweepLaws → (id : ℕ) (me : Me (Unit {0}) View) (z : Spot) (node slot : ℕ) → Sweeping k me z → StandsIn z node slot → slot < 16 → Allows (Kept k) 0 id me (slot_word node slot) (λ n. n) (λ found. SweepsSlot me (slot_in found))
sweeps_slot k laws sweep id me z node slot with_cursor stands_in inside = λ s r one at_me bounded. told_in k laws sweep id me z with_cursor s r at_me node slot stands_in inside

pub moves_up : (k : Begin) → HistoryLaws → SweepLaws → (id : ℕ) (me : Me (Unit {0}) View) (z : Spot) (word node slot : ℕ) (front above : List ℕ) → Sweeping k me z → z.slots ≡ front ++ slot ∷ 16 ∷ [] → z.nodes ≡ above ++ node ∷ [] → Allows (Kept k) 0 id me word (λ n. n) (GoesUp me)
moves_up k laws sweep id me z word node slot front above with_cursor slots_are nodes_are = λ s r one at_me bounded. gone_up k laws sweep id me z with_cursor s r at_me word node slot front above slots_are nodes_are

pub shows_none : (k : Begin) → HistoryLaws → SweepLaws → (id : ℕ) (me : Me (Unit {0}) View) (z : Spot) (word : ℕ) → Sweeping k me z → z.slots ≡ 16 ∷ [] → Allows (Kept k) 0 id me word (λ n. n) (ShowsNone me)
shows_none k laws sweep id me z word with_cursor ended = λ s r one at_me bounded. shown_none k laws sweep id me z with_cursor s r at_me word ended
