-- The step that clears a map: the call is placed there as an entry, and one unit of its caller's room is used up.
use Rattle.std.proofs.Common.{◌≡◌, inl, inr, ℕ, zero, suc, ◌+◌, ◌^◌, ◌<◌, true, List, [], ◌∷◌, ◌++◌, length, set, Some, slice_get, slice_index, refl, sym, ap, ◌∙◌, subst, arith, get_or-set_same, get_or-set_other, Bool, None}
use Rattle.std.proofs.lemmas.Bool.{cases_eq}
use Rattle.std.proofs.lemmas.List.{length-replicate}
use Rattle.std.proofs.lemmas.Option.{none-some, same_Some}
use Rattle.std.specs.FinMap.{empty, get, get-empty}
use Rattle.std.specs.Ordering.{nat_cmp}
use mathlib.Core.Option.{some}
use lib.ListN.{get_elem?}
use Rattle.atomic_table.specs.Table.{Me, keeps, Allows}
use Rattle.sync_model.specs.declared.item.Item.{Item}
use Rattle.sync_model.specs.declared.item.SharedCall.TheVariants as calls
use Rattle.sync_model.specs.declared.item.SharedReply.TheVariants as replies
use Rattle.sync_types.specs.declared.map_object.MapCall.TheVariants.{Clear}
use Rattle.sync_types.specs.declared.map_object.MapReply.TheVariants.{Done}
use Rattle.sync_model.specs.Journal.{Begins}
use Rattle.sync_model.specs.SharedCalls.{Grows}
use Rattle.sync_model.specs.SharedHistory.{Contents, value_at, contents_after, entry_of, history_with}
use Rattle.sync_model.specs.Shared.{Called}
use Rattle.table_rule.specs.declared.begin.Begin.{Begin}
use Rattle.table_rule.specs.declared.view.CutNode.{CutNode}
use Rattle.table_rule.specs.declared.view.Gate.TheVariants.{Inside, Closed}
use Rattle.table_rule.specs.declared.view.Own.{Own}
use Rattle.table_rule.specs.declared.view.View.{View}
use Rattle.table_rule.specs.Clearing.{HasClosed, Clears, IsCleared}
use Rattle.sync_model.specs.EndsOfHistory.{HasKeysBelow}
use Rattle.table_words.specs.Laws.{HistoryLaws}
use Rattle.table_rule.specs.Layout.{root_word, callers_of}
use Rattle.table_rule.specs.Ledger.{Owned, Fits}
use Rattle.table_rule.specs.Making.{HasUnit, MadeCall}
use Rattle.table_rule.specs.Owed.{HasRoom, AtGate, IsCutOff, Suits, HoldsLock}
use Rattle.table_rule.specs.Pruning.{having_cut}
use Rattle.table_rule.specs.Rule.{TableState, Kept}
use Rattle.table_rule.specs.Shape.{Shape, start_of}
use Rattle.table_rule.specs.Values.{AreInRange}
use Rattle.table_rule.specs.Views.{called_view, with_item, spend, spend_own, view_state}
use Rattle.table_words.proofs.Closing.{at_gate, not_inside}
use Rattle.table_words.proofs.Frames.{Later, Apart, cut_on, room_on}
use Rattle.table_words.proofs.Ledgers.{longer, MayPlace, adds_one, lawful_after, history_on, grows_on, none_after, fits_after, called, first, contents_on, more_in_range}
use Rattle.table_words.proofs.Lists.{past_end, in_more, words_at, words_at-index}
use Rattle.table_words.proofs.Looking.{looks_so}
use Rattle.table_words.proofs.Moves.{Keeps, moves}
use Rattle.table_rule.specs.Unused.{IsUndrafted}
use Rattle.table_words.proofs.Unused.{others_too, mine_now}
use Rattle.table_words.proofs.NewRoots.{with_root, old_node, cut_here, Ground, EmptiesMap, behind_heads, fine_rooted, gates_rooted, later_rooted, apart_rooted, part_out, was_held}
use Rattle.table_words.proofs.Placing.{call_number, at_the_end, places}
use Rattle.table_words.proofs.Timing.{GoesOn, goes_placed, owns_placed, past, with_one}

module _ (k : Begin) (laws : HistoryLaws) (s : TableState) (r : Kept k s) (id : ℕ) (me : Me (Unit {0}) View) (at_me : get_elem? s.views id ≡ some me.0) (own : Own) (owns : List Own) (is : me.0.owns ≡ own ∷ owns)
    (m : ℕ) (has : HasClosed k me m true) (spare : 0 < own.spare) (blank : own.draft ≡ []) where
  abbrev v : View
  v = me.0

  fits : Fits (callers_of k) r.log r.calls r.claim id me.0
  fits = r.fits id me.0 at_me has.live

  owned : Owned (callers_of k) r.calls r.claim id me.0.front me.0.number own
  owned = first k laws r.log r.calls (callers_of k) r.claim id r.lawful me.0 own owns is fits

  first_is : slice_get me.0.owns 0 ≡ Some own
  first_is = ap (λ o. slice_get o 0) is

  room : HasRoom k r.shape s.words me.0.number own
  room = let e : me.0.number + 0 ≡ me.0.number = omega arith in subst (λ c. HasRoom k r.shape s.words c own) e ((r.suits id me.0 at_me has.live).room 0 own first_is)

  gate : AtGate k r.shape me.0.number (Closed m true)
  gate = at_gate k laws s r id me at_me own owns is m true has

  ground : Ground k r.shape r.log s.words m own.next
  ground = let within = room.within in let none_drafted : length own.draft ≡ 0 = ap length blank in let left = spare in record {
    fine = r.fine;
    below = gate.0;
    lies = room.lies;
    within = omega arith;
    unused = λ i below. room.unused i (omega arith);
    blank = λ i below. room.words i (omega arith) ∙ past_end own.draft i (omega arith);
  }

  abbrev pub item : Item
  item = record { call = calls.Map m Clear; reply = replies.Map Done; place = length r.log; entry = true; front = me.0.front }

  may : MayPlace k laws r.log r.calls me.0 own item
  may = record {
    from = longer me.0.seen r.log fits.seen;
    to = omega arith;
    last = λ entry. refl;
    front = refl;
    reply = refl;
    entry = refl;
    begun = λ b next. absurd (cc);
    shows = λ b n y shown at begin next reply. absurd (cc);
  }

  history : Begins (history_with r.log me.0.number item) r.log
  history = history_on k laws r.log r.calls (callers_of k) r.claim id r.lawful me.0 own owns is fits item may

  empties : EmptiesMap k r.log (history_with r.log me.0.number item) m
  empties =
      let before : Contents = contents_after (start_of k) r.log in
      let below = gate.0 in
      let long = laws.maps_long (start_of k) r.log in
      let first_maps : length (start_of k).maps ≡ k.maps = length-replicate k.maps empty in
      let many : m < length before.maps = omega arith in
      let now : contents_after (start_of k) (history_with r.log me.0.number item) ≡ record before { maps = set before.maps m empty } = contents_on laws k r.log me.0.number item refl in record {
        history = history;
        numbers = ap (λ (z : Contents). z.numbers) now;
        here = λ key. ap (λ (z : Contents). value_at z m key) now ∙ ap (λ f. get f key) (get_or-set_same before.maps m empty empty many) ∙ get-empty nat_cmp key;
        others = λ n key other. ap (λ (z : Contents). value_at z n key) now ∙ ap (λ f. get f key) (get_or-set_other before.maps m n empty empty other);
      }

  abbrev pub own_after : Own
  own_after = spend_own 18 (record own { items = own.items ++ item ∷ []; times = own.times ++ call_number k s r me.0 (length r.log) ∷ [] })

  -- the old root is cut off
  abbrev pub node_cut : CutNode
  node_cut = record { node = slice_index s.words (root_word k m); map = m; level = 0; key = 0; before = r.log; words = words_at s.words (slice_index s.words (root_word k m)) 18 }

  abbrev pub view_after : View
  view_after = having_cut (called_view me.0 (own_after ∷ owns) (history_with r.log me.0.number item) (call_number k s r me.0 (length r.log))) (node_cut ∷ [])

  abbrev shape : Shape
  shape = with_root r.shape m own.next (length r.log)

  abbrev words : List ℕ
  words = set s.words (root_word k m) own.next

  later : Later r.shape shape r.log (history_with r.log me.0.number item) s.words words
  later = later_rooted k r.shape r.log (history_with r.log me.0.number item) s.words m own.next laws ground empties

  is_cut_off : IsCutOff k shape (history_with r.log me.0.number item) words node_cut
  is_cut_off =
      let old : ℕ = slice_index s.words (root_word k m) in
      let root = r.fine.live m [] (slice_index s.words (root_word k m)) (r.fine.roots m gate.0) in
      let lies = (r.fine.nodes (slice_index s.words (root_word k m)) root.0).lies in record {
        node = later.node old root.0;
        map = later.map old root.0 ∙ root.1;
        key = omega arith;
        level = omega arith;
        path = later.path old root.0 ∙ root.2;
        history = history;
        cut = cut_here k r.shape r.log (history_with r.log me.0.number item) s.words m own.next laws ground empties old (old_node k r.shape r.log (history_with r.log me.0.number item) s.words m own.next laws ground empties old root.0) root.1 root.3;
        words = λ n below. behind_heads k r.shape r.log (history_with r.log me.0.number item) s.words m own.next laws ground empties (old + n) (omega arith) ∙ sym (words_at-index s.words old 18 n below);
      }

  apart : Apart k me.0.number r.shape shape s.words words
  apart = apart_rooted k r.shape r.log (history_with r.log me.0.number item) s.words m own.next laws ground empties me.0.number (gate.2 refl) (λ i below. room.mine i (let left = spare in omega arith))

  grows : Grows r.calls (with_one r.calls me.0.number item)
  grows = grows_on k laws r.log r.calls (callers_of k) r.claim id r.lawful me.0 own owns is fits item may

  room_after : HasRoom k shape words me.0.number own_after
  room_after =
      let left = spare in let lies = room.lies in let within = room.within in let none_drafted : length own.draft ≡ 0 = ap length blank in record {
        lies = omega arith;
        within = omega arith;
        mine = λ i below. let at : own.next + 18 + i ≡ own.next + (18 + i) = omega arith in subst (λ n. r.shape.area_of n ≡ suc me.0.number) (sym at) (room.mine (18 + i) (omega arith));
        unused = λ i below. let at : own.next + 18 + i ≡ own.next + (18 + i) = omega arith in
            part_out k r.shape r.log (history_with r.log me.0.number item) s.words m own.next laws ground empties (own.next + 18 + i) (λ from to. omega arith) ∙ subst (λ n. r.shape.part_of n ≡ 0) (sym at) (room.unused (18 + i) (omega arith));
        words = λ i below. let at : own.next + 18 + i ≡ own.next + (18 + i) = omega arith in
            ap (slice_index words) at ∙ behind_heads k r.shape r.log (history_with r.log me.0.number item) s.words m own.next laws ground empties (own.next + (18 + i)) (omega arith)
            ∙ room.words (18 + i) (omega arith) ∙ past_end own.draft (18 + i) (omega arith);
      }

  rooms_after : (i : ℕ) (o : Own) → slice_get (own_after ∷ owns) i ≡ Some o → HasRoom k shape words (me.0.number + i) o
  rooms_after zero o at = let e : me.0.number ≡ me.0.number + 0 = omega arith in subst (λ (p : ℕ × Own). HasRoom k shape words p.0 p.1) (λ i. (e i, same_Some own_after o at i)) room_after
  rooms_after (suc i) o at = room_on k r.shape shape r.log (history_with r.log me.0.number item) s.words words later laws r.calls (with_one r.calls me.0.number item) grows me.0.number apart (me.0.number + suc i) (λ e. omega arith) o
      ((r.suits id me.0 at_me has.live).room (suc i) o (ap (λ o. slice_get o (suc i)) is ∙ at))

  only_after : (n i : ℕ) (o : Own) → slice_get (own_after ∷ owns) i ≡ Some o → r.shape.inside n (me.0.number + i) ≡ true → me.0.gate ≡ Inside n
  only_after n zero o at inside = absurd (not_inside k laws s r id me at_me own owns is m true has n 0 own first_is inside)
  only_after n (suc i) o at inside = absurd (not_inside k laws s r id me at_me own owns is m true has n (suc i) o (ap (λ o. slice_get o (suc i)) is ∙ at) inside)

  holder_after : (p i : ℕ) (o : Own) → slice_get (own_after ∷ owns) i ≡ Some o → shape.cut_of p ≡ None → shape.held_by p ≡ suc (me.0.number + i) → HoldsLock view_after p
  holder_after p i o at reach held = let was = was_held k r.shape r.log (history_with r.log me.0.number item) s.words m own.next laws ground empties p (me.0.number + i) reach held in by_place i at was.1
    where
      before : (r.shape.cut_of p ≡ None)
      before = (was_held k r.shape r.log (history_with r.log me.0.number item) s.words m own.next laws ground empties p (me.0.number + i) reach held).0

      by_place : (i : ℕ) → slice_get (own_after ∷ owns) i ≡ Some o → r.shape.held_by p ≡ suc (me.0.number + i) → HoldsLock view_after p
      by_place zero at held = (r.suits id me.0 at_me has.live).holder p 0 own first_is before held
      by_place (suc i) at held = (r.suits id me.0 at_me has.live).holder p (suc i) o (ap (λ o. slice_get o (suc i)) is ∙ at) before held

  closer_after : (n i : ℕ) (o : Own) → slice_get (own_after ∷ owns) i ≡ Some o → r.shape.closed_by n ≡ suc (me.0.number + i) → (alone : Bool) × (me.0.gate ≡ Closed n alone)
  closer_after n zero o at closed = (r.suits id me.0 at_me has.live).closer n 0 own first_is closed
  closer_after n (suc i) o at closed = (r.suits id me.0 at_me has.live).closer n (suc i) o (ap (λ o. slice_get o (suc i)) is ∙ at) closed

  suits_after : Suits k shape (history_with r.log me.0.number item) (with_one r.calls me.0.number item) words view_after
  suits_after = let u = r.suits id me.0 at_me has.live in record {
    begin = u.begin;
    walk = λ w e. absurd (none-some w (sym has.walk ∙ e));
    steady = λ w e inside. absurd (none-some w (sym has.walk ∙ e));
    leaf = λ z e. absurd (none-some z (sym has.leaf ∙ e));
    spot = λ z e. absurd (none-some z (sym has.spot ∙ e));
    cut = λ d has. elim (in_more node_cut me.0.cut d has) [
      | inl it ↦ subst (IsCutOff k shape (history_with r.log me.0.number item) words) it is_cut_off
      | inr before ↦ cut_on k r.shape shape r.log (history_with r.log me.0.number item) s.words words later d (u.cut d before)
    ];
    room = rooms_after;
    gate = subst (AtGate k shape me.0.number) (sym has.gate) (gate.0, gate.1, gate.2);
    only = only_after;
    holder = holder_after;
    closer = closer_after;
    lock = λ z e. absurd (none-some z (sym has.lock ∙ e));
    upper = λ z e. absurd (none-some z (sym has.upper ∙ e));
    nobody = λ e. absurd (let ne : suc (length owns) ≡ 0 = e in omega arith);
  }

  keys_after : HasKeysBelow (2 ^ 32) (contents_after (start_of k) (history_with r.log me.0.number item))
  keys_after n q x at = elim (cases_eq n m) [
    | inl mine ↦ absurd (none-some x (sym (empties.here q) ∙ subst (λ i. value_at (contents_after (start_of k) (history_with r.log me.0.number item)) i q ≡ Some x) mine at))
    | inr other ↦ r.keys n q x (sym (empties.others n q other) ∙ at)
  ]

  in_range : AreInRange (history_with r.log me.0.number item)
  in_range = more_in_range r.log me.0.number item r.values tt

  goes : GoesOn r.shape r.log r.calls s.views r.ordered shape (history_with r.log me.0.number item) (with_one r.calls me.0.number item) me.0.number view_after
  goes = goes_placed r.shape r.log r.calls s.views r.ordered me.0.number item me.0.time may.to may.last (places k s r) (at_the_end k s r me.0) shape view_after
      (owns_placed r.ordered.times me.0.number (call_number k s r me.0 (length r.log)) own own_after owns (subst (λ os. (i : ℕ) (o : Own) → slice_get os i ≡ Some o → r.ordered.times (me.0.number + i) ≡ o.times) is (r.ordered.seats id me.0 at_me has.live).owns) refl) has.walk

  fits_now : Fits (callers_of k) (history_with r.log me.0.number item) (with_one r.calls me.0.number item) r.claim id view_after
  fits_now = let f = fits_after k laws r.log r.calls (callers_of k) r.claim id r.lawful me.0 own owns is fits item may own_after refl (call_number k s r me.0 (length r.log)) in record { seen = f.seen; heard = f.heard; long = f.long; front = f.front; owns = f.owns }

  keeps_all : Keeps k s r id me.0.number words view_after
  keeps_all = record {
    log = history_with r.log me.0.number item;
    calls = with_one r.calls me.0.number item;
    shape = shape;
    mine = owned.claimed;
    lawful = lawful_after k laws r.log r.calls (callers_of k) r.claim id r.lawful me.0 own owns is fits item may;
    none_else = none_after k laws r.log r.calls (callers_of k) r.claim id r.lawful me.0 own owns is fits item may r.none_else;
    keys = keys_after;
    values = in_range;
    fine = fine_rooted k r.shape r.log (history_with r.log me.0.number item) s.words m own.next laws ground empties;
    gates = λ n below. gates_rooted k r.shape r.log (history_with r.log me.0.number item) s.words m own.next laws ground empties n below (r.gates n below);
    later = later;
    apart = apart;
    grows = grows;
    others = (adds_one r.calls me.0.number item).others;
    fits = fits_now;
    goes = goes;
    suits = suits_after;
    old = me.0;
    at_old = at_me;
    live = has.live;
    leaves = record {
      drafts = λ i u. subst (λ os. IsUndrafted os i) (sym is) (others_too own own_after owns i (λ past. let none_drafted : length own.draft ≡ 0 = ap length blank in omega arith) (mine_now k shape s.views id me.0 view_after at_me has.live i u));
      same = λ i u. get_or-set_other s.words (root_word k m) i own.next 0 (u.root m gate.0);
    };
  }

  pub kept_cleared : Kept k record { words = set s.words (root_word k m) own.next; homes = s.homes; views = set s.views id view_after }
  kept_cleared = moves k laws s r id me.0.number words view_after keeps_all

  pub is_cleared : IsCleared m view_after node_cut
  is_cleared = record { map = refl; top = refl; entry = entry_of me.0.number item; before = refl }

  pub is_made : MadeCall m Clear Done 18 (having_cut me.0 (node_cut ∷ [])) view_after
  is_made = record {
    item = item;
    time = call_number k s r me.0 (length r.log);
    seen = history_with r.log me.0.number item;
    is = ap (λ o. called_view (having_cut me.0 (node_cut ∷ [])) o (history_with r.log me.0.number item) (call_number k s r me.0 (length r.log))) (ap (λ o. spend 18 (with_item o item (call_number k s r me.0 (length r.log)))) (sym is));
    called = subst (λ b. Called (start_of b) (calls.Map m Clear) (replies.Map Done) 1 (view_state me.0) (view_state view_after)) (sym has.begin)
        (called k laws r.log r.calls (callers_of k) r.claim id r.lawful me.0 own owns is fits item may own_after refl (call_number k s r me.0 (length r.log))
        (past r.shape r.log r.calls s.views r.ordered me.0.number item me.0.time may.to may.last (places k s r) (at_the_end k s r me.0)) refl 1 (let left = spare in omega arith));
    looks = looks_so k (history_with r.log me.0.number item) (with_one r.calls me.0.number item) r.claim id view_after (lawful_after k laws r.log r.calls (callers_of k) r.claim id r.lawful me.0 own owns is fits item may)
        (none_after k laws r.log r.calls (callers_of k) r.claim id r.lawful me.0 own owns is fits item may r.none_else) fits_now in_range goes.entry_times goes.times goes.order goes.mine.owns has.begin;
  }

-- a seat that has closed a map's gate, and knows that no writer is inside, may write a new root
pub clears : (k : Begin) → HistoryLaws → (id : ℕ) (me : Me (Unit {0}) View) (m next : ℕ) → HasClosed k me m true → HasUnit me.0.owns next → Allows (Kept k) 0 id me (root_word k m) (λ n. next) (λ found. Clears m me)
clears k laws id me m next has (own, owns, is, blank, next_is, spare) = subst (λ x. Allows (Kept k) 0 id me (root_word k m) (λ n. x) (λ found. Clears m me)) next_is
    (λ s r one at_me bounded. (
      view_after k laws s r id me at_me own owns is m has spare blank,
      keeps,
      tt,
      kept_cleared k laws s r id me at_me own owns is m has spare blank,
      (refl, (node_cut k laws s r id me at_me own owns is m has spare blank, is_cleared k laws s r id me at_me own owns is m has spare blank, is_made k laws s r id me at_me own owns is m has spare blank)),
    ))
