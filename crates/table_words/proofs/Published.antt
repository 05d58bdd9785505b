-- The step that publishes a call's change: the call is placed there as an entry, and one unit of its caller's room is used up.
use Rattle.std.proofs.Common.{◌≡◌, ◌≢◌, inl, inr, ℕ, zero, suc, ◌+◌, ◌*◌, ◌^◌, ◌<◌, ◌≤◌, true, false, cond, List, [], ◌∷◌, ◌++◌, length, set, Option, Some, None, slice_get, slice_index, refl, sym, ap, ◌∙◌, subst, arith, get_or-set_other, Bool}
use Rattle.std.proofs.lemmas.Bool.{cases_eq}
use Rattle.std.proofs.lemmas.Option.{none-some, same_Some}
use mathlib.Core.Option.{some}
use lib.ListN.{get_elem?}
use Rattle.sync_model.specs.declared.item.Item.{Item}
use Rattle.sync_model.specs.declared.item.SharedCall.TheVariants as calls
use Rattle.sync_model.specs.declared.item.SharedReply.TheVariants as replies
use Rattle.sync_types.specs.declared.map_object.MapCall.{MapCall}
use Rattle.sync_model.specs.Journal.{Begins}
use Rattle.sync_types.specs.SequentialMap.{map_reply, is_map_entry}
use Rattle.sync_model.specs.SharedCalls.{Grows}
use Rattle.sync_model.specs.SharedHistory.{map_at, value_at, contents_after, contents_at, history_with}
use Rattle.sync_model.specs.Shared.{Called}
use Rattle.table_rule.specs.declared.begin.Begin.{Begin}
use Rattle.table_rule.specs.declared.view.Gate.{Gate}
use Rattle.table_rule.specs.declared.view.Gate.TheVariants.{Outside, Inside, Closed}
use Rattle.table_rule.specs.declared.view.Lock.{Lock}
use Rattle.table_rule.specs.declared.view.Own.{Own}
use Rattle.table_rule.specs.declared.view.View.{View}
use Rattle.sync_types.specs.KeyCalls.{key_reply, is_key_entry, key_after}
use Rattle.sync_model.specs.EndsOfHistory.{HasKeysBelow}
use Rattle.table_words.specs.Laws.{HistoryLaws}
use Rattle.trie_nodes.specs.declared.slot.Slot.TheVariants.{Node}
use Rattle.trie_nodes.specs.Layout.{parent_word, slot_word, unit_words, dead_word}
use Rattle.trie_nodes.specs.Paths.{nibble}
use Rattle.trie_nodes.specs.Slots.{slot_in}
use Rattle.table_rule.specs.Layout.{callers_of}
use Rattle.table_rule.specs.Ledger.{Owned, Fits}
use Rattle.table_rule.specs.Owed.{HasRoom, Locks, AtGate, Suits, HoldsLock}
use Rattle.table_rule.specs.Rule.{TableState, Kept}
use Rattle.table_rule.specs.Shape.{Shape, start_of, Fine}
use Rattle.table_words.specs.TrieLaws.{TrieLaws}
use Rattle.table_rule.specs.Units.{link_at, with_unit}
use Rattle.table_rule.specs.Values.{HasSmallValues}
use Rattle.table_rule.specs.Views.{called_view, spend_own, view_state, Looks}
use Rattle.table_words.proofs.Frames.{Later, Apart, cut_on, room_on, stands_on}
use Rattle.table_words.proofs.KeyCalls.{IsOn, ChangesKey, changes_key}
use Rattle.table_words.proofs.Ledgers.{longer, MayPlace, adds_one, lawful_after, history_on, grows_on, none_after, fits_after, called, first, more_in_range}
use Rattle.table_words.proofs.Lists.{past_end}
use Rattle.table_words.proofs.Looking.{looks_so}
use Rattle.table_words.proofs.Moves.{Keeps, moves}
use Rattle.table_words.proofs.Outside.{nibble_below}
use Rattle.table_words.proofs.Publishing as publishing
use Rattle.table_words.proofs.Sites.{Site}
use Rattle.table_words.proofs.Still.{holds_one}
use Rattle.table_rule.specs.Unused.{IsUndrafted, IsUnused}
use Rattle.table_words.proofs.Unused.{in_node, others_too, mine_now}
use Rattle.table_words.proofs.Units as units
use Rattle.table_words.proofs.Placing.{call_number, at_the_end, places}
use Rattle.table_words.proofs.Timing.{GoesOn, goes_placed, owns_placed, past, with_one}

-- a caller that holds a node's lock knows the word in the slot for a key, which isn't a node's, and has a unit of room
pub record IsReady (k : Begin) (v : View) (own : Own) (owns : List Own) (l : Lock) (m word nodes : ℕ) : Type 0 where
  pub live : v.live ≡ true
  pub is : v.owns ≡ own ∷ owns
  pub locked : v.lock ≡ Some l
  pub living : l.dead ≡ false
  pub alone : v.upper ≡ None
  pub inside : v.gate ≡ Inside m
  pub found : l.found ≡ Some (nibble l.key k.seed l.level, word)
  pub leaf : (below : ℕ) → slot_in word ≢ Node below
  pub few : l.level + nodes < 8
  pub spare : 0 < own.spare
  pub short : length own.draft ≤ 2 + 18 * nodes

module _ (k : Begin) (laws : HistoryLaws) (tries : TrieLaws) (s : TableState) (r : Kept k s) (id : ℕ) (v : View) (at_me : get_elem? s.views id ≡ some v) (own : Own) (owns : List Own) (l : Lock) (m word nodes : ℕ) (ready : IsReady k v own owns l m word nodes) where
  fits : Fits (callers_of k) r.log r.calls r.claim id v
  fits = r.fits id v at_me ready.live

  owned : Owned (callers_of k) r.calls r.claim id v.front v.number own
  owned = first k laws r.log r.calls (callers_of k) r.claim id r.lawful v own owns ready.is fits

  first_is : slice_get v.owns 0 ≡ Some own
  first_is = ap (λ o. slice_get o 0) ready.is

  room : HasRoom k r.shape s.words v.number own
  room = let e : v.number + 0 ≡ v.number = omega arith in subst (λ c. HasRoom k r.shape s.words c own) e ((r.suits id v at_me ready.live).room 0 own first_is)

  pub locks : Locks k r.shape s.words v.number m l
  locks = let h = (r.suits id v at_me ready.live).lock l ready.locked in
      let same : h.0 ≡ m = by_gate h.0 (sym h.1 ∙ ready.inside) in subst (λ n. Locks k r.shape s.words v.number n l) same h.2
    where
      map_in : Gate → ℕ
      map_in Outside = 0
      map_in (Inside n) = n
      map_in (Closed n alone) = n

      by_gate : (n : ℕ) → Inside n ≡ Inside m → n ≡ m
      by_gate n e = ap map_in e

  pub slot_is : slice_index s.words (slot_word l.node (nibble l.key k.seed l.level)) ≡ word
  slot_is = (locks.found (nibble l.key k.seed l.level) word ready.found).1

  in_room : (i : ℕ) → i < unit_words → i < unit_words * own.spare
  in_room i below = let spare = ready.spare in omega arith

  pub site : Site k r.shape r.log s.words m l.node l.level l.key own.next nodes
  site = let spare = ready.spare in let within = room.within in record {
    fine = r.fine;
    node = locks.node;
    map = locks.map;
    path = locks.path;
    reachable = locks.reachable;
    level = locks.level;
    is_key = locks.key;
    leaf = λ below e. ready.leaf below (ap slot_in (sym slot_is) ∙ e);
    lies = room.lies;
    within = omega arith;
    unused = λ i below. room.unused i (in_room i below);
    few = ready.few;
  }

  pub draft_word : (i : ℕ) → i < unit_words → slice_index s.words (own.next + i) ≡ slice_index own.draft i
  draft_word i below = room.words i (in_room i below)

  pub alive : slice_index s.words l.node ≢ dead_word
  alive dead = let below = owned.below in let most = r.begin.callers in
      let at : suc v.number ≡ dead_word = sym (locks.word ∙ ap (λ b. cond b dead_word (suc v.number)) ready.living) ∙ dead in omega arith

  below_maps : m < k.maps
  below_maps = (subst (AtGate k r.shape v.number) ready.inside (r.suits id v at_me ready.live).gate).0

  module _ (call : MapCall ℕ) (on : IsOn l.key call) (is_entry : is_key_entry call (value_at (contents_after (start_of k) r.log) m l.key) ≡ true) where
    abbrev pub held : Option ℕ
    held = value_at (contents_after (start_of k) r.log) m l.key

    abbrev pub item : Item
    item = record { call = calls.Map m call; reply = replies.Map (key_reply call (value_at (contents_after (start_of k) r.log) m l.key)); place = length r.log; entry = true; front = v.front }

    now : contents_at (start_of k) r.log (length r.log) ≡ contents_after (start_of k) r.log
    now = laws.contents_all (start_of k) r.log (length r.log) (omega arith)

    may : MayPlace k laws r.log r.calls v own item
    may = record {
      from = longer v.seen r.log fits.seen;
      to = omega arith;
      last = λ entry. refl;
      front = refl;
      reply = ap (λ x. replies.Map x) (sym (laws.keys.replies call l.key (map_at (contents_after (start_of k) r.log) m) on)) ∙ ap (λ z. replies.Map (map_reply call (map_at z m))) (sym now);
      entry = sym is_entry ∙ sym (laws.keys.entries call l.key (map_at (contents_after (start_of k) r.log) m) on) ∙ ap (λ z. is_map_entry call (map_at z m)) (sym now);
      begun = λ b next. absurd (cc);
      shows = λ b n y shown at begin next reply. absurd (cc);
    }

    history : Begins (history_with r.log v.number item) r.log
    history = history_on k laws r.log r.calls (callers_of k) r.claim id r.lawful v own owns ready.is fits item may

    pub changes : ChangesKey k r.log (history_with r.log v.number item) m l.key (key_after call (value_at (contents_after (start_of k) r.log) m l.key))
    changes = changes_key k laws r.log v.number item m l.key call refl on below_maps (sym is_entry ∙ sym (laws.keys.entries call l.key (map_at (contents_after (start_of k) r.log) m) on)) history

    abbrev pub own_after : Own
    own_after = spend_own (2 + 18 * nodes) (record own { items = own.items ++ item ∷ []; times = own.times ++ call_number k s r v (length r.log) ∷ [] })

    abbrev pub lock_after : Lock
    lock_after = record l { found = None; empty = 0 }

    abbrev pub view_after : View
    view_after = record (called_view v (own_after ∷ owns) (history_with r.log v.number item) (call_number k s r v (length r.log))) { walk = None; leaf = None; lock = Some lock_after }

    abbrev shape : Shape
    shape = with_unit r.shape k.seed m l.level l.key own.next nodes

    fits_now : Fits (callers_of k) (history_with r.log v.number item) (with_one r.calls v.number item) r.claim id view_after
    fits_now = let f = fits_after k laws r.log r.calls (callers_of k) r.claim id r.lawful v own owns ready.is fits item may own_after refl (call_number k s r v (length r.log)) in record { seen = f.seen; heard = f.heard; long = f.long; front = f.front; owns = f.owns }

    goes : GoesOn r.shape r.log r.calls s.views r.ordered shape (history_with r.log v.number item) (with_one r.calls v.number item) v.number view_after
    goes = goes_placed r.shape r.log r.calls s.views r.ordered v.number item v.time may.to may.last (places k s r) (at_the_end k s r v) shape view_after
        (owns_placed r.ordered.times v.number (call_number k s r v (length r.log)) own own_after owns (subst (λ os. (i : ℕ) (o : Own) → slice_get os i ≡ Some o → r.ordered.times (v.number + i) ≡ o.times) ready.is (r.ordered.seats id v at_me ready.live).owns) refl) refl

    -- the seat has then seen the whole history
    pub looks_then : HasSmallValues call → v.begin ≡ k → Looks view_after view_after
    looks_then small begin = looks_so k (history_with r.log v.number item) (with_one r.calls v.number item) r.claim id view_after (lawful_after k laws r.log r.calls (callers_of k) r.claim id r.lawful v own owns ready.is fits item may)
        (none_after k laws r.log r.calls (callers_of k) r.claim id r.lawful v own owns ready.is fits item may r.none_else) fits_now (more_in_range r.log v.number item r.values small) goes.entry_times goes.times goes.order goes.mine.owns begin

    module _ (small : HasSmallValues call) (x : ℕ) (fine : Fine k (with_unit r.shape k.seed m l.level l.key own.next nodes) (history_with r.log v.number item) (set s.words (slot_word l.node (nibble l.key k.seed l.level)) x)) where
      abbrev words : List ℕ
      words = set s.words (slot_word l.node (nibble l.key k.seed l.level)) x

      value : Option ℕ
      value = key_after call (value_at (contents_after (start_of k) r.log) m l.key)

      later : Later r.shape shape r.log (history_with r.log v.number item) s.words words
      later = publishing.later_published k r.shape r.log (history_with r.log v.number item) s.words m l.node l.level l.key x own.next nodes (key_after call (value_at (contents_after (start_of k) r.log) m l.key)) laws tries site changes

      apart : Apart k v.number r.shape shape s.words words
      apart = publishing.apart_published k r.shape r.log (history_with r.log v.number item) s.words m l.node l.level l.key x own.next nodes (key_after call (value_at (contents_after (start_of k) r.log) m l.key)) laws tries site changes
          v.number locks.mine (λ i below. room.mine i (in_room i below))

      grows : Grows r.calls (with_one r.calls v.number item)
      grows = grows_on k laws r.log r.calls (callers_of k) r.claim id r.lawful v own owns ready.is fits item may

      same_gate : (gate : Gate) → AtGate k r.shape v.number gate → AtGate k shape v.number gate
      same_gate Outside at = at
      same_gate (Inside n) at = at
      same_gate (Closed n alone) at = at

      locks_after : Locks k shape words v.number m lock_after
      locks_after =
          let old : (i : ℕ) → l.node ≤ i → i < l.node + 2 → slice_index words i ≡ slice_index s.words i = (λ i. publishing.top_word k r.shape r.log (history_with r.log v.number item) s.words m l.node l.level l.key x own.next nodes (key_after call (value_at (contents_after (start_of k) r.log) m l.key)) laws tries site changes l.node i locks.node) in record {
            node = later.node l.node locks.node;
            map = later.map l.node locks.node ∙ locks.map;
            key = locks.key;
            level = locks.level;
            path = later.path l.node locks.node ∙ locks.path;
            reachable = publishing.old_cut k r.shape r.log (history_with r.log v.number item) s.words m l.node l.level l.key x own.next nodes (key_after call (value_at (contents_after (start_of k) r.log) m l.key)) laws tries site changes l.node locks.node ∙ locks.reachable;
            mine = publishing.old_holder k r.shape r.log (history_with r.log v.number item) s.words m l.node l.level l.key x own.next nodes (key_after call (value_at (contents_after (start_of k) r.log) m l.key)) laws tries site changes l.node locks.node ∙ locks.mine;
            word = old l.node (omega arith) (omega arith) ∙ locks.word;
            parent = old (parent_word l.node) (omega arith) (omega arith) ∙ locks.parent;
            found = λ slot w e. absurd (none-some (slot, w) e);
            few = omega arith;
            empty_so_far = λ slot below. absurd (omega arith);
          }

      room_after : HasRoom k shape words v.number own_after
      room_after =
          let spare = ready.spare in let lies = room.lies in let within = room.within in let short = ready.short in let few = ready.few in record {
            lies = omega arith;
            within = omega arith;
            mine = λ i below. let at : own.next + (2 + 18 * nodes) + i ≡ own.next + (2 + 18 * nodes + i) = omega arith in subst (λ n. r.shape.area_of n ≡ suc v.number) (sym at) (room.mine (2 + 18 * nodes + i) (omega arith));
            unused = λ i below. let at : own.next + (2 + 18 * nodes) + i ≡ own.next + (2 + 18 * nodes + i) = omega arith in
                units.part_outside r.shape tries k.seed m l.level l.key own.next nodes (own.next + (2 + 18 * nodes) + i) (λ past. omega arith) ∙ subst (λ n. r.shape.part_of n ≡ 0) (sym at) (room.unused (2 + 18 * nodes + i) (omega arith));
            words = λ i below. let at : own.next + (2 + 18 * nodes) + i ≡ own.next + (2 + 18 * nodes + i) = omega arith in
                let none_there = room.unused (2 + 18 * nodes + i) (omega arith) in
                ap (slice_index words) at ∙ publishing.free_word k r.shape r.log (history_with r.log v.number item) s.words m l.node l.level l.key x own.next nodes (key_after call (value_at (contents_after (start_of k) r.log) m l.key)) laws tries site changes (own.next + (2 + 18 * nodes + i)) none_there
                ∙ room.words (2 + 18 * nodes + i) (omega arith) ∙ past_end own.draft (2 + 18 * nodes + i) (omega arith);
          }

      rooms_after : (i : ℕ) (o : Own) → slice_get (own_after ∷ owns) i ≡ Some o → HasRoom k shape words (v.number + i) o
      rooms_after zero o at = let e : v.number ≡ v.number + 0 = omega arith in subst (λ (p : ℕ × Own). HasRoom k shape words p.0 p.1) (λ i. (e i, same_Some own_after o at i)) room_after
      rooms_after (suc i) o at = room_on k r.shape shape r.log (history_with r.log v.number item) s.words words later laws r.calls (with_one r.calls v.number item) grows v.number apart (v.number + suc i) (λ e. omega arith) o
          ((r.suits id v at_me ready.live).room (suc i) o (ap (λ o. slice_get o (suc i)) ready.is ∙ at))

      only_after : (n i : ℕ) (o : Own) → slice_get (own_after ∷ owns) i ≡ Some o → r.shape.inside n (v.number + i) ≡ true → v.gate ≡ Inside n
      only_after n zero o at inside = (r.suits id v at_me ready.live).only n 0 own first_is inside
      only_after n (suc i) o at inside = (r.suits id v at_me ready.live).only n (suc i) o (ap (λ o. slice_get o (suc i)) ready.is ∙ at) inside

      -- its lock is the one that it has
      one_lock : (p : ℕ) → HoldsLock v p → HoldsLock view_after p
      one_lock p h = (lock_after, inl refl, holds_one v l p ready.locked ready.alone h)

      holder_after : (p i : ℕ) (o : Own) → slice_get (own_after ∷ owns) i ≡ Some o → shape.cut_of p ≡ None → shape.held_by p ≡ suc (v.number + i) → HoldsLock view_after p
      holder_after p i o at reach held = by_place i at before.1
        where
          before : (r.shape.cut_of p ≡ None) × (r.shape.held_by p ≡ suc (v.number + i))
          before = units.was_held r.shape tries k.seed m l.level l.key own.next nodes p (v.number + i) reach held

          by_place : (i : ℕ) → slice_get (own_after ∷ owns) i ≡ Some o → r.shape.held_by p ≡ suc (v.number + i) → HoldsLock view_after p
          by_place zero at held = one_lock p ((r.suits id v at_me ready.live).holder p 0 own first_is before.0 held)
          by_place (suc i) at held = one_lock p ((r.suits id v at_me ready.live).holder p (suc i) o (ap (λ o. slice_get o (suc i)) ready.is ∙ at) before.0 held)

      closer_after : (n i : ℕ) (o : Own) → slice_get (own_after ∷ owns) i ≡ Some o → r.shape.closed_by n ≡ suc (v.number + i) → (alone : Bool) × (v.gate ≡ Closed n alone)
      closer_after n zero o at closed = (r.suits id v at_me ready.live).closer n 0 own first_is closed
      closer_after n (suc i) o at closed = (r.suits id v at_me ready.live).closer n (suc i) o (ap (λ o. slice_get o (suc i)) ready.is ∙ at) closed

      suits_after : Suits k shape (history_with r.log v.number item) (with_one r.calls v.number item) words view_after
      suits_after = let u = r.suits id v at_me ready.live in record {
        begin = u.begin;
        walk = λ w e. absurd (none-some w e);
        steady = λ w e gate. absurd (none-some w e);
        leaf = λ z e. absurd (none-some z e);
        spot = λ z e. stands_on k r.shape shape r.log (history_with r.log v.number item) s.words words later laws r.calls (with_one r.calls v.number item) grows z (u.spot z e);
        cut = λ d cut. cut_on k r.shape shape r.log (history_with r.log v.number item) s.words words later d (u.cut d cut);
        room = rooms_after;
        gate = same_gate v.gate u.gate;
        only = only_after;
        holder = holder_after;
        closer = closer_after;
        lock = λ z e. (m, ready.inside, subst (Locks k shape words v.number m) (same_Some lock_after z e) locks_after);
        upper = λ z e. absurd (none-some z (sym ready.alone ∙ e));
        nobody = λ e. absurd (let ne : suc (length owns) ≡ 0 = e in omega arith);
      }

      keys_after : HasKeysBelow (2 ^ 32) (contents_after (start_of k) (history_with r.log v.number item))
      keys_after n q x at = elim (cases_eq q l.key) [
        | inl same ↦ subst (λ i. i < 2 ^ 32) (sym same) locks.key
        | inr other ↦ r.keys n q x (sym (changes.others n q (inr other)) ∙ at)
      ]

      -- what was drafted is now the words of an entry and of nodes
      used_up : (i : ℕ) → IsUnused k shape (set s.views id view_after) i → own.next ≤ i → own.next + length own.draft ≤ i
      used_up i u past = let all = beyond nodes (omega arith) in let short = ready.short in omega arith
        where
          beyond : (n : ℕ) → n ≤ nodes → own.next + 2 + 18 * n ≤ i
          beyond zero le = let behind = u.entry own.next (units.entry_kind r.shape tries k.seed m l.level l.key own.next nodes) past in omega arith
          beyond (suc n) le = let before = beyond n (omega arith) in let behind = u.node (link_at own.next n) (units.link_kind r.shape tries k.seed m l.level l.key own.next nodes n (omega arith)) before in omega arith

      keeps_all : Keeps k s r id v.number words view_after
      keeps_all = record {
        log = history_with r.log v.number item;
        calls = with_one r.calls v.number item;
        shape = shape;
        mine = owned.claimed;
        lawful = lawful_after k laws r.log r.calls (callers_of k) r.claim id r.lawful v own owns ready.is fits item may;
        none_else = none_after k laws r.log r.calls (callers_of k) r.claim id r.lawful v own owns ready.is fits item may r.none_else;
        keys = keys_after;
        values = more_in_range r.log v.number item r.values small;
        fine = fine;
        gates = λ n below. publishing.gates_published k r.shape r.log (history_with r.log v.number item) s.words m l.node l.level l.key x own.next nodes (key_after call (value_at (contents_after (start_of k) r.log) m l.key)) laws tries site changes n below (r.gates n below);
        later = later;
        apart = apart;
        grows = grows;
        others = (adds_one r.calls v.number item).others;
        fits = fits_now;
        goes = goes;
        suits = suits_after;
        old = v;
        at_old = at_me;
        live = ready.live;
        leaves = record {
          drafts = λ i u. subst (λ os. IsUndrafted os i) (sym ready.is) (others_too own own_after owns i (used_up i u) (mine_now k shape s.views id v view_after at_me ready.live i u));
          same = λ i u. let small = nibble_below l.key k.seed l.level in get_or-set_other s.words (slot_word l.node (nibble l.key k.seed l.level)) i x 0
              (in_node k shape (set s.views id view_after) l.node (slot_word l.node (nibble l.key k.seed l.level)) i (later.node l.node locks.node) (omega arith) (omega arith) u);
        };
      }

      pub kept_published : Kept k record { words = set s.words (slot_word l.node (nibble l.key k.seed l.level)) x; homes = s.homes; views = set s.views id view_after }
      kept_published = moves k laws s r id v.number words view_after keeps_all

    pub is_called : Called (start_of k) (calls.Map m call) (replies.Map (key_reply call (value_at (contents_after (start_of k) r.log) m l.key))) 1 (view_state v) (view_state view_after)
    is_called = let spare = ready.spare in called k laws r.log r.calls (callers_of k) r.claim id r.lawful v own owns ready.is fits item may own_after refl (call_number k s r v (length r.log))
        (past r.shape r.log r.calls s.views r.ordered v.number item v.time may.to may.last (places k s r) (at_the_end k s r v)) refl 1 (omega arith)
