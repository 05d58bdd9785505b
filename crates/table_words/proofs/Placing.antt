-- A call that is no entry is placed. No word changes, and its seat goes elsewhere.
use Rattle.std.proofs.Common.{◌≡◌, ℕ, zero, suc, ◌+◌, ◌≤◌, true, false, List, [], ◌∷◌, ◌++◌, length, set, Option, Some, None, slice_get, slice_index, ◌⊎◌, refl, sym, ap, ◌∙◌, subst, arith, Bool}
use Rattle.std.proofs.lemmas.Option.{same_Some, slice_get_within}
use mathlib.Core.Option.{some}
use lib.ListN.{get_elem?}
use Rattle.sync_model.specs.declared.item.Item.{Item}
use Rattle.sync_model.specs.declared.item.SharedCall.{SharedCall}
use Rattle.sync_model.specs.declared.item.SharedReply.{SharedReply}
use Rattle.sync_model.specs.SharedCalls.{Grows}
use Rattle.sync_model.specs.Shared.{Called}
use Rattle.table_rule.specs.declared.begin.Begin.{Begin}
use Rattle.table_rule.specs.declared.view.Gate.TheVariants.{Inside, Closed}
use Rattle.table_rule.specs.declared.view.Leaf.{Leaf}
use Rattle.table_rule.specs.declared.view.Own.{Own}
use Rattle.table_rule.specs.declared.view.View.{View}
use Rattle.table_rule.specs.declared.view.Spot.{Spot}
use Rattle.table_rule.specs.declared.view.Walk.{Walk}
use Rattle.table_words.specs.Laws.{HistoryLaws}
use Rattle.trie_nodes.specs.Layout.{dead_word}
use Rattle.table_rule.specs.Layout.{callers_of}
use Rattle.table_rule.specs.Ledger.{Owned, Fits}
use Rattle.table_rule.specs.Owed.{Walks, IsLeaf, HasRoom, Stands, Suits, HoldsLock}
use Rattle.table_rule.specs.Rule.{TableState, Kept}
use Rattle.table_rule.specs.Shape.{Shape, start_of}
use Rattle.table_rule.specs.Views.{called_view, paid, paid_own, MayPay, view_state, Looks}
use Rattle.table_words.proofs.Frames.{suits_on, stands_on}
use Rattle.table_words.proofs.Timing.{GoesOn, with_one, time_at, past, goes_placed, owns_placed}
use Rattle.table_words.proofs.Ledgers.{MayPlace, adds_one, lawful_after, grows_on, none_after, fits_after, called, first}
use Rattle.table_words.proofs.Looking.{looks_so}
use Rattle.table_words.proofs.Moves.{Keeps, moves}
use Rattle.table_rule.specs.Unused.{IsUndrafted, IsUnused}
use Rattle.table_words.proofs.Unused.{others_too, mine_now}
use Rattle.table_words.proofs.Quiet.{later_same, apart_same}

-- what a call leaves to its caller
pub paid_first : (cost : ℕ) (own : Own) (owns : List Own) → paid cost 0 (own ∷ owns) ≡ paid_own cost 0 own ∷ owns
paid_first zero own owns = refl
paid_first (suc cost) own owns = refl

paid_items : (cost : ℕ) (own : Own) → (paid_own cost 0 own).items ≡ own.items
paid_items zero own = refl
paid_items (suc cost) own = refl

paid_spare : (cost : ℕ) (own : Own) → MayPay cost own → (paid_own cost 0 own).spare + cost ≡ own.spare
paid_spare zero own pays = omega arith
paid_spare (suc cost) own pays = let one = pays.0 in let some_left = pays.1 in omega arith

paid_times : (cost : ℕ) (own : Own) → (paid_own cost 0 own).times ≡ own.times
paid_times zero own = refl
paid_times (suc cost) own = refl

pub paid_room : (k : Begin) (sh : Shape) (ws : List ℕ) (c cost : ℕ) (own : Own) (items : List Item) (times : List ℕ) → MayPay cost own → HasRoom k sh ws c own → HasRoom k sh ws c (paid_own cost 0 (record own { items = items; times = times }))
paid_room k sh ws c zero own items times pays h = record { lies = h.lies; within = h.within; mine = h.mine; unused = h.unused; words = h.words }
paid_room k sh ws c (suc cost) own items times pays h =
    let some_left = pays.1 in let lies = h.lies in let within = h.within in record {
      lies = omega arith;
      within = omega arith;
      mine = λ i below. let at : own.next + 0 + i ≡ own.next + i = omega arith in ap sh.area_of at ∙ h.mine i (omega arith);
      unused = λ i below. let at : own.next + 0 + i ≡ own.next + i = omega arith in ap sh.part_of at ∙ h.unused i (omega arith);
      words = λ i below. let at : own.next + 0 + i ≡ own.next + i = omega arith in ap (slice_index ws) at ∙ h.words i (omega arith) ∙ ap (λ d. slice_index d i) pays.2;
    }

-- the call as its caller's list has it
abbrev pub placed_item : SharedCall → SharedReply → ℕ → List ℕ → Item
placed_item call reply place front = record { call = call; reply = reply; place = place; entry = false; front = front }

-- the number of a seat's call that is placed here
abbrev pub call_number : (k : Begin) (s : TableState) (r : Kept k s) (v : View) → ℕ → ℕ
call_number k s r v place = time_at r.ordered.entry_times r.ordered.clock v.time place

-- behind the last entry is none
pub at_the_end : (k : Begin) (s : TableState) (r : Kept k s) (v : View) (n later : ℕ) → length r.log ≤ n → slice_get r.ordered.entry_times n ≡ Some later → v.time + 2 ≤ later
at_the_end k s r v n later from at = let inside = slice_get_within r.ordered.entry_times n later at in let sized = r.ordered.order.entries in absurd (omega arith)

-- each call has a place in the history
pub places : (k : Begin) (s : TableState) (r : Kept k s) (d j : ℕ) (y : Item) → slice_get (r.calls d) j ≡ Some y → y.place ≤ length r.log
places k s r d j y at = (r.lawful.sound d j y at).place

module _ (k : Begin) (laws : HistoryLaws) (s : TableState) (r : Kept k s) (id : ℕ) (v : View) (at_me : get_elem? s.views id ≡ some v) (live : v.live ≡ true) (own : Own) (owns : List Own) (is : v.owns ≡ own ∷ owns)
    (call : SharedCall) (reply : SharedReply) (place : ℕ) (may : MayPlace k laws r.log r.calls v own (placed_item call reply place v.front)) (fresh : (n later : ℕ) → place ≤ n → slice_get r.ordered.entry_times n ≡ Some later → v.time + 2 ≤ later) (cost : ℕ) (pays : MayPay cost own)
    (walk : Option Walk) (nowhere : walk ≡ None) (walks : (w : Walk) → walk ≡ Some w → Walks k r.shape r.log w) (steady : (w : Walk) → walk ≡ Some w → v.gate ≡ Inside w.map → (r.shape.cut_of w.node ≡ None) ⊎ (slice_index s.words w.node ≡ dead_word))
    (leaf : Option Leaf) (leaves : (l : Leaf) → leaf ≡ Some l → IsLeaf r.shape s.words l) (spot : Option Spot) (stands : (z : Spot) → spot ≡ Some z → Stands k r.shape r.log r.calls z) where
  fits : Fits (callers_of k) r.log r.calls r.claim id v
  fits = r.fits id v at_me live

  abbrev item : Item
  item = placed_item call reply place v.front

  abbrev own_after : Own
  own_after = paid_own cost 0 (record own { items = own.items ++ item ∷ []; times = own.times ++ call_number k s r v place ∷ [] })

  abbrev noted : Own
  noted = record own { items = own.items ++ item ∷ []; times = own.times ++ call_number k s r v place ∷ [] }

  abbrev pub view_after : View
  view_after = record (called_view v (own_after ∷ owns) r.log (call_number k s r v place)) { walk = walk; leaf = leaf; spot = spot }

  grows : Grows r.calls (with_one r.calls v.number item)
  grows = grows_on k laws r.log r.calls (callers_of k) r.claim id r.lawful v own owns is fits item may

  owned : Owned (callers_of k) r.calls r.claim id v.front v.number own
  owned = first k laws r.log r.calls (callers_of k) r.claim id r.lawful v own owns is fits

  suits_same : Suits k r.shape r.log (with_one r.calls v.number item) s.words v
  suits_same = suits_on k r.shape r.shape r.log r.log s.words s.words (later_same r.shape r.log s.words) laws r.calls (with_one r.calls v.number item) grows (callers_of k) (apart_same k (callers_of k) r.shape s.words) v
      (λ i own at e. let below = (fits.owns i own at).below in absurd (omega arith)) (r.suits id v at_me live)

  suits_after : Suits k r.shape r.log (with_one r.calls v.number item) s.words view_after
  suits_after = let u = suits_same in record {
    begin = u.begin;
    walk = walks;
    steady = steady;
    leaf = leaves;
    spot = λ z e. stands_on k r.shape r.shape r.log r.log s.words s.words (later_same r.shape r.log s.words) laws r.calls (with_one r.calls v.number item) grows z (stands z e);
    cut = u.cut;
    room = room_after u.room;
    gate = u.gate;
    only = λ m i o at inside. only_after u.only m i o at inside;
    holder = λ p i o at reach held. holder_after p u.holder i o at reach held;
    closer = λ m i o at closed. closer_after m u.closer i o at closed;
    lock = u.lock;
    upper = u.upper;
    nobody = λ e. absurd (let ne : suc (length owns) ≡ 0 = e in omega arith);
  }
    where
      first_is : slice_get v.owns 0 ≡ Some own
      first_is = ap (λ l. slice_get l 0) is

      room_after : ((i : ℕ) (o : Own) → slice_get v.owns i ≡ Some o → HasRoom k r.shape s.words (v.number + i) o) → (i : ℕ) (o : Own) → slice_get (own_after ∷ owns) i ≡ Some o → HasRoom k r.shape s.words (v.number + i) o
      room_after rooms zero o at = let h = rooms 0 own first_is in
          subst (HasRoom k r.shape s.words (v.number + 0)) (same_Some own_after o at) (paid_room k r.shape s.words (v.number + 0) cost own (own.items ++ item ∷ []) (own.times ++ call_number k s r v place ∷ []) pays h)
      room_after rooms (suc i) o at = rooms (suc i) o (ap (λ l. slice_get l (suc i)) is ∙ at)

      only_after : ((m i : ℕ) (o : Own) → slice_get v.owns i ≡ Some o → r.shape.inside m (v.number + i) ≡ true → v.gate ≡ Inside m) → (m i : ℕ) (o : Own) → slice_get (own_after ∷ owns) i ≡ Some o → r.shape.inside m (v.number + i) ≡ true → v.gate ≡ Inside m
      only_after only m zero o at inside = only m 0 own first_is inside
      only_after only m (suc i) o at inside = only m (suc i) o (ap (λ l. slice_get l (suc i)) is ∙ at) inside

      holder_after : (p : ℕ) → ((p i : ℕ) (o : Own) → slice_get v.owns i ≡ Some o → r.shape.cut_of p ≡ None → r.shape.held_by p ≡ suc (v.number + i) → HoldsLock v p)
          → (i : ℕ) (o : Own) → slice_get (own_after ∷ owns) i ≡ Some o → r.shape.cut_of p ≡ None → r.shape.held_by p ≡ suc (v.number + i) → HoldsLock view_after p
      holder_after p holder zero o at reach held = holder p 0 own first_is reach held
      holder_after p holder (suc i) o at reach held = holder p (suc i) o (ap (λ l. slice_get l (suc i)) is ∙ at) reach held

      closer_after : (m : ℕ) → ((m i : ℕ) (o : Own) → slice_get v.owns i ≡ Some o → r.shape.closed_by m ≡ suc (v.number + i) → (alone : Bool) × (v.gate ≡ Closed m alone))
          → (i : ℕ) (o : Own) → slice_get (own_after ∷ owns) i ≡ Some o → r.shape.closed_by m ≡ suc (v.number + i) → (alone : Bool) × (v.gate ≡ Closed m alone)
      closer_after m closer zero o at closed = closer m 0 own first_is closed
      closer_after m closer (suc i) o at closed = closer m (suc i) o (ap (λ l. slice_get l (suc i)) is ∙ at) closed

  fits_now : Fits (callers_of k) r.log (with_one r.calls v.number item) r.claim id view_after
  fits_now = let f = fits_after k laws r.log r.calls (callers_of k) r.claim id r.lawful v own owns is fits item may own_after (paid_items cost noted) (call_number k s r v place) in record { seen = f.seen; heard = f.heard; long = f.long; front = f.front; owns = f.owns }

  drafts_then : (i : ℕ) → IsUnused k r.shape (set s.views id view_after) i → IsUndrafted v.owns i
  drafts_then i u = let now = mine_now k r.shape s.views id v view_after at_me live i u in subst (λ os. IsUndrafted os i) (sym is) (others_too own own_after owns i (by_cost cost pays (now 0 own_after refl)) now)
    where
      by_cost : (c : ℕ) → MayPay c own → ((paid_own c 0 noted).next ≤ i → (paid_own c 0 noted).next + length (paid_own c 0 noted).draft ≤ i) → own.next ≤ i → own.next + length own.draft ≤ i
      by_cost zero free now past = now past
      by_cost (suc c) pays now past = let none_drafted : length own.draft ≡ 0 = ap length pays.2 in omega arith

  goes : GoesOn r.shape r.log r.calls s.views r.ordered r.shape r.log (with_one r.calls v.number item) v.number view_after
  goes = goes_placed r.shape r.log r.calls s.views r.ordered v.number item v.time may.to may.last (places k s r) fresh r.shape view_after
      (owns_placed r.ordered.times v.number (call_number k s r v place) own own_after owns (subst (λ os. (i : ℕ) (o : Own) → slice_get os i ≡ Some o → r.ordered.times (v.number + i) ≡ o.times) is (r.ordered.seats id v at_me live).owns) (paid_times cost noted)) nowhere

  keeps_placed : Keeps k s r id v.number s.words view_after
  keeps_placed = record {
    log = r.log;
    calls = with_one r.calls v.number item;
    shape = r.shape;
    mine = owned.claimed;
    lawful = lawful_after k laws r.log r.calls (callers_of k) r.claim id r.lawful v own owns is fits item may;
    none_else = none_after k laws r.log r.calls (callers_of k) r.claim id r.lawful v own owns is fits item may r.none_else;
    keys = r.keys;
    values = r.values;
    fine = r.fine;
    gates = r.gates;
    later = later_same r.shape r.log s.words;
    apart = apart_same k v.number r.shape s.words;
    grows = grows;
    others = (adds_one r.calls v.number item).others;
    fits = fits_now;
    goes = goes;
    suits = suits_after;
    old = v;
    at_old = at_me;
    live = live;
    leaves = record { drafts = drafts_then; same = λ i u. refl };
  }

  pub kept_placed : Kept k record { words = s.words; homes = s.homes; views = set s.views id view_after }
  kept_placed = moves k laws s r id v.number s.words view_after keeps_placed

  pays_on : (cost : ℕ) → MayPay cost own → MayPay cost noted
  pays_on zero pays = tt
  pays_on (suc cost) pays = pays

  pub is_called : v.begin ≡ k → Called (start_of v.begin) call reply cost (view_state v) (view_state view_after)
  is_called begin = subst (λ b. Called (start_of b) call reply cost (view_state v) (view_state view_after)) (sym begin)
      (called k laws r.log r.calls (callers_of k) r.claim id r.lawful v own owns is fits item may own_after (paid_items cost noted) (call_number k s r v place)
      (past r.shape r.log r.calls s.views r.ordered v.number item v.time may.to may.last (places k s r) fresh) (paid_times cost noted) cost (paid_spare cost noted (pays_on cost pays)))

  -- the seat has then seen the whole history
  pub looks_then : v.begin ≡ k → Looks view_after view_after
  looks_then begin = looks_so k r.log (with_one r.calls v.number item) r.claim id view_after (lawful_after k laws r.log r.calls (callers_of k) r.claim id r.lawful v own owns is fits item may)
      (none_after k laws r.log r.calls (callers_of k) r.claim id r.lawful v own owns is fits item may r.none_else) fits_now r.values goes.entry_times goes.times goes.order goes.mine.owns begin
