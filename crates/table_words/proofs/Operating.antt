-- An operation on an atomic's word keeps the rule, and places its call.
use Rattle.std.proofs.Common.{◌≡◌, ℕ, zero, suc, ◌+◌, ◌<◌, true, List, [], ◌∷◌, ◌++◌, length, set, Some, slice_get, slice_index, refl, sym, ap, ◌∙◌, subst, arith, get_or-set_other, Bool, None}
use Rattle.std.proofs.lemmas.Option.{same_Some, slice_get_within}
use mathlib.Core.Option.{some}
use lib.ListN.{get_elem?}
use Rattle.atomic_table.specs.Table.{Me, keeps, Allows}
use Rattle.sync_types.specs.declared.atomic_object.AtomicCall.{AtomicCall}
use Rattle.sync_types.specs.declared.atomic_object.AtomicKind.{AtomicKind}
use Rattle.sync_types.specs.declared.atomic_object.Number.{Number}
use Rattle.sync_model.specs.declared.item.Item.{Item}
use Rattle.sync_model.specs.declared.item.SharedCall.TheVariants.{Atomic}
use Rattle.sync_model.specs.declared.item.SharedReply.TheVariants as replies
use Rattle.sync_model.specs.Journal.{Begins}
use Rattle.sync_types.specs.SequentialAtomic.{atomic_reply, atomic_after, is_atomic_entry}
use Rattle.sync_model.specs.SharedHistory.{number_at, contents_after, contents_at, entry_of, history_with}
use Rattle.sync_model.specs.SharedCalls.{Grows}
use Rattle.sync_model.specs.Shared.{Called}
use Rattle.sync_types.specs.WordLayout.{is_word, number_in}
use Rattle.table_rule.specs.declared.begin.Begin.{Begin}
use Rattle.table_rule.specs.declared.view.Own.{Own}
use Rattle.table_rule.specs.declared.view.Gate.TheVariants.{Inside, Closed}
use Rattle.table_rule.specs.declared.view.View.{View}
use Rattle.table_words.specs.Laws.{HistoryLaws}
use Rattle.trie_nodes.specs.Layout.{atomic_word}
use Rattle.table_rule.specs.Layout.{callers_of}
use Rattle.table_rule.specs.Ledger.{Owned, Fits}
use Rattle.table_rule.specs.Operations.{IsOperation, IsAtEnd, PlacesCall, Operates}
use Rattle.table_rule.specs.Owed.{HasRoom, Suits, HoldsLock}
use Rattle.table_rule.specs.Rule.{TableState, Kept}
use Rattle.table_rule.specs.Shape.{start_of, IsNumber}
use Rattle.table_rule.specs.Views.{with_item, called_view, view_state, Looks}
use Rattle.table_words.proofs.Frames.{suits_on}
use Rattle.table_words.proofs.KeyBounds.{keys_on}
use Rattle.table_words.proofs.Ledgers.{longer, bound_at_end, MayPlace, adds_one, lawful_after, history_on, grows_on, none_after, fits_after, called, contents_on, first, more_in_range}
use Rattle.table_words.proofs.Looking.{looks_so}
use Rattle.table_words.proofs.Moves.{Keeps, moves}
use Rattle.table_rule.specs.Unused.{IsUndrafted}
use Rattle.table_words.proofs.Unused.{others_too, mine_now}
use Rattle.table_words.proofs.Numbers.{gates_on, apart_on, later_on, fine_on}
use Rattle.table_words.proofs.Placing.{call_number, at_the_end, places}
use Rattle.table_words.proofs.Timing.{GoesOn, past, goes_placed, owns_placed, with_one}
use Rattle.table_words.proofs.Quiet.{allows_told}
use Rattle.table_rule.specs.Walking.{told_at}

-- what is owed to a seat stays so at its own step on an atomic
module _ (k : Begin) (laws : HistoryLaws) (s : TableState) (r : Kept k s) (id : ℕ) (v : View) (at_me : get_elem? s.views id ≡ some v) (live : v.live ≡ true) (own : Own) (owns : List Own) (is : v.owns ≡ own ∷ owns) (nowhere : v.walk ≡ None)
    (a : ℕ) (kind : AtomicKind) (at : slice_get k.kinds a ≡ Some kind) (call : AtomicCall) where
  fits : Fits (callers_of k) r.log r.calls r.claim id v
  fits = r.fits id v at_me live

  abbrev held : Number
  held = number_at (contents_after (start_of k) r.log) a

  -- the call
  abbrev pub item : Item
  item = record {
    call = Atomic a call;
    reply = replies.Atomic (atomic_reply call (number_at (contents_after (start_of k) r.log) a));
    place = length r.log;
    entry = is_atomic_entry call (number_at (contents_after (start_of k) r.log) a);
    front = v.front;
  }

  place : contents_at (start_of k) r.log (length r.log) ≡ contents_after (start_of k) r.log
  place = laws.contents_all (start_of k) r.log (length r.log) (omega arith)

  pub may : MayPlace k laws r.log r.calls v own item
  may = record {
    from = longer v.seen r.log fits.seen;
    to = omega arith;
    last = λ entry. refl;
    front = refl;
    reply = ap (λ contents. replies.Atomic (atomic_reply call (number_at contents a))) (sym place);
    entry = ap (λ contents. is_atomic_entry call (number_at contents a)) (sym place);
    begun = λ b next. absurd (cc);
    shows = λ b m y shown at begin next reply. absurd (cc);
  }

  -- the caller after it
  abbrev pub own_after : Own
  own_after = record own { items = own.items ++ item ∷ []; times = own.times ++ call_number k s r v (length r.log) ∷ [] }

  abbrev pub view_after : View
  view_after = called_view v (own_after ∷ owns) (history_with r.log v.number item) (call_number k s r v (length r.log))

  goes : GoesOn r.shape r.log r.calls s.views r.ordered r.shape (history_with r.log v.number item) (with_one r.calls v.number item) v.number view_after
  goes = goes_placed r.shape r.log r.calls s.views r.ordered v.number item v.time may.to may.last (places k s r) (at_the_end k s r v) r.shape view_after
      (owns_placed r.ordered.times v.number (call_number k s r v (length r.log)) own own_after owns (subst (λ os. (i : ℕ) (o : Own) → slice_get os i ≡ Some o → r.ordered.times (v.number + i) ≡ o.times) is (r.ordered.seats id v at_me live).owns) refl) nowhere

  fits_now : Fits (callers_of k) (history_with r.log v.number item) (with_one r.calls v.number item) r.claim id view_after
  fits_now = fits_after k laws r.log r.calls (callers_of k) r.claim id r.lawful v own owns is fits item may own_after refl (call_number k s r v (length r.log))

  -- the seat has then seen the whole history, and the call lies at its end
  pub looks_then : v.begin ≡ k → Looks view_after view_after
  looks_then begin = looks_so k (history_with r.log v.number item) (with_one r.calls v.number item) r.claim id view_after (lawful_after k laws r.log r.calls (callers_of k) r.claim id r.lawful v own owns is fits item may)
      (none_after k laws r.log r.calls (callers_of k) r.claim id r.lawful v own owns is fits item may r.none_else) fits_now (more_in_range r.log v.number item r.values tt) goes.entry_times goes.times goes.order goes.mine.owns begin

  pub at_end : IsAtEnd (view_state view_after)
  at_end = record {
    holding = record { number = v.number; items = own.items ++ item ∷ []; times = own.times ++ call_number k s r v (length r.log) ∷ []; spare = own.spare };
    own = refl;
    earlier = own.items;
    item = item;
    items = refl;
    last = bound_at_end r.log (entry_of v.number item) item.entry;
  }

  module _ (f : ℕ → ℕ) (operation : IsOperation kind call f) where
    abbrev found : ℕ
    found = slice_index s.words (atomic_word a)

    abbrev words_after : List ℕ
    words_after = set s.words (atomic_word a) (f (slice_index s.words (atomic_word a)))

    after_number : IsNumber kind (f (slice_index s.words (atomic_word a))) (atomic_after call (number_at (contents_after (start_of k) r.log) a))
    after_number = let now = r.fine.numbers a kind at in (operation.keeps (slice_index s.words (atomic_word a)) now.0, ap (atomic_after call) now.1 ∙ sym (operation.leads (slice_index s.words (atomic_word a)) now.0))

    contents_are : contents_after (start_of k) (history_with r.log v.number item) ≡ record (contents_after (start_of k) r.log) { numbers = set (contents_after (start_of k) r.log).numbers a (atomic_after call (number_at (contents_after (start_of k) r.log) a)) }
    contents_are = contents_on laws k r.log v.number item refl

    history : Begins (history_with r.log v.number item) r.log
    history = history_on k laws r.log r.calls (callers_of k) r.claim id r.lawful v own owns is fits item may

    grows : Grows r.calls (with_one r.calls v.number item)
    grows = grows_on k laws r.log r.calls (callers_of k) r.claim id r.lawful v own owns is fits item may

    owned : Owned (callers_of k) r.calls r.claim id v.front v.number own
    owned = first k laws r.log r.calls (callers_of k) r.claim id r.lawful v own owns is fits

    -- the seat's own things stay: no caller has the number that is one too high
    suits_same : Suits k r.shape (history_with r.log v.number item) (with_one r.calls v.number item) words_after v
    suits_same = suits_on k r.shape r.shape r.log (history_with r.log v.number item) s.words words_after (later_on k laws r.shape r.log (history_with r.log v.number item) s.words a (f found) kind at r.fine history) laws
        r.calls (with_one r.calls v.number item) grows (callers_of k) (apart_on k laws r.shape r.log (history_with r.log v.number item) s.words a (f found) kind at r.fine (callers_of k)) v
        (λ i own at e. let below = (fits.owns i own at).below in absurd (omega arith)) (r.suits id v at_me live)

    suits_after : Suits k r.shape (history_with r.log v.number item) (with_one r.calls v.number item) words_after view_after
    suits_after = let u = suits_same in record {
      begin = u.begin;
      walk = u.walk;
      steady = u.steady;
      leaf = u.leaf;
      spot = u.spot;
      cut = u.cut;
      room = room_after u.room;
      gate = u.gate;
      only = λ m i o at inside. only_after u.only m i o at inside;
      holder = λ p i o at reach held. holder_after p u.holder i o at reach held;
      closer = λ m i o at closed. closer_after m u.closer i o at closed;
      lock = u.lock;
      upper = u.upper;
      nobody = λ e. absurd (let ne : suc (length owns) ≡ 0 = e in omega arith);
    }
      where
        first_is : slice_get v.owns 0 ≡ Some own
        first_is = ap (λ l. slice_get l 0) is

        room_after : ((i : ℕ) (o : Own) → slice_get v.owns i ≡ Some o → HasRoom k r.shape words_after (v.number + i) o) → (i : ℕ) (o : Own) → slice_get (own_after ∷ owns) i ≡ Some o → HasRoom k r.shape words_after (v.number + i) o
        room_after rooms zero o at = let h = rooms 0 own first_is in
            subst (HasRoom k r.shape words_after (v.number + 0)) (same_Some own_after o at) record { lies = h.lies; within = h.within; mine = h.mine; unused = h.unused; words = h.words }
        room_after rooms (suc i) o at = rooms (suc i) o (ap (λ l. slice_get l (suc i)) is ∙ at)

        only_after : ((m i : ℕ) (o : Own) → slice_get v.owns i ≡ Some o → r.shape.inside m (v.number + i) ≡ true → v.gate ≡ Inside m) → (m i : ℕ) (o : Own) → slice_get (own_after ∷ owns) i ≡ Some o → r.shape.inside m (v.number + i) ≡ true → v.gate ≡ Inside m
        only_after only m zero o at inside = only m 0 own first_is inside
        only_after only m (suc i) o at inside = only m (suc i) o (ap (λ l. slice_get l (suc i)) is ∙ at) inside

        holder_after : (p : ℕ) → ((p i : ℕ) (o : Own) → slice_get v.owns i ≡ Some o → r.shape.cut_of p ≡ None → r.shape.held_by p ≡ suc (v.number + i) → HoldsLock v p)
            → (i : ℕ) (o : Own) → slice_get (own_after ∷ owns) i ≡ Some o → r.shape.cut_of p ≡ None → r.shape.held_by p ≡ suc (v.number + i) → HoldsLock view_after p
        holder_after p holder zero o at reach held = holder p 0 own first_is reach held
        holder_after p holder (suc i) o at reach held = holder p (suc i) o (ap (λ l. slice_get l (suc i)) is ∙ at) reach held

        closer_after : (m : ℕ) → ((m i : ℕ) (o : Own) → slice_get v.owns i ≡ Some o → r.shape.closed_by m ≡ suc (v.number + i) → (alone : Bool) × (v.gate ≡ Closed m alone))
            → (i : ℕ) (o : Own) → slice_get (own_after ∷ owns) i ≡ Some o → r.shape.closed_by m ≡ suc (v.number + i) → (alone : Bool) × (v.gate ≡ Closed m alone)
        closer_after m closer zero o at closed = closer m 0 own first_is closed
        closer_after m closer (suc i) o at closed = closer m (suc i) o (ap (λ l. slice_get l (suc i)) is ∙ at) closed

    kept : Keeps k s r id v.number words_after view_after
    kept = record {
      log = history_with r.log v.number item;
      calls = with_one r.calls v.number item;
      shape = r.shape;
      mine = owned.claimed;
      lawful = lawful_after k laws r.log r.calls (callers_of k) r.claim id r.lawful v own owns is fits item may;
      none_else = none_after k laws r.log r.calls (callers_of k) r.claim id r.lawful v own owns is fits item may r.none_else;
      keys = keys_on laws k r.log v.number item refl (λ m key other is. absurd (cc)) r.keys;
      values = more_in_range r.log v.number item r.values tt;
      fine = fine_on k laws r.shape r.log (history_with r.log v.number item) s.words a (f found) kind at r.fine history (atomic_after call held) (ap (λ contents. contents.maps) contents_are) (ap (λ contents. contents.numbers) contents_are) after_number;
      gates = λ m inside. gates_on k laws r.shape r.log (history_with r.log v.number item) s.words a (f found) kind at r.fine m inside (r.gates m inside);
      later = later_on k laws r.shape r.log (history_with r.log v.number item) s.words a (f found) kind at r.fine history;
      apart = apart_on k laws r.shape r.log (history_with r.log v.number item) s.words a (f found) kind at r.fine v.number;
      grows = grows;
      others = (adds_one r.calls v.number item).others;
      fits = fits_now;
      goes = goes;
      suits = suits_after;
      old = v;
      at_old = at_me;
      live = live;
      leaves = record {
        drafts = λ i u. subst (λ os. IsUndrafted os i) (sym is) (others_too own own_after owns i (mine_now k r.shape s.views id v view_after at_me live i u 0 own_after refl) (mine_now k r.shape s.views id v view_after at_me live i u));
        same = λ i u. get_or-set_other s.words (atomic_word a) i (f found) 0 (u.atomic a (slice_get_within k.kinds a kind at));
      };
    }

    pub kept_after : Kept k record { words = set s.words (atomic_word a) (f (slice_index s.words (atomic_word a))); homes = s.homes; views = set s.views id view_after }
    kept_after = moves k laws s r id v.number words_after view_after kept

    pub was_word : is_word kind (slice_index s.words (atomic_word a)) ≡ true
    was_word = (r.fine.numbers a kind at).0

    pub is_called : Called (start_of k) (Atomic a call) (replies.Atomic (atomic_reply call (number_in kind (slice_index s.words (atomic_word a))))) 0 (view_state v) (view_state view_after)
    is_called = subst (λ n. Called (start_of k) (Atomic a call) (replies.Atomic (atomic_reply call n)) 0 (view_state v) (view_state view_after)) (r.fine.numbers a kind at).1
        (called k laws r.log r.calls (callers_of k) r.claim id r.lawful v own owns is fits item may own_after refl (call_number k s r v (length r.log))
        (past r.shape r.log r.calls s.views r.ordered v.number item v.time may.to may.last (places k s r) (at_the_end k s r v)) refl 0 (omega arith))

-- an operation that makes of the word what the call makes of its number is the call
operates_now : (k : Begin) → HistoryLaws → (id : ℕ) (me : Me (Unit {0}) View) (a : ℕ) (kind : AtomicKind) (call : AtomicCall) (f : ℕ → ℕ) → me.0.live ≡ true → me.0.begin ≡ k → 0 < length me.0.owns → me.0.walk ≡ None → slice_get k.kinds a ≡ Some kind → IsOperation kind call f
    → Allows (Kept k) 0 id me (atomic_word a) f (Operates a call me.0.time me)
operates_now k laws id me a kind call f live begin stands nowhere at operation = by_owns me.0.owns refl
  where
    by_owns : (owns : List Own) → me.0.owns ≡ owns → Allows (Kept k) 0 id me (atomic_word a) f (Operates a call me.0.time me)
    by_owns [] e = let none_there = ap length e in absurd (omega arith)
    by_owns (own ∷ owns) is = λ s r one at_me bounded.
        let v = me.0 in let w = view_after k laws s r id v at_me live own owns is nowhere a kind at call in (
          w,
          keeps,
          tt,
          kept_after k laws s r id v at_me live own owns is nowhere a kind at call f operation,
          (
            refl,
            λ other at_other.
                let same : kind ≡ other = same_Some kind other (sym at ∙ ap (λ (b : Begin). slice_get b.kinds a) (sym begin) ∙ at_other) in
                let word = slice_index s.words (atomic_word a) in
                subst (λ z. (is_word z word ≡ true) × PlacesCall (Atomic a call) (replies.Atomic (atomic_reply call (number_in z word))) v w × IsAtEnd (view_state w)) same (
                  was_word k laws s r id v at_me live own owns is nowhere a kind at call f operation,
                  record {
                    item = item k laws s r id v at_me live own owns is nowhere a kind at call;
                    time = call_number k s r v (length r.log);
                    seen = history_with r.log v.number (item k laws s r id v at_me live own owns is nowhere a kind at call);
                    is = ap (λ l. called_view v (with_item l (item k laws s r id v at_me live own owns is nowhere a kind at call) (call_number k s r v (length r.log))) (history_with r.log v.number (item k laws s r id v at_me live own owns is nowhere a kind at call)) (call_number k s r v (length r.log))) (sym is);
                    called = subst (λ b. Called (start_of b) (Atomic a call) (replies.Atomic (atomic_reply call (number_in kind word))) 0 (view_state v) (view_state w)) (sym begin)
                        (is_called k laws s r id v at_me live own owns is nowhere a kind at call f operation);
                    looks = looks_then k laws s r id v at_me live own owns is nowhere a kind at call begin;
                  },
                  at_end k laws s r id v at_me live own owns is nowhere a kind at call,
                ),
          ),
        )

-- the same, where it is told its caller's number at that step
pub operates : (k : Begin) → HistoryLaws → (id : ℕ) (me : Me (Unit {0}) View) (a : ℕ) (kind : AtomicKind) (call : AtomicCall) (before : ℕ) (f : ℕ → ℕ) → me.0.live ≡ true → me.0.begin ≡ k → 0 < length me.0.owns → me.0.walk ≡ None → slice_get k.kinds a ≡ Some kind → IsOperation kind call f
    → Allows (Kept k) 0 id me (atomic_word a) f (Operates a call before me)
operates k laws id me a kind call before f live begin stands nowhere at operation =
    allows_told k id me (atomic_word a) f (Operates a call before me) before live nowhere (operates_now k laws id (told_at before me) a kind call f live begin stands nowhere at operation)
