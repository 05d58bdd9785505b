-- A caller writes the next word of its own room, which nobody else reads yet.
use Rattle.std.proofs.Common.{◌≡◌, ◌≢◌, ℕ, zero, suc, ◌+◌, ◌*◌, ◌<◌, ◌≤◌, true, List, [], ◌∷◌, ◌++◌, length, set, Some, slice_get, slice_index, inl, inr, refl, sym, ap, ◌∙◌, subst, arith, get_or-set_same, length-append, Bool, None}
use Rattle.std.proofs.lemmas.Bool.{cases_eq}
use Rattle.std.proofs.lemmas.List.{append-nil}
use Rattle.std.proofs.lemmas.Option.{same_Some}
use mathlib.Core.Option.{some}
use lib.ListN.{get_elem?}
use Rattle.atomic_table.specs.Table.{Me, keeps, Allows}
use Rattle.table_rule.specs.declared.begin.Begin.{Begin}
use Rattle.table_rule.specs.declared.view.Gate.{Gate}
use Rattle.table_rule.specs.declared.view.Gate.TheVariants.{Outside, Inside, Closed}
use Rattle.table_rule.specs.declared.view.Lock.{Lock}
use Rattle.table_rule.specs.declared.view.Own.{Own}
use Rattle.table_rule.specs.declared.view.View.{View}
use Rattle.table_rule.specs.Gates.{Gated}
use Rattle.table_words.specs.Laws.{HistoryLaws}
use Rattle.trie_nodes.specs.Layout.{unit_words, parent_word, slot_word}
use Rattle.table_rule.specs.Layout.{root_word, gate_word, heads, callers_of}
use Rattle.table_rule.specs.Ledger.{Owned, Fits}
use Rattle.table_rule.specs.Owed.{HasRoom, Locks, AtGate, Suits, HoldsLock}
use Rattle.table_rule.specs.Rule.{TableState, Kept}
use Rattle.table_rule.specs.Shape.{Shape}
use Rattle.table_rule.specs.Writing.{with_word, Drafts}
use Rattle.table_words.proofs.Frames.{Later, walks_on, leaf_on, cut_on, stands_on}
use Rattle.table_words.proofs.Outside.{with_inside, same, in_node, later_out, apart_out, fine_out}
use Rattle.table_words.proofs.Lists.{past_end}
use Rattle.table_rule.specs.Unused.{IsUndrafted, IsUnused}
use Rattle.table_words.proofs.Unused.{LeavesUnused, others_too, mine_now}
use Rattle.table_words.proofs.Still.{still, own_times}

-- the words of a draft with one more
pub next_word : (xs : List ℕ) (x : ℕ) → slice_index (xs ++ x ∷ []) (length xs) ≡ x
next_word [] x = refl
next_word (y ∷ xs) x = next_word xs x

pub other_word : (xs : List ℕ) (x i : ℕ) → i ≢ length xs → slice_index (xs ++ x ∷ []) i ≡ slice_index xs i
other_word [] x zero ne = absurd (ne refl)
other_word [] x (suc i) ne = refl
other_word (y ∷ xs) x zero ne = refl
other_word (y ∷ xs) x (suc i) ne = other_word xs x i (λ e. ne (ap suc e))

module _ (k : Begin) (laws : HistoryLaws) (s : TableState) (r : Kept k s) (id : ℕ) (v : View) (at_me : get_elem? s.views id ≡ some v) (live : v.live ≡ true) (own : Own) (owns : List Own) (is : v.owns ≡ own ∷ owns)
    (x : ℕ) (room : length own.draft < unit_words * own.spare) where
  abbrev word : ℕ
  word = own.next + length own.draft

  first_is : slice_get v.owns 0 ≡ Some own
  first_is = ap (λ l. slice_get l 0) is

  mine : HasRoom k r.shape s.words (v.number + 0) own
  mine = (r.suits id v at_me live).room 0 own first_is

  unused : r.shape.part_of (own.next + length own.draft) ≡ 0
  unused = mine.unused (length own.draft) room

  behind_heads : heads k ≤ own.next + length own.draft
  behind_heads = let lies = mine.lies in omega arith

  behind : length k.kinds < own.next + length own.draft
  behind = let lies = behind_heads in omega arith

  no_root : (m : ℕ) → m < k.maps → root_word k m ≢ own.next + length own.draft
  no_root m below e = let lies = behind_heads in absurd (omega arith)

  abbrev new : Shape
  new = with_inside r.shape r.shape.inside

  abbrev words : List ℕ
  words = set s.words (own.next + length own.draft) x

  abbrev own_after : Own
  own_after = record own { draft = own.draft ++ x ∷ [] }

  elsewhere : (i : ℕ) → i ≢ own.next + length own.draft → slice_index (set s.words (own.next + length own.draft) x) i ≡ slice_index s.words i
  elsewhere = same k r.shape r.log s.words (own.next + length own.draft) x r.shape.inside r.fine unused behind no_root

  at_node : (p i : ℕ) → r.shape.kind_of p ≡ 1 → p ≤ i → i < p + 18 → slice_index (set s.words (own.next + length own.draft) x) i ≡ slice_index s.words i
  at_node = in_node k r.shape r.log s.words (own.next + length own.draft) x r.shape.inside r.fine unused behind no_root

  here : slice_index (set s.words (own.next + length own.draft) x) (own.next + length own.draft) ≡ x
  here = let within = mine.within in let wide = r.fine.wide in get_or-set_same s.words (own.next + length own.draft) x 0 (omega arith)

  later : Later r.shape (with_inside r.shape r.shape.inside) r.log r.log s.words (set s.words (own.next + length own.draft) x)
  later = later_out k r.shape r.log s.words (own.next + length own.draft) x r.shape.inside r.fine unused behind no_root

  area : r.shape.area_of (own.next + length own.draft) ≡ suc v.number
  area = let number : v.number + 0 ≡ v.number = omega arith in mine.mine (length own.draft) room ∙ ap suc number

  -- the room of another caller
  not_theirs : (d i : ℕ) → d ≢ v.number → r.shape.area_of i ≡ suc d → i ≢ own.next + length own.draft
  not_theirs d i other theirs e = other (let both : suc d ≡ suc v.number = sym theirs ∙ ap r.shape.area_of e ∙ area in omega arith)

  gates_on : (m : ℕ) → m < k.maps → Gated k (with_inside r.shape r.shape.inside) (set s.words (own.next + length own.draft) x) m
  gates_on m below = let g = r.gates m below in record { word = elsewhere (gate_word k m) (λ e. let lies = behind_heads in absurd (omega arith)) ∙ g.word; callers = g.callers; closers = g.closers }

  same_gate : (gate : Gate) → AtGate k r.shape v.number gate → AtGate k (with_inside r.shape r.shape.inside) v.number gate
  same_gate Outside at = at
  same_gate (Inside m) at = at
  same_gate (Closed m alone) at = at

  locks_on : (m : ℕ) (l : Lock) → Locks k r.shape s.words v.number m l → Locks k (with_inside r.shape r.shape.inside) (set s.words (own.next + length own.draft) x) v.number m l
  locks_on m l h = let few = h.few in record {
    node = h.node;
    map = h.map;
    key = h.key;
    level = h.level;
    path = h.path;
    reachable = h.reachable;
    mine = h.mine;
    word = at_node l.node l.node h.node (omega arith) (omega arith) ∙ h.word;
    parent = at_node l.node (parent_word l.node) h.node (omega arith) (omega arith) ∙ h.parent;
    found = λ slot found e. let was = h.found slot found e in let below = was.0 in (below, at_node l.node (slot_word l.node slot) h.node (omega arith) (omega arith) ∙ was.1);
    few = h.few;
    empty_so_far = λ slot below. at_node l.node (slot_word l.node slot) h.node (omega arith) (omega arith) ∙ h.empty_so_far slot below;
  }

  room_on : (i : ℕ) (o : Own) → slice_get (own_after ∷ owns) i ≡ Some o → HasRoom k (with_inside r.shape r.shape.inside) (set s.words (own.next + length own.draft) x) (v.number + i) o
  room_on zero o at = subst (HasRoom k (with_inside r.shape r.shape.inside) (set s.words (own.next + length own.draft) x) (v.number + 0)) (same_Some own_after o at) record {
    lies = mine.lies;
    within = mine.within;
    mine = mine.mine;
    unused = mine.unused;
    words = λ i below. elim (cases_eq i (length own.draft)) [
      | inl e ↦ ap (λ n. slice_index (set s.words (own.next + length own.draft) x) (own.next + n)) e ∙ here ∙ sym (next_word own.draft x) ∙ ap (slice_index (own.draft ++ x ∷ [])) (sym e)
      | inr ne ↦ elsewhere (own.next + i) (λ e. ne (omega arith)) ∙ mine.words i below ∙ sym (other_word own.draft x i ne)
    ];
  }
  room_on (suc i) o at =
      let h = (r.suits id v at_me live).room (suc i) o (ap (λ l. slice_get l (suc i)) is ∙ at) in
      let other : v.number + suc i ≢ v.number = (λ e. omega arith) in record {
        lies = h.lies;
        within = h.within;
        mine = h.mine;
        unused = h.unused;
        words = λ n below. elsewhere (o.next + n) (not_theirs (v.number + suc i) (o.next + n) other (h.mine n below)) ∙ h.words n below;
      }

  only_on : (m i : ℕ) (o : Own) → slice_get (own_after ∷ owns) i ≡ Some o → r.shape.inside m (v.number + i) ≡ true → v.gate ≡ Inside m
  only_on m zero o at inside = (r.suits id v at_me live).only m 0 own first_is inside
  only_on m (suc i) o at inside = (r.suits id v at_me live).only m (suc i) o (ap (λ l. slice_get l (suc i)) is ∙ at) inside

  abbrev view_after : View
  view_after = record v { owns = own_after ∷ owns }

  holder_on : (p i : ℕ) (o : Own) → slice_get (own_after ∷ owns) i ≡ Some o → r.shape.cut_of p ≡ None → r.shape.held_by p ≡ suc (v.number + i) → HoldsLock view_after p
  holder_on p zero o at reach held = (r.suits id v at_me live).holder p 0 own first_is reach held
  holder_on p (suc i) o at reach held = (r.suits id v at_me live).holder p (suc i) o (ap (λ l. slice_get l (suc i)) is ∙ at) reach held

  closer_on : (m i : ℕ) (o : Own) → slice_get (own_after ∷ owns) i ≡ Some o → r.shape.closed_by m ≡ suc (v.number + i) → (alone : Bool) × (v.gate ≡ Closed m alone)
  closer_on m zero o at closed = (r.suits id v at_me live).closer m 0 own first_is closed
  closer_on m (suc i) o at closed = (r.suits id v at_me live).closer m (suc i) o (ap (λ l. slice_get l (suc i)) is ∙ at) closed

  suits_on : Suits k (with_inside r.shape r.shape.inside) r.log r.calls (set s.words (own.next + length own.draft) x) view_after
  suits_on = let u = r.suits id v at_me live in record {
    begin = u.begin;
    walk = λ w e. walks_on k r.shape (with_inside r.shape r.shape.inside) r.log r.log s.words (set s.words (own.next + length own.draft) x) later w (u.walk w e);
    steady = λ w e gate. elim (u.steady w e gate) [ inl living ↦ inl living | inr d ↦ inr (later.dead w.node (u.walk w e).node d) ];
    leaf = λ l e. leaf_on k r.shape (with_inside r.shape r.shape.inside) r.log r.log s.words (set s.words (own.next + length own.draft) x) later l (u.leaf l e);
    spot = λ z e. stands_on k r.shape (with_inside r.shape r.shape.inside) r.log r.log s.words (set s.words (own.next + length own.draft) x) later laws r.calls r.calls (λ c. ([], sym (append-nil (r.calls c)))) z (u.spot z e);
    cut = λ d cut. cut_on k r.shape (with_inside r.shape r.shape.inside) r.log r.log s.words (set s.words (own.next + length own.draft) x) later d (u.cut d cut);
    room = room_on;
    gate = same_gate v.gate u.gate;
    only = only_on;
    holder = holder_on;
    closer = closer_on;
    lock = λ l e. let h = u.lock l e in (h.0, h.1, locks_on h.0 l h.2);
    upper = λ l e. let h = u.upper l e in (h.0, h.1, locks_on h.0 l h.2);
    nobody = λ e. absurd (let ne : suc (length owns) ≡ 0 = e in omega arith);
  }

  fits_on : Fits (callers_of k) r.log r.calls r.claim id view_after
  fits_on = let f = r.fits id v at_me live in record { seen = f.seen; heard = f.heard; long = f.long; front = f.front; owns = owned_on }
    where
      owned_on : (i : ℕ) (o : Own) → slice_get (own_after ∷ owns) i ≡ Some o → Owned (callers_of k) r.calls r.claim id v.front (v.number + i) o
      owned_on zero o at = let f = (r.fits id v at_me live).owns 0 own first_is in
          subst (Owned (callers_of k) r.calls r.claim id v.front (v.number + 0)) (same_Some own_after o at) record { below = f.below; claimed = f.claimed; items = f.items; counted = f.counted; knew = f.knew }
      owned_on (suc i) o at = (r.fits id v at_me live).owns (suc i) o (ap (λ l. slice_get l (suc i)) is ∙ at)

  -- the word is 0 so far
  pub zero_there : slice_index s.words (own.next + length own.draft) ≡ 0
  zero_there = mine.words (length own.draft) room ∙ past_end own.draft (length own.draft) (omega arith)

  leaves : LeavesUnused k new s.views id v.owns view_after s.words words
  leaves = record {
    drafts = λ i u. subst (λ os. IsUndrafted os i) (sym is) (others_too own own_after owns i (λ past. let more = drafted_now i u past in let long = length-append own.draft (x ∷ []) in omega arith) (mine_now k new s.views id v view_after at_me live i u));
    same = λ i u. elsewhere i (λ e. let more = drafted_now i u (omega arith) in let long = length-append own.draft (x ∷ []) in omega arith);
  }
    where
      drafted_now : (i : ℕ) → IsUnused k new (set s.views id view_after) i → own.next ≤ i → own.next + length (own.draft ++ x ∷ []) ≤ i
      drafted_now i u = mine_now k new s.views id v view_after at_me live i u 0 own_after refl

  times_on : (i : ℕ) (o : Own) → slice_get (own_after ∷ owns) i ≡ Some o → r.ordered.times (v.number + i) ≡ o.times
  times_on zero o at = own_times k laws s r id v at_me live own owns is zero own (ap (λ l. slice_get l 0) is) ∙ ap (λ (z : Own). z.times) (same_Some own_after o at)
  times_on (suc i) o at = own_times k laws s r id v at_me live own owns is (suc i) o (ap (λ l. slice_get l (suc i)) is ∙ at)

  pub kept_drafted : Kept k record { words = set s.words (own.next + length own.draft) x; homes = s.homes; views = set s.views id view_after }
  kept_drafted = still k laws s r id v at_me live own owns is (with_inside r.shape r.shape.inside) (set s.words (own.next + length own.draft) x) view_after
      live
      leaves
      fits_on
      (fine_out k r.shape r.log s.words (own.next + length own.draft) x r.shape.inside r.fine unused behind no_root)
      gates_on
      later
      (apart_out k r.shape r.log s.words (own.next + length own.draft) x r.shape.inside r.fine unused behind no_root v.number
      (λ d i other lies theirs. not_theirs d i other theirs)
      (λ d m other. refl)
      (λ d m other closed alone. alone))
      suits_on
      times_on
      (inr (refl, refl))

pub drafts : (k : Begin) → HistoryLaws → (id : ℕ) (me : Me (Unit {0}) View) (own : Own) (owns : List Own) (x : ℕ) → me.0.live ≡ true → me.0.owns ≡ own ∷ owns → length own.draft < unit_words * own.spare
    → Allows (Kept k) 0 id me (own.next + length own.draft) (λ n. x) (λ found. Drafts x me x)
drafts k laws id me own owns x live is room = λ s r one at_me bounded. (
  record me.0 { owns = record own { draft = own.draft ++ x ∷ [] } ∷ owns },
  keeps,
  tt,
  kept_drafted k laws s r id me.0 at_me live own owns is x room,
  (refl, ap (λ l. record me.0 { owns = with_word l x }) (sym is)),
)

-- a caller lets the next word of its room stay 0
pub drafts_zero : (k : Begin) → HistoryLaws → (id : ℕ) (me : Me (Unit {0}) View) (own : Own) (owns : List Own) → me.0.live ≡ true → me.0.owns ≡ own ∷ owns → length own.draft < unit_words * own.spare
    → Allows (Kept k) 0 id me (own.next + length own.draft) (λ n. n) (λ found. Drafts 0 me 0)
drafts_zero k laws id me own owns live is room = λ s r one at_me bounded. (
  record me.0 { owns = record own { draft = own.draft ++ 0 ∷ [] } ∷ owns },
  keeps,
  tt,
  subst (λ x. Kept k record { words = set s.words (own.next + length own.draft) x; homes = s.homes; views = set s.views id (record me.0 { owns = record own { draft = own.draft ++ 0 ∷ [] } ∷ owns }) })
      (sym (zero_there k laws s r id me.0 at_me live own owns is 0 room)) (kept_drafted k laws s r id me.0 at_me live own owns is 0 room),
  (refl, ap (λ l. record me.0 { owns = with_word l 0 }) (sym is)),
)
