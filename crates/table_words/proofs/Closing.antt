-- A seat closes a map's gate, sees that no writer is inside, and opens the gate. The gate's word says whether it is closed.
use Rattle.std.proofs.Common.{◌≡◌, ◌≢◌, ℕ, zero, suc, ◌+◌, ◌*◌, ◌^◌, ◌<◌, ◌≤◌, ◌==◌, eq-eqb, Bool, true, false, cond, List, [], ◌∷◌, length, set, None, Some, slice_get, slice_index, inl, inr, refl, sym, ap, ◌∙◌, subst, arith, get_or-set_same, set-set}
use Rattle.std.proofs.lemmas.Bool.{cases_eq, eqb-true}
use Rattle.std.proofs.lemmas.List.{set-get_or}
use Rattle.std.proofs.lemmas.Option.{none-some}
use mathlib.Core.Option.{some}
use lib.ListN.{get_elem?}
use prog.Atomic.{either}
use Rattle.atomic_table.specs.Table.{Me, Act, keeps, Valid, stepped, carried_after, Allows}
use Rattle.sync_model.specs.declared.item.SharedEntry.{SharedEntry}
use Rattle.table_rule.specs.declared.begin.Begin.{Begin}
use Rattle.table_rule.specs.declared.view.Gate.{Gate}
use Rattle.table_rule.specs.declared.view.Gate.TheVariants.{Outside, Inside, Closed}
use Rattle.table_rule.specs.declared.view.Own.{Own}
use Rattle.table_rule.specs.declared.view.View.{View}
use Rattle.table_rule.specs.Clearing.{HasClosed, Closes, SeesAlone, LooksInside}
use Rattle.table_rule.specs.Gates.{count_below, closed_bit, Gated}
use Rattle.table_words.specs.Laws.{HistoryLaws}
use Rattle.trie_nodes.specs.Layout.{unit_words}
use Rattle.table_rule.specs.Layout.{root_word, gate_word, heads, callers_of, size_of}
use Rattle.table_rule.specs.Owed.{AtGate}
use Rattle.table_rule.specs.Rule.{TableState, Kept}
use Rattle.table_rule.specs.Shape.{Shape, Fine}
use Rattle.table_rule.specs.Walking.{IsFree, told_at}
use Rattle.table_rule.specs.Writing.{holding, GoesOut}
use Rattle.table_words.proofs.Frames.{Later, Apart}
use Rattle.table_words.proofs.Gating.{free, behind, no_root, no_gate, gate_within, closed_large, open_at, tries, still_free}
use Rattle.table_words.proofs.Outside.{same, later_out, apart_out, fine_out}
use Rattle.table_words.proofs.Quiet.{later_same, apart_same, kept_standing, timely_there, kept_told}
use Rattle.table_words.proofs.Unused.{map_gate, no_word}
use Rattle.table_words.proofs.Still.{owned, still, fits_holding, suits_holding, holds_none, own_times}
use Rattle.table_rule.specs.Views.{at_time}
use Rattle.table_words.proofs.Lists.{set_here}

-- the same shape, with gates closed by others
abbrev pub with_closers : Shape → (ℕ → ℕ) → Shape
with_closers sh closers = record sh { closed_by = closers }

-- who closed which gate, where one was closed, or opened
abbrev pub closers : (ℕ → ℕ) → ℕ → ℕ → ℕ → ℕ
closers closed m who n = cond (n == m) who (closed n)

module _ (closed : ℕ → ℕ) (m who : ℕ) where
  closer_here : closers closed m who m ≡ who
  closer_here = ap (λ t. cond t who (closed m)) (eq-eqb m m refl)

  closer_other : (n : ℕ) → n ≢ m → closers closed m who n ≡ closed n
  closer_other n ne = by_map (n == m) refl
    where
      by_map : (t : Bool) → (n == m) ≡ t → cond t who (closed n) ≡ closed n
      by_map true e = absurd (ne (eqb-true n m e))
      by_map false e = refl

-- a word changes that is part of nothing, and gates are closed by others
module _ (k : Begin) (sh : Shape) (log : List SharedEntry) (ws : List ℕ) (j x : ℕ) (now : ℕ → ℕ) (fine : Fine k sh log ws) (none_there : sh.part_of j ≡ 0) (past : length k.kinds < j) (other_root : (m : ℕ) → m < k.maps → root_word k m ≢ j) where
  pub later_closed : Later sh (with_closers sh now) log log ws (set ws j x)
  later_closed = let l = later_out k sh log ws j x sh.inside fine none_there past other_root in record {
    history = l.history;
    node = l.node;
    map = l.map;
    path = l.path;
    cut = l.cut;
    fresh = l.fresh;
    cut_word = l.cut_word;
    parent = l.parent;
    dead = l.dead;
    entry = l.entry;
    key = l.key;
    value = l.value;
  }

  pub apart_closed : (c : ℕ) → ((d i : ℕ) → d ≢ c → heads k ≤ i → sh.area_of i ≡ suc d → i ≢ j) → ((d m : ℕ) → d ≢ c → sh.closed_by m ≡ suc d → now m ≡ suc d) → ((d m : ℕ) → d ≢ c → now m ≡ suc d → sh.closed_by m ≡ suc d) → Apart k c sh (with_closers sh now) ws (set ws j x)
  apart_closed c room closed unclosed = let a = apart_out k sh log ws j x sh.inside fine none_there past other_root c room (λ d m other. refl) (λ d m other closed alone. alone) in record {
    held = a.held;
    words = a.words;
    reachable = a.reachable;
    steady = a.steady;
    area = a.area;
    unused = a.unused;
    room = a.room;
    inside = a.inside;
    closed = closed;
    alone = a.alone;
    unheld = a.unheld;
    unclosed = unclosed;
  }

  pub fine_closed : Fine k (with_closers sh now) log (set ws j x)
  fine_closed = let f = fine_out k sh log ws j x sh.inside fine none_there past other_root in record {
    wide = f.wide;
    numbers = f.numbers;
    headed = f.headed;
    nodes = λ p is. let n = f.nodes p is in record { lies = n.lies; within = n.within; words = n.words; map = n.map; level = n.level; key = n.key; below = n.below; is_key = n.is_key; path = n.path };
    leaves = λ p is. let l = f.leaves p is in record { lies = l.lies; within = l.within; key_part = l.key_part; value_part = l.value_part; is_key = l.is_key };
    roots = f.roots;
    live = f.live;
    there = f.there;
    top = f.top;
    parent = f.parent;
    cut = f.cut;
    held = f.held;
    dead = f.dead;
    slots = λ p d key is level is_key path. let s = f.slots p d key is level is_key path in record { shows = s.shows; entry = s.entry; childless = s.childless };
  }

-- the map of a gate that is closed is one
gate_map : (m n : ℕ) (a b : Bool) → Closed m a ≡ Closed n b → m ≡ n
gate_map m n a b e = ap map_in e
  where
    map_in : Gate → ℕ
    map_in Outside = 0
    map_in (Inside n) = n
    map_in (Closed n alone) = n

-- none passes the test, where the count is 0, and the other way round
none_below : (f : ℕ → Bool) (n : ℕ) → count_below f n ≡ 0 → (c : ℕ) → c < n → f c ≡ false
none_below f zero e c below = absurd (omega arith)
none_below f (suc n) e c below = by_test (f n) refl e (λ none_left less. none_below f n none_left c less)
  where
    by_test : (b : Bool) → f n ≡ b → cond b (suc (count_below f n)) (count_below f n) ≡ 0 → (count_below f n ≡ 0 → c < n → f c ≡ false) → f c ≡ false
    by_test true at e earlier = absurd (omega arith)
    by_test false at e earlier = elim (cases_eq c n) [
      | inl last ↦ ap f last ∙ at
      | inr ne ↦ earlier e (omega arith)
    ]

count_none : (f : ℕ → Bool) (n : ℕ) → ((c : ℕ) → f c ≡ false) → count_below f n ≡ 0
count_none f zero none_in = refl
count_none f (suc n) none_in = ap (λ b. cond b (suc (count_below f n)) (count_below f n)) (none_in n) ∙ count_none f n none_in

-- a seat none of whose callers is a writer closes a gate, or opens it
module _ (k : Begin) (laws : HistoryLaws) (s : TableState) (r : Kept k s) (id : ℕ) (v : View) (at_me : get_elem? s.views id ≡ some v) (live : v.live ≡ true) (own : Own) (owns : List Own) (is : v.owns ≡ own ∷ owns)
    (nowhere : v.walk ≡ None) (out : (n i : ℕ) (o : Own) → slice_get v.owns i ≡ Some o → r.shape.inside n (v.number + i) ≡ true → ⊥) (free_hands : v.lock ≡ None) (no_upper : v.upper ≡ None) (m : ℕ) (below : m < k.maps) (who x : ℕ) (gate : Gate) (caller : (c : ℕ) → who ≡ suc c → c < callers_of k) where
  abbrev now : ℕ → ℕ
  now = closers r.shape.closed_by m who

  abbrev words : List ℕ
  words = set s.words (gate_word k m) x

  gates_now : x ≡ count_below (r.shape.inside m) (callers_of k) + closed_bit who → (n : ℕ) → n < k.maps → Gated k (with_closers r.shape (closers r.shape.closed_by m who)) (set s.words (gate_word k m) x) n
  gates_now word n less = elim (cases_eq n m) [
    | inl e ↦ subst (Gated k (with_closers r.shape (closers r.shape.closed_by m who)) (set s.words (gate_word k m) x)) (sym e) record {
      word = get_or-set_same s.words (gate_word k m) x 0 (gate_within k s r m below) ∙ word ∙ ap (λ closer. count_below (r.shape.inside m) (callers_of k) + closed_bit closer) (sym (closer_here r.shape.closed_by m who));
      callers = (r.gates m below).callers;
      closers = λ c is. caller c (sym (closer_here r.shape.closed_by m who) ∙ is);
    }
    | inr ne ↦ let g = r.gates n less in record {
      word = same k r.shape r.log s.words (gate_word k m) x r.shape.inside r.fine (free k s r m below) (behind k s r m below) (no_root k s r m below) (gate_word k n) (no_gate k s r m below n ne)
          ∙ g.word ∙ ap (λ closer. count_below (r.shape.inside n) (callers_of k) + closed_bit closer) (sym (closer_other r.shape.closed_by m who n ne));
      callers = g.callers;
      closers = λ c is. g.closers c (sym (closer_other r.shape.closed_by m who n ne) ∙ is);
    }
  ]

  later : Later r.shape (with_closers r.shape (closers r.shape.closed_by m who)) r.log r.log s.words (set s.words (gate_word k m) x)
  later = later_closed k r.shape r.log s.words (gate_word k m) x (closers r.shape.closed_by m who) r.fine (free k s r m below) (behind k s r m below) (no_root k s r m below)

  pub kept_gate : x ≡ count_below (r.shape.inside m) (callers_of k) + closed_bit who → ((d n : ℕ) → d ≢ v.number → r.shape.closed_by n ≡ suc d → closers r.shape.closed_by m who n ≡ suc d)
      → ((d n : ℕ) → d ≢ v.number → closers r.shape.closed_by m who n ≡ suc d → r.shape.closed_by n ≡ suc d)
      → ((n i : ℕ) (o : Own) → slice_get v.owns i ≡ Some o → closers r.shape.closed_by m who n ≡ suc (v.number + i) → (alone : Bool) × (gate ≡ Closed n alone))
      → AtGate k (with_closers r.shape (closers r.shape.closed_by m who)) v.number gate → Kept k record { words = set s.words (gate_word k m) x; homes = s.homes; views = set s.views id (holding v gate None None) }
  kept_gate word others back knows at_gate = let u = r.suits id v at_me live in
      still k laws s r id v at_me live own owns is (with_closers r.shape (closers r.shape.closed_by m who)) (set s.words (gate_word k m) x) (holding v gate None None)
      live
      (map_gate k (with_closers r.shape (closers r.shape.closed_by m who)) s.views id v (holding v gate None None) at_me live refl s.words m x below)
      (fits_holding k laws s r id v at_me live own owns is gate None None)
      (fine_closed k r.shape r.log s.words (gate_word k m) x (closers r.shape.closed_by m who) r.fine (free k s r m below) (behind k s r m below) (no_root k s r m below))
      (gates_now word)
      later
      (apart_closed k r.shape r.log s.words (gate_word k m) x (closers r.shape.closed_by m who) r.fine (free k s r m below) (behind k s r m below) (no_root k s r m below) v.number
      (λ d i other lies mine e. let less = below in absurd (omega arith))
      others back)
      (suits_holding k laws s r id v at_me live own owns is (with_closers r.shape (closers r.shape.closed_by m who)) (set s.words (gate_word k m) x) gate None None later
      (λ w e inside. absurd (none-some w (sym nowhere ∙ e)))
      (λ i o e. let h = u.room i o e in record {
        lies = h.lies;
        within = h.within;
        mine = h.mine;
        unused = h.unused;
        words = λ n less. let lies = h.lies in let at = below in same k r.shape r.log s.words (gate_word k m) x r.shape.inside r.fine (free k s r m below) (behind k s r m below) (no_root k s r m below) (o.next + n) (λ e. absurd (omega arith)) ∙ h.words n less;
      })
      at_gate
      (λ n i o e is_in. absurd (out n i o e is_in))
      (λ p i o e reach held. absurd (holds_none v p free_hands no_upper (u.holder p i o e reach held)))
      knows
      (λ l e. absurd (none-some l e))
      (λ l e. absurd (none-some l e))
      (λ e. absurd (let none_there : suc (length owns) ≡ 0 = sym (ap length is) ∙ e in omega arith)))
      (own_times k laws s r id v at_me live own owns is)
      (inl nowhere)

-- a seat outside closes the gate
module _ (k : Begin) (laws : HistoryLaws) (s : TableState) (r : Kept k s) (id : ℕ) (me : Me (Unit {0}) View) (at_me : get_elem? s.views id ≡ some me.0) (outside : IsFree k me) (own : Own) (owns : List Own) (is : me.0.owns ≡ own ∷ owns)
    (m : ℕ) (below : m < k.maps) (old : ℕ) (found : slice_index s.words (gate_word k m) ≡ old) (small : old < 2 ^ 32) where
  open_now : r.shape.closed_by m ≡ 0
  open_now = open_at k s r m below (let e = found in omega arith)

  out : (n i : ℕ) (o : Own) → slice_get me.0.owns i ≡ Some o → r.shape.inside n (me.0.number + i) ≡ true → ⊥
  out n i o at is_in = let gate = (r.suits id me.0 at_me outside.live).only n i o at is_in in let same_gate : Outside ≡ Inside n = sym outside.idle.gate ∙ gate in (cc)

  word_is : old + 2 ^ 32 ≡ count_below (r.shape.inside m) (callers_of k) + closed_bit (suc me.0.number)
  word_is =
      let word = (r.gates m below).word in
      let was : closed_bit (r.shape.closed_by m) ≡ 0 = ap closed_bit open_now in
      let now : closed_bit (suc me.0.number) ≡ 2 ^ 32 = closed_large (suc me.0.number) (omega arith) in
      omega arith

  pub kept_closed : Kept k record { words = set s.words (gate_word k m) (old + 2 ^ 32); homes = s.homes; views = set s.views id (holding me.0 (Closed m false) None None) }
  kept_closed = kept_gate k laws s r id me.0 at_me outside.live own owns is outside.idle.walk out outside.idle.lock outside.idle.upper m below (suc me.0.number) (old + 2 ^ 32) (Closed m false)
      (λ c e. let few = (owned k laws s r id me.0 at_me outside.live own owns is).below in omega arith) word_is
      (λ d n other closed. elim (cases_eq n m) [
        | inl e ↦ absurd (let zero_closer : 0 ≡ suc d = sym open_now ∙ ap r.shape.closed_by (sym e) ∙ closed in omega arith)
        | inr ne ↦ closer_other r.shape.closed_by m (suc me.0.number) n ne ∙ closed
      ])
      (λ d n other closed. elim (cases_eq n m) [
        | inl e ↦ absurd (other (let both : suc me.0.number ≡ suc d = sym (closer_here r.shape.closed_by m (suc me.0.number)) ∙ ap (closers r.shape.closed_by m (suc me.0.number)) (sym e) ∙ closed in omega arith))
        | inr ne ↦ sym (closer_other r.shape.closed_by m (suc me.0.number) n ne) ∙ closed
      ])
      (λ n i o at closed. elim (cases_eq n m) [
        | inl e ↦ (false, ap (λ map. Closed map false) (sym e))
        | inr ne ↦ absurd (let was = (r.suits id me.0 at_me outside.live).closer n i o at (sym (closer_other r.shape.closed_by m (suc me.0.number) n ne) ∙ closed) in let same_gate : Outside ≡ Closed n was.0 = sym outside.idle.gate ∙ was.1 in (cc))
      ])
      (below, closer_here r.shape.closed_by m (suc me.0.number), λ e. absurd (let f : false ≡ true = e in (cc)))

-- it is told its caller's number at that step
pub closes : (k : Begin) → HistoryLaws → (id : ℕ) (me : Me (Unit {0}) View) (m before old : ℕ) → IsFree k me → m < k.maps → old < 2 ^ 32 → Allows (Kept k) 0 id me (gate_word k m) (λ n. either (n == old) (old + 2 ^ 32) n) (Closes m before old me)
closes k laws id me m before old outside below small = tries k id me m old (old + 2 ^ 32) (holding (at_time me.0 before) (Closed m false) None None) outside (λ own owns is s r at_me found.
    let v = at_time me.0 before in
    subst (λ vs. Kept k record { words = set s.words (gate_word k m) (old + 2 ^ 32); homes = s.homes; views = vs }) (set-set s.views id v (holding v (Closed m false) None None))
    (kept_closed k laws (record { words = s.words; homes = s.homes; views = set s.views id v }) (kept_told k s r id me.0 at_me outside.live outside.idle.walk before) id (told_at before me) (set_here s.views id me.0 v at_me)
    (still_free k me before outside) own owns is m below old found small))

-- a seat that has closed the gate
module _ (k : Begin) (laws : HistoryLaws) (s : TableState) (r : Kept k s) (id : ℕ) (me : Me (Unit {0}) View) (at_me : get_elem? s.views id ≡ some me.0) (own : Own) (owns : List Own) (is : me.0.owns ≡ own ∷ owns)
    (m : ℕ) (alone : Bool) (has : HasClosed k me m alone) where
  pub at_gate : AtGate k r.shape me.0.number (Closed m alone)
  at_gate = subst (AtGate k r.shape me.0.number) has.gate (r.suits id me.0 at_me has.live).gate

  pub not_inside : (n i : ℕ) (o : Own) → slice_get me.0.owns i ≡ Some o → r.shape.inside n (me.0.number + i) ≡ true → ⊥
  not_inside n i o at is_in = let gate = (r.suits id me.0 at_me has.live).only n i o at is_in in let same_gate : Closed m alone ≡ Inside n = sym has.gate ∙ gate in (cc)

  -- it sees that no writer is inside
  kept_alone : slice_index s.words (gate_word k m) ≡ 2 ^ 32 → Kept k record { words = s.words; homes = s.homes; views = set s.views id (holding me.0 (Closed m true) None None) }
  kept_alone word = let u = r.suits id me.0 at_me has.live in
      still k laws s r id me.0 at_me has.live own owns is r.shape s.words (holding me.0 (Closed m true) None None)
      has.live
      (no_word k r.shape s.views id me.0 (holding me.0 (Closed m true) None None) at_me has.live refl s.words)
      (fits_holding k laws s r id me.0 at_me has.live own owns is (Closed m true) None None)
      r.fine r.gates (later_same r.shape r.log s.words) (apart_same k me.0.number r.shape s.words)
      (suits_holding k laws s r id me.0 at_me has.live own owns is r.shape s.words (Closed m true) None None (later_same r.shape r.log s.words)
      (λ w e inside. absurd (none-some w (sym has.walk ∙ e)))
      u.room
      (at_gate.0, at_gate.1, λ e. nobody)
      (λ n i o e is_in. absurd (not_inside n i o e is_in))
      (λ p i o e reach held. absurd (holds_none me.0 p has.lock has.upper (u.holder p i o e reach held)))
      (λ n i o e closed. let was = u.closer n i o e closed in (true, ap (λ map. Closed map true) (gate_map m n alone was.0 (sym has.gate ∙ was.1))))
      (λ l e. absurd (none-some l e))
      (λ l e. absurd (none-some l e))
      (λ e. absurd (let none_there : suc (length owns) ≡ 0 = sym (ap length is) ∙ e in omega arith)))
      (own_times k laws s r id me.0 at_me has.live own owns is)
      (inl has.walk)
    where
      none_counted : count_below (r.shape.inside m) (callers_of k) ≡ 0
      none_counted =
          let was = (r.gates m at_gate.0).word in
          let closer = at_gate.1 in
          let bit : closed_bit (r.shape.closed_by m) ≡ 2 ^ 32 = closed_large (r.shape.closed_by m) (omega arith) in
          omega arith

      nobody : (c : ℕ) → r.shape.inside m c ≡ false
      nobody c = by_test (r.shape.inside m c) refl
        where
          by_test : (b : Bool) → r.shape.inside m c ≡ b → b ≡ false
          by_test true e = sym e ∙ none_below (r.shape.inside m) (callers_of k) none_counted c ((r.gates m at_gate.0).callers c e)
          by_test false e = refl

pub looks_inside : (k : Begin) → HistoryLaws → (id : ℕ) (me : Me (Unit {0}) View) (m : ℕ) → HasClosed k me m false → Allows (Kept k) 0 id me (gate_word k m) (λ n. n) (LooksInside m me)
looks_inside k laws id me m has = by_owns me.0.owns refl
  where
    by_owns : (owns : List Own) → me.0.owns ≡ owns → Allows (Kept k) 0 id me (gate_word k m) (λ n. n) (LooksInside m me)
    by_owns [] e = let none_there = ap length e in let stands = has.some in absurd (omega arith)
    by_owns (own ∷ owns) is = λ s r one at_me bounded. by_found s r at_me (slice_index s.words (gate_word k m) == 2 ^ 32) refl
      where
        Told : TableState → Bool → Type 0
        Told s b = (u : View) × (a : Act (Unit {0})) × Valid s.homes me.1 a × Kept k (stepped s (gate_word k m) (slice_index s.words (gate_word k m)) id me.1 u a) × SeesAlone m b me (u, carried_after me.1 a)

        unmoved : (s : TableState) (w : View) → Kept k record { words = s.words; homes = s.homes; views = set s.views id w } → Kept k record { words = set s.words (gate_word k m) (slice_index s.words (gate_word k m)); homes = s.homes; views = set s.views id w }
        unmoved s w kept = subst (λ ws. Kept k record { words = ws; homes = s.homes; views = set s.views id w }) (sym (set-get_or s.words (gate_word k m) 0)) kept

        by_found : (s : TableState) (r : Kept k s) → get_elem? s.views id ≡ some me.0 → (b : Bool) → (slice_index s.words (gate_word k m) == 2 ^ 32) ≡ b → Told s b
        by_found s r at_me true e = (
          holding me.0 (Closed m true) None None,
          keeps,
          tt,
          unmoved s (holding me.0 (Closed m true) None None) (kept_alone k laws s r id me at_me own owns is m false has (eqb-true (slice_index s.words (gate_word k m)) (2 ^ 32) e)),
          (refl, refl),
        )
        by_found s r at_me false e = let u = r.suits id me.0 at_me has.live in (
          me.0,
          keeps,
          tt,
          unmoved s me.0 (kept_standing k s r id me.0 at_me has.live me.0.walk me.0.leaf u.walk u.steady u.leaf (timely_there k s r id me.0 at_me has.live me.0.leaf)),
          (refl, refl),
        )

-- a seat opens the gate that it has closed
pub opens : (k : Begin) → HistoryLaws → (id : ℕ) (me : Me (Unit {0}) View) (m : ℕ) → HasClosed k me m true → Allows (Kept k) 0 id me (gate_word k m) (λ n. 0) (λ found. GoesOut me 0)
opens k laws id me m has = by_owns me.0.owns refl
  where
    by_owns : (owns : List Own) → me.0.owns ≡ owns → Allows (Kept k) 0 id me (gate_word k m) (λ n. 0) (λ found. GoesOut me 0)
    by_owns [] e = let none_there = ap length e in let stands = has.some in absurd (omega arith)
    by_owns (own ∷ owns) is = λ s r one at_me bounded.
        let at = at_gate k laws s r id me at_me own owns is m true has in
        let word : 0 ≡ count_below (r.shape.inside m) (callers_of k) + closed_bit 0 = ap (λ n. n + 0) (sym (count_none (r.shape.inside m) (callers_of k) (at.2 refl))) in (
          holding me.0 Outside None None,
          keeps,
          tt,
          kept_gate k laws s r id me.0 at_me has.live own owns is has.walk (not_inside k laws s r id me at_me own owns is m true has) has.lock has.upper m at.0 0 0 Outside (λ c e. absurd (omega arith)) word
              (λ d n other closed. elim (cases_eq n m) [
                | inl e ↦ absurd (other (let both : suc me.0.number ≡ suc d = sym at.1 ∙ ap r.shape.closed_by (sym e) ∙ closed in omega arith))
                | inr ne ↦ closer_other r.shape.closed_by m 0 n ne ∙ closed
              ])
              (λ d n other closed. elim (cases_eq n m) [
                | inl e ↦ absurd (let z : 0 ≡ suc d = sym (closer_here r.shape.closed_by m 0) ∙ ap (closers r.shape.closed_by m 0) (sym e) ∙ closed in omega arith)
                | inr ne ↦ sym (closer_other r.shape.closed_by m 0 n ne) ∙ closed
              ])
              (λ n i o e closed. elim (cases_eq n m) [
                | inl it ↦ absurd (let z : 0 ≡ suc (me.0.number + i) = sym (closer_here r.shape.closed_by m 0) ∙ ap (closers r.shape.closed_by m 0) (sym it) ∙ closed in omega arith)
                | inr ne ↦ absurd (let was = (r.suits id me.0 at_me has.live).closer n i o e (sym (closer_other r.shape.closed_by m 0 n ne) ∙ closed) in ne (sym (gate_map m n true was.0 (sym has.gate ∙ was.1))))
              ])
              tt,
          (refl, refl, λ o at_first. subst (λ (b : Begin). o.next + unit_words * o.spare ≤ size_of b) (sym has.begin) ((r.suits id me.0 at_me has.live).room 0 o at_first).within),
        )
