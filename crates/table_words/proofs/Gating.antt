-- A writer comes in by a map's gate, and goes out. The gate's word counts it.
use Rattle.std.proofs.Common.{◌≡◌, ◌≢◌, ℕ, zero, suc, ◌+◌, ◌-◌, ◌*◌, ◌%◌, ◌^◌, ◌<◌, ◌≤◌, ◌==◌, eq-eqb, Bool, true, false, cond, List, [], ◌∷◌, length, set, Some, None, slice_get, slice_index, inl, inr, refl, sym, ap, ◌∙◌, subst, arith, get_or-set_same, MatchBool, set-set}
use Rattle.std.proofs.lemmas.Bool.{cases_eq, eqb-true, lt-ltb}
use Rattle.std.proofs.lemmas.List.{set-get_or}
use Rattle.std.proofs.lemmas.Option.{none-some, slice_get_within}
use mathlib.Core.Option.{some}
use lib.ListN.{get_elem?}
use prog.Atomic.{either}
use Rattle.atomic_table.specs.Table.{Me, Act, keeps, Valid, stepped, carried_after, Allows}
use Rattle.table_rule.specs.declared.begin.Begin.{Begin}
use Rattle.table_rule.specs.declared.view.Gate.{Gate}
use Rattle.table_rule.specs.declared.view.Gate.TheVariants.{Outside, Inside, Closed}
use Rattle.table_rule.specs.declared.view.Own.{Own}
use Rattle.table_rule.specs.declared.view.View.{View}
use Rattle.table_rule.specs.Gates.{count_below, closed_bit, Gated}
use Rattle.table_words.specs.Laws.{HistoryLaws}
use Rattle.trie_nodes.specs.Layout.{unit_words}
use Rattle.table_rule.specs.Layout.{root_word, gate_word, callers_of, size_of}
use Rattle.table_rule.specs.Owed.{AtGate}
use Rattle.table_rule.specs.Rule.{TableState, Kept}
use Rattle.table_rule.specs.Walking.{IsFree, told_at}
use Rattle.table_rule.specs.Writing.{holding, ComesIn, IsInside, GoesOut}
use Rattle.table_words.proofs.Frames.{Later}
use Rattle.table_words.proofs.Outside.{with_inside, same, later_out, apart_out, fine_out}
use Rattle.table_words.proofs.Quiet.{kept_standing, timely_there, kept_told}
use Rattle.table_words.proofs.Unused.{map_gate}
use Rattle.table_words.proofs.Still.{owned, still, fits_holding, suits_holding, holds_none, own_times}
use Rattle.table_rule.specs.Views.{at_time}
use Rattle.table_words.proofs.Lists.{set_here}

-- the writers, when a caller has come in to a map, or gone out
abbrev pub writers : (ℕ → ℕ → Bool) → ℕ → ℕ → Bool → ℕ → ℕ → Bool
writers inside m c b n d = cond (n == m) (cond (d == c) b (inside n d)) (inside n d)

module _ (inside : ℕ → ℕ → Bool) (m c : ℕ) (b : Bool) where
  pub writer_here : writers inside m c b m c ≡ b
  writer_here = ap (λ t. cond t (cond (c == c) b (inside m c)) (inside m c)) (eq-eqb m m refl) ∙ ap (λ t. cond t b (inside m c)) (eq-eqb c c refl)

  pub writer_other : (n d : ℕ) → d ≢ c → writers inside m c b n d ≡ inside n d
  writer_other n d ne = by_map (n == m) (d == c) refl
    where
      by_map : (t u : Bool) → (d == c) ≡ u → cond t (cond u b (inside n d)) (inside n d) ≡ inside n d
      by_map t true e = absurd (ne (eqb-true d c e))
      by_map true false e = refl
      by_map false false e = refl

  pub writer_elsewhere : (n d : ℕ) → n ≢ m → writers inside m c b n d ≡ inside n d
  writer_elsewhere n d ne = by_map (n == m) refl
    where
      by_map : (t : Bool) → (n == m) ≡ t → cond t (cond (d == c) b (inside n d)) (inside n d) ≡ inside n d
      by_map true e = absurd (ne (eqb-true n m e))
      by_map false e = refl

count_same : (f g : ℕ → Bool) (n : ℕ) → ((d : ℕ) → d < n → g d ≡ f d) → count_below g n ≡ count_below f n
count_same f g zero same_below = refl
count_same f g (suc n) same_below = λ i. cond (same_below n (omega arith) i) (suc (count_same f g n (λ d below. same_below d (omega arith)) i)) (count_same f g n (λ d below. same_below d (omega arith)) i)

-- one more passes the test
count_more : (f g : ℕ → Bool) (c n : ℕ) → ((d : ℕ) → d ≢ c → g d ≡ f d) → c < n → f c ≡ false → g c ≡ true → count_below g n ≡ suc (count_below f n)
count_more f g c zero others below was now = absurd (omega arith)
count_more f g c (suc n) others below was now = elim (cases_eq n c) [
  | inl e ↦
      let here : count_below g n ≡ count_below f n = count_same f g n (λ d less. others d (λ same_one. absurd (omega arith))) in
      let old : f n ≡ false = ap f e ∙ was in
      let new : g n ≡ true = ap g e ∙ now in
      ap (λ t. cond t (suc (count_below g n)) (count_below g n)) new ∙ ap suc here ∙ ap suc (sym (ap (λ t. cond t (suc (count_below f n)) (count_below f n)) old))
  | inr ne ↦
      let more = count_more f g c n others (let apart : c ≢ n = (λ e. ne (sym e)) in omega arith) was now in
      by_test (f n) (g n) (others n ne) more
]
  where
    by_test : (a b : Bool) → b ≡ a → count_below g n ≡ suc (count_below f n) → cond b (suc (count_below g n)) (count_below g n) ≡ suc (cond a (suc (count_below f n)) (count_below f n))
    by_test true true e more = ap suc more
    by_test false false e more = more
    by_test true false e more = absurd (cc)
    by_test false true e more = absurd (cc)

-- the word of a gate that is closed is large
pub closed_large : (closer : ℕ) → 0 < closer → closed_bit closer ≡ 2 ^ 32
closed_large closer stands = ap (λ b. cond b (2 ^ 32) 0) (lt-ltb 0 closer stands)

-- a gate's word is part of nothing, and in no room
module _ (k : Begin) (s : TableState) (r : Kept k s) (m : ℕ) (below : m < k.maps) where
  pub free : r.shape.part_of (gate_word k m) ≡ 0
  free = r.fine.headed (gate_word k m) (omega arith)

  pub behind : length k.kinds < gate_word k m
  behind = omega arith

  pub no_root : (n : ℕ) → n < k.maps → root_word k n ≢ gate_word k m
  no_root n less e = absurd (omega arith)

  pub no_gate : (n : ℕ) → n ≢ m → gate_word k n ≢ gate_word k m
  no_gate n ne e = ne (omega arith)

  pub gate_within : gate_word k m < length s.words
  gate_within = let wide = r.fine.wide in omega arith

  -- a gate that isn't closed by its word is closed by nobody
  pub open_at : slice_index s.words (gate_word k m) < 2 ^ 32 → r.shape.closed_by m ≡ 0
  open_at small = by_closer (r.shape.closed_by m) refl
    where
      by_closer : (closer : ℕ) → r.shape.closed_by m ≡ closer → closer ≡ 0
      by_closer zero e = refl
      by_closer (suc d) e =
          let word = (r.gates m below).word in
          let bit : closed_bit (r.shape.closed_by m) ≡ 2 ^ 32 = closed_large (r.shape.closed_by m) (omega arith) in
          absurd (omega arith)

-- a seat that was told a number is free as before
pub still_free : (k : Begin) (me : Me (Unit {0}) View) (before : ℕ) → IsFree k me → IsFree k (told_at before me)
still_free k me before f = let i = f.idle in record { live = f.live; begin = f.begin; idle = record { walk = i.walk; leaf = i.leaf; lock = i.lock; upper = i.upper; gate = i.gate; spot = i.spot }; some = f.some }

-- a seat outside tries to change a gate's word, and does where the word is still as it saw it
pub tries : (k : Begin) (id : ℕ) (me : Me (Unit {0}) View) (m old new : ℕ) (then : View) → IsFree k me
    → ((own : Own) (owns : List Own) → me.0.owns ≡ own ∷ owns → (s : TableState) (r : Kept k s) → get_elem? s.views id ≡ some me.0 → slice_index s.words (gate_word k m) ≡ old → Kept k record { words = set s.words (gate_word k m) new; homes = s.homes; views = set s.views id then })
    → Allows (Kept k) 0 id me (gate_word k m) (λ n. either (n == old) new n) (λ found after. (after.1 ≡ me.1) × MatchBool (found == old) (after.0 ≡ then) (after.0 ≡ me.0))
tries k id me m old new then outside changed = by_owns me.0.owns refl
  where
    by_owns : (owns : List Own) → me.0.owns ≡ owns → Allows (Kept k) 0 id me (gate_word k m) (λ n. either (n == old) new n) (λ found after. (after.1 ≡ me.1) × MatchBool (found == old) (after.0 ≡ then) (after.0 ≡ me.0))
    by_owns [] e = let none_there = ap length e in let stands = outside.some in absurd (omega arith)
    by_owns (own ∷ owns) is = λ s r one at_me bounded. by_found s r at_me (slice_index s.words (gate_word k m) == old) refl
      where
        Told : TableState → Bool → Type 0
        Told s b = (u : View) × (a : Act (Unit {0})) × Valid s.homes me.1 a × Kept k (stepped s (gate_word k m) (either b new (slice_index s.words (gate_word k m))) id me.1 u a) × ((carried_after me.1 a ≡ me.1) × MatchBool b (u ≡ then) (u ≡ me.0))

        by_found : (s : TableState) (r : Kept k s) → get_elem? s.views id ≡ some me.0 → (b : Bool) → (slice_index s.words (gate_word k m) == old) ≡ b → Told s b
        by_found s r at_me true e = (then, keeps, tt, changed own owns is s r at_me (eqb-true (slice_index s.words (gate_word k m)) old e), (refl, refl))
        by_found s r at_me false e = let u = r.suits id me.0 at_me outside.live in (
          me.0,
          keeps,
          tt,
          subst (λ ws. Kept k record { words = ws; homes = s.homes; views = set s.views id me.0 }) (sym (set-get_or s.words (gate_word k m) 0)) (kept_standing k s r id me.0 at_me outside.live me.0.walk me.0.leaf u.walk u.steady u.leaf (timely_there k s r id me.0 at_me outside.live me.0.leaf)),
          (refl, refl),
        )

-- a seat outside comes in
module _ (k : Begin) (laws : HistoryLaws) (s : TableState) (r : Kept k s) (id : ℕ) (me : Me (Unit {0}) View) (at_me : get_elem? s.views id ≡ some me.0) (outside : IsFree k me) (own : Own) (owns : List Own) (is : me.0.owns ≡ own ∷ owns)
    (m : ℕ) (below : m < k.maps) (old : ℕ) (found : slice_index s.words (gate_word k m) ≡ old) (small : old < 2 ^ 32) where
  abbrev c : ℕ
  c = me.0.number

  abbrev now : ℕ → ℕ → Bool
  now = writers r.shape.inside m me.0.number true

  few : me.0.number < callers_of k
  few = (owned k laws s r id me.0 at_me outside.live own owns is).below

  first_is : slice_get me.0.owns 0 ≡ Some own
  first_is = ap (λ l. slice_get l 0) is

  was_out : (n : ℕ) → r.shape.inside n me.0.number ≡ false
  was_out n = by_test (r.shape.inside n me.0.number) refl
    where
      by_test : (b : Bool) → r.shape.inside n me.0.number ≡ b → b ≡ false
      by_test true e =
          let number : me.0.number + 0 ≡ me.0.number = omega arith in
          let gate = (r.suits id me.0 at_me outside.live).only n 0 own first_is (ap (r.shape.inside n) number ∙ e) in
          absurd (let same_gate : Outside ≡ Inside n = sym outside.idle.gate ∙ gate in (cc))
      by_test false e = refl

  open_now : r.shape.closed_by m ≡ 0
  open_now = open_at k s r m below (let e = found in omega arith)

  counted : count_below (writers r.shape.inside m me.0.number true m) (callers_of k) ≡ suc (count_below (r.shape.inside m) (callers_of k))
  counted = count_more (r.shape.inside m) (writers r.shape.inside m me.0.number true m) me.0.number (callers_of k) (writer_other r.shape.inside m me.0.number true m) few (was_out m) (writer_here r.shape.inside m me.0.number true)

  gates_now : (n : ℕ) → n < k.maps → Gated k (with_inside r.shape (writers r.shape.inside m me.0.number true)) (set s.words (gate_word k m) (old + 1)) n
  gates_now n less = elim (cases_eq n m) [
    | inl e ↦ subst (Gated k (with_inside r.shape (writers r.shape.inside m me.0.number true)) (set s.words (gate_word k m) (old + 1))) (sym e) record {
      word =
          let here = get_or-set_same s.words (gate_word k m) (old + 1) 0 (gate_within k s r m below) in
          let was = (r.gates m below).word in
          let more = counted in
          omega arith;
      callers = λ d is_in. elim (cases_eq d me.0.number) [
        | inl same_one ↦ let less = few in omega arith
        | inr other ↦ (r.gates m below).callers d (sym (writer_other r.shape.inside m me.0.number true m d other) ∙ is_in)
      ];
      closers = (r.gates m below).closers;
    }
    | inr ne ↦ let g = r.gates n less in record {
      word = same k r.shape r.log s.words (gate_word k m) (old + 1) (writers r.shape.inside m me.0.number true) r.fine (free k s r m below) (behind k s r m below) (no_root k s r m below) (gate_word k n) (no_gate k s r m below n ne)
          ∙ g.word ∙ ap (λ count. count + closed_bit (r.shape.closed_by n)) (sym (count_same (r.shape.inside n) (writers r.shape.inside m me.0.number true n) (callers_of k) (λ d less. writer_elsewhere r.shape.inside m me.0.number true n d ne)));
      callers = λ d is_in. g.callers d (sym (writer_elsewhere r.shape.inside m me.0.number true n d ne) ∙ is_in);
      closers = g.closers;
    }
  ]

  later : Later r.shape (with_inside r.shape (writers r.shape.inside m me.0.number true)) r.log r.log s.words (set s.words (gate_word k m) (old + 1))
  later = later_out k r.shape r.log s.words (gate_word k m) (old + 1) (writers r.shape.inside m me.0.number true) r.fine (free k s r m below) (behind k s r m below) (no_root k s r m below)

  pub kept_inside : Kept k record { words = set s.words (gate_word k m) (old + 1); homes = s.homes; views = set s.views id (holding me.0 (Inside m) None None) }
  kept_inside = let u = r.suits id me.0 at_me outside.live in
      still k laws s r id me.0 at_me outside.live own owns is (with_inside r.shape (writers r.shape.inside m me.0.number true)) (set s.words (gate_word k m) (old + 1)) (holding me.0 (Inside m) None None)
      outside.live
      (map_gate k (with_inside r.shape (writers r.shape.inside m me.0.number true)) s.views id me.0 (holding me.0 (Inside m) None None) at_me outside.live refl s.words m (old + 1) below)
      (fits_holding k laws s r id me.0 at_me outside.live own owns is (Inside m) None None)
      (fine_out k r.shape r.log s.words (gate_word k m) (old + 1) (writers r.shape.inside m me.0.number true) r.fine (free k s r m below) (behind k s r m below) (no_root k s r m below))
      gates_now
      later
      (apart_out k r.shape r.log s.words (gate_word k m) (old + 1) (writers r.shape.inside m me.0.number true) r.fine (free k s r m below) (behind k s r m below) (no_root k s r m below) me.0.number
      (λ d i other lies mine e. absurd (omega arith))
      (λ d n other. writer_other r.shape.inside m me.0.number true n d other)
      (λ d n other closed alone e. elim (cases_eq n m) [
        | inl same_map ↦ absurd (let zero_closer : 0 ≡ suc d = sym open_now ∙ ap r.shape.closed_by (sym same_map) ∙ closed in omega arith)
        | inr ne ↦ writer_elsewhere r.shape.inside m me.0.number true n e ne ∙ alone e
      ]))
      (suits_holding k laws s r id me.0 at_me outside.live own owns is (with_inside r.shape (writers r.shape.inside m me.0.number true)) (set s.words (gate_word k m) (old + 1)) (Inside m) None None later
      (λ w e gate. absurd (none-some w (sym outside.idle.walk ∙ e)))
      (λ i o e. let h = u.room i o e in record {
        lies = h.lies;
        within = h.within;
        mine = h.mine;
        unused = h.unused;
        words = λ n less. let lies = h.lies in same k r.shape r.log s.words (gate_word k m) (old + 1) (writers r.shape.inside m me.0.number true) r.fine (free k s r m below) (behind k s r m below) (no_root k s r m below) (o.next + n) (λ e. absurd (omega arith)) ∙ h.words n less;
      })
      (below, writer_here r.shape.inside m me.0.number true)
      (λ n i o e is_in. elim (cases_eq n m) [
        | inl same_map ↦ ap Inside (sym same_map)
        | inr ne ↦ absurd (let gate = u.only n i o e (sym (writer_elsewhere r.shape.inside m me.0.number true n (me.0.number + i) ne) ∙ is_in) in let same_gate : Outside ≡ Inside n = sym outside.idle.gate ∙ gate in (cc))
      ])
      (λ p i o e reach held. absurd (holds_none me.0 p outside.idle.lock outside.idle.upper (u.holder p i o e reach held)))
      (λ n i o e closed. absurd (let was = u.closer n i o e closed in let same_gate : Outside ≡ Closed n was.0 = sym outside.idle.gate ∙ was.1 in (cc)))
      (λ l e. absurd (none-some l e))
      (λ l e. absurd (none-some l e))
      (λ e. absurd (let stands = outside.some in omega arith)))
      (own_times k laws s r id me.0 at_me outside.live own owns is)
      (inl outside.idle.walk)

-- it is told its caller's number at that step
pub comes_in : (k : Begin) → HistoryLaws → (id : ℕ) (me : Me (Unit {0}) View) (m before old : ℕ) → IsFree k me → m < k.maps → old < 2 ^ 32 → Allows (Kept k) 0 id me (gate_word k m) (λ n. either (n == old) (old + 1) n) (ComesIn m before old me)
comes_in k laws id me m before old outside below small = tries k id me m old (old + 1) (holding (at_time me.0 before) (Inside m) None None) outside (λ own owns is s r at_me found.
    let v = at_time me.0 before in
    subst (λ vs. Kept k record { words = set s.words (gate_word k m) (old + 1); homes = s.homes; views = vs }) (set-set s.views id v (holding v (Inside m) None None))
    (kept_inside k laws (record { words = s.words; homes = s.homes; views = set s.views id v }) (kept_told k s r id me.0 at_me outside.live outside.idle.walk before) id (told_at before me) (set_here s.views id me.0 v at_me)
    (still_free k me before outside) own owns is m below old found small))

abbrev map_of_gate : Gate → ℕ
map_of_gate Outside = 0
map_of_gate (Inside m) = m
map_of_gate (Closed m alone) = m

-- the word with one writer less
one_less : (n : ℕ) → 0 < n → n < 2 ^ 64 → (n + (2 ^ 64 - 1)) % 2 ^ 64 ≡ n - 1
one_less n stands fits = omega arith

-- a writer goes out
module _ (k : Begin) (laws : HistoryLaws) (s : TableState) (r : Kept k s) (id : ℕ) (me : Me (Unit {0}) View) (at_me : get_elem? s.views id ≡ some me.0) (m : ℕ) (writer : IsInside k me m) (own : Own) (owns : List Own) (is : me.0.owns ≡ own ∷ owns)
    (bounded : slice_index s.words (gate_word k m) < 2 ^ 64) where
  is_inside : (m < k.maps) × (r.shape.inside m me.0.number ≡ true)
  is_inside = subst (AtGate k r.shape me.0.number) writer.gate (r.suits id me.0 at_me writer.live).gate

  below : m < k.maps
  below = is_inside.0

  present : me.0.number < callers_of k
  present = (owned k laws s r id me.0 at_me writer.live own owns is).below

  fewer : count_below (r.shape.inside m) (callers_of k) ≡ suc (count_below (writers r.shape.inside m me.0.number false m) (callers_of k))
  fewer = count_more (writers r.shape.inside m me.0.number false m) (r.shape.inside m) me.0.number (callers_of k) (λ d other. sym (writer_other r.shape.inside m me.0.number false m d other)) present (writer_here r.shape.inside m me.0.number false) is_inside.1

  abbrev word : ℕ
  word = (slice_index s.words (gate_word k m) + (2 ^ 64 - 1)) % 2 ^ 64

  word_is : (slice_index s.words (gate_word k m) + (2 ^ 64 - 1)) % 2 ^ 64 + 1 ≡ slice_index s.words (gate_word k m)
  word_is = let was = (r.gates m below).word in let more = fewer in let less = one_less (slice_index s.words (gate_word k m)) (omega arith) bounded in omega arith

  gates_out : (n : ℕ) → n < k.maps → Gated k (with_inside r.shape (writers r.shape.inside m me.0.number false)) (set s.words (gate_word k m) word) n
  gates_out n less = elim (cases_eq n m) [
    | inl e ↦ subst (Gated k (with_inside r.shape (writers r.shape.inside m me.0.number false)) (set s.words (gate_word k m) word)) (sym e) record {
      word =
          let here = get_or-set_same s.words (gate_word k m) word 0 (gate_within k s r m below) in
          let was = (r.gates m below).word in
          let more = fewer in
          let now = word_is in
          omega arith;
      callers = λ d is_in. elim (cases_eq d me.0.number) [
        | inl same_one ↦ let less = present in omega arith
        | inr other ↦ (r.gates m below).callers d (sym (writer_other r.shape.inside m me.0.number false m d other) ∙ is_in)
      ];
      closers = (r.gates m below).closers;
    }
    | inr ne ↦ let g = r.gates n less in record {
      word = same k r.shape r.log s.words (gate_word k m) word (writers r.shape.inside m me.0.number false) r.fine (free k s r m below) (behind k s r m below) (no_root k s r m below) (gate_word k n) (no_gate k s r m below n ne)
          ∙ g.word ∙ ap (λ count. count + closed_bit (r.shape.closed_by n)) (sym (count_same (r.shape.inside n) (writers r.shape.inside m me.0.number false n) (callers_of k) (λ d less. writer_elsewhere r.shape.inside m me.0.number false n d ne)));
      callers = λ d is_in. g.callers d (sym (writer_elsewhere r.shape.inside m me.0.number false n d ne) ∙ is_in);
      closers = g.closers;
    }
  ]

  later_gone : Later r.shape (with_inside r.shape (writers r.shape.inside m me.0.number false)) r.log r.log s.words (set s.words (gate_word k m) word)
  later_gone = later_out k r.shape r.log s.words (gate_word k m) word (writers r.shape.inside m me.0.number false) r.fine (free k s r m below) (behind k s r m below) (no_root k s r m below)

  -- nobody comes in by it
  no_more : (n d : ℕ) → r.shape.inside n d ≡ false → writers r.shape.inside m me.0.number false n d ≡ false
  no_more n d out = by_map (n == m) (d == me.0.number)
    where
      by_map : (t u : Bool) → cond t (cond u false (r.shape.inside n d)) (r.shape.inside n d) ≡ false
      by_map true true = refl
      by_map true false = out
      by_map false u = out

  pub kept_gone : Kept k record { words = set s.words (gate_word k m) word; homes = s.homes; views = set s.views id (holding me.0 Outside None None) }
  kept_gone = let u = r.suits id me.0 at_me writer.live in
      still k laws s r id me.0 at_me writer.live own owns is (with_inside r.shape (writers r.shape.inside m me.0.number false)) (set s.words (gate_word k m) word) (holding me.0 Outside None None)
      writer.live
      (map_gate k (with_inside r.shape (writers r.shape.inside m me.0.number false)) s.views id me.0 (holding me.0 Outside None None) at_me writer.live refl s.words m word below)
      (fits_holding k laws s r id me.0 at_me writer.live own owns is Outside None None)
      (fine_out k r.shape r.log s.words (gate_word k m) word (writers r.shape.inside m me.0.number false) r.fine (free k s r m below) (behind k s r m below) (no_root k s r m below))
      gates_out
      later_gone
      (apart_out k r.shape r.log s.words (gate_word k m) word (writers r.shape.inside m me.0.number false) r.fine (free k s r m below) (behind k s r m below) (no_root k s r m below) me.0.number
      (λ d i other lies mine e. let less = below in absurd (omega arith))
      (λ d n other. writer_other r.shape.inside m me.0.number false n d other)
      (λ d n other closed alone e. no_more n e (alone e)))
      (suits_holding k laws s r id me.0 at_me writer.live own owns is (with_inside r.shape (writers r.shape.inside m me.0.number false)) (set s.words (gate_word k m) word) Outside None None later_gone
      (λ w e gate. absurd (let same_gate : Outside ≡ Inside w.map = gate in (cc)))
      (λ i o e. let h = u.room i o e in record {
        lies = h.lies;
        within = h.within;
        mine = h.mine;
        unused = h.unused;
        words = λ n less. let lies = h.lies in let at = below in same k r.shape r.log s.words (gate_word k m) word (writers r.shape.inside m me.0.number false) r.fine (free k s r m below) (behind k s r m below) (no_root k s r m below) (o.next + n) (λ e. absurd (omega arith)) ∙ h.words n less;
      })
      tt
      (λ n i o e is_in. absurd (still_in n i o e is_in))
      (λ p i o e reach held. absurd (holds_none me.0 p writer.lock writer.upper (u.holder p i o e reach held)))
      (λ n i o e closed. absurd (let was = u.closer n i o e closed in let same_gate : Inside m ≡ Closed n was.0 = sym writer.gate ∙ was.1 in (cc)))
      (λ l e. absurd (none-some l e))
      (λ l e. absurd (none-some l e))
      (λ e. refl))
      (own_times k laws s r id me.0 at_me writer.live own owns is)
      (inr (refl, refl))
    where
      -- none of the seat's callers is inside
      still_in : (n i : ℕ) (o : Own) → slice_get me.0.owns i ≡ Some o → writers r.shape.inside m me.0.number false n (me.0.number + i) ≡ true → ⊥
      still_in n i o e is_in =
          let u = r.suits id me.0 at_me writer.live in
          elim (cases_eq n m) [
            | inl same_map ↦
                let within = slice_get_within me.0.owns i o e in
                let one = writer.few in
                let number : me.0.number + i ≡ me.0.number = omega arith in
                let out : writers r.shape.inside m me.0.number false n (me.0.number + i) ≡ false = ap (λ (p : ℕ × ℕ). writers r.shape.inside m me.0.number false p.0 p.1) (λ j. (same_map j, number j)) ∙ writer_here r.shape.inside m me.0.number false in
                absurd (let t : false ≡ true = sym out ∙ is_in in (cc))
            | inr ne ↦
                let gate = u.only n i o e (sym (writer_elsewhere r.shape.inside m me.0.number false n (me.0.number + i) ne) ∙ is_in) in
                absurd (ne (ap map_of_gate (sym gate ∙ writer.gate)))
          ]

pub goes_out : (k : Begin) → HistoryLaws → (id : ℕ) (me : Me (Unit {0}) View) (m : ℕ) → IsInside k me m → Allows (Kept k) 0 id me (gate_word k m) (λ n. (n + (2 ^ 64 - 1)) % 2 ^ 64) (GoesOut me)
goes_out k laws id me m writer = by_owns me.0.owns refl
  where
    by_owns : (owns : List Own) → me.0.owns ≡ owns → Allows (Kept k) 0 id me (gate_word k m) (λ n. (n + (2 ^ 64 - 1)) % 2 ^ 64) (GoesOut me)
    by_owns [] e = let none_there = ap length e in let stands = writer.some in absurd (omega arith)
    by_owns (own ∷ owns) is = λ s r one at_me bounded. (holding me.0 Outside None None, keeps, tt, kept_gone k laws s r id me at_me m writer own owns is bounded, (refl, refl, λ o at. subst (λ (b : Begin). o.next + unit_words * o.spare ≤ size_of b) (sym writer.begin) ((r.suits id me.0 at_me writer.live).room 0 o at).within))
