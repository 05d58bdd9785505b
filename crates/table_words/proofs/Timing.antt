-- The numbers of calls in the one order of all events: which number a call gets, and how the numbers go on at a step.
use Rattle.std.proofs.Common.{◌≡◌, ◌≢◌, ℕ, zero, suc, ◌+◌, ◌-◌, ◌<◌, ◌≤◌, Bool, true, false, ◌==◌, cond, max, eq-eqb, ne_eqb, List, [], ◌∷◌, ◌++◌, length, Option, Some, None, slice_get, ◌⊎◌, inl, inr, refl, sym, ap, ◌∙◌, subst, arith, length-append, le_refl}
use Rattle.std.proofs.lemmas.Bool.{cases_eq, cases_lt}
use Rattle.std.proofs.lemmas.Option.{none-some, same_Some, slice_get_within}
use mathlib.Core.Option.{some}
use lib.ListN.{get_elem?}
use Rattle.sync_model.specs.declared.item.SharedEntry.{SharedEntry}
use Rattle.sync_model.specs.declared.item.Item.{Item}
use Rattle.sync_model.specs.SharedOrder.{IsAmong, InOrder}
use Rattle.sync_model.specs.SharedHistory.{entry_of, history_with}
use Rattle.table_rule.specs.declared.begin.Begin.{Begin}
use Rattle.table_rule.specs.declared.view.Own.{Own}
use Rattle.table_rule.specs.declared.view.View.{View}
use Rattle.table_rule.specs.declared.view.Walk.{Walk}
use Rattle.table_rule.specs.Order.{IsTimely, Ordered}
use Rattle.table_rule.specs.Shape.{Shape, time}
use Rattle.table_words.proofs.Frames.{Later, time_on}
use Rattle.table_words.proofs.Lists.{item_on, item_front, item_there}

-- of each caller's list, that of one with one more
abbrev pub with_one : {A : Type 0} → (ℕ → List A) → ℕ → A → ℕ → List A
with_one lists c x d = cond (d == c) (lists c ++ x ∷ []) (lists d)

module _ {A : Type 0} (lists : ℕ → List A) (c : ℕ) (x : A) where
  pub one_mine : with_one lists c x c ≡ lists c ++ x ∷ []
  one_mine = ap (λ b. cond b (lists c ++ x ∷ []) (lists c)) (eq-eqb c c refl)

  pub one_other : (d : ℕ) → d ≢ c → with_one lists c x d ≡ lists d
  one_other d ne = ap (λ b. cond b (lists c ++ x ∷ []) (lists d)) (ne_eqb d c ne)

last_item : {A : Type 0} → (xs : List A) (x : A) → slice_get (xs ++ x ∷ []) (length xs) ≡ Some x
last_item [] x = refl
last_item (y ∷ xs) x = last_item xs x

-- a number just before that of an entry, or the next one where there is none
abbrev pub free_at : Option ℕ → ℕ → ℕ
free_at None next = next
free_at (Some later) next = later - 1

-- the number of a call that is placed here: one that comes last is past the clock and its caller's last event, and any other comes just before the entry at its place
abbrev pub time_at : List ℕ → ℕ → ℕ → ℕ → ℕ
time_at entry_times clock before place = free_at (slice_get entry_times place) (max clock before + 2)

-- how the numbers go on at a step of caller c, whose seat then has this view
pub record GoesOn (sh : Shape) (log : List SharedEntry) (calls : ℕ → List Item) (views : List View) (o : Ordered sh log calls views) (new : Shape) (log' : List SharedEntry) (calls' : ℕ → List Item) (c : ℕ) (w : View) : Type 0 where
  pub entry_times : List ℕ
  pub times : ℕ → List ℕ
  pub clock : ℕ
  pub order : InOrder log' calls' entry_times times
  pub apart : (n i earlier later : ℕ) → n < i → slice_get entry_times n ≡ Some earlier → slice_get entry_times i ≡ Some later → earlier + 2 ≤ later
  pub entered : (n time : ℕ) → slice_get entry_times n ≡ Some time → time ≤ clock
  pub called : (c j time : ℕ) → slice_get (times c) j ≡ Some time → time ≤ clock
  pub more : o.clock ≤ clock
  -- an entry that came is past the clock
  pub came : (n later : ℕ) → slice_get entry_times n ≡ Some later → (slice_get o.entry_times n ≡ Some later) ⊎ (o.clock + 2 ≤ later)
  pub others : (d : ℕ) → d ≢ c → times d ≡ o.times d
  pub mine : IsTimely new log' entry_times times clock w

-- what another seat knows of the numbers stays so
pub timely_on : (k : Begin) (sh new : Shape) (log log' : List SharedEntry) (ws ws' : List ℕ) → Later sh new log log' ws ws' → (calls calls' : ℕ → List Item) (views : List View) (o : Ordered sh log calls views) (c : ℕ) (w : View) (g : GoesOn sh log calls views o new log' calls' c w)
    → (u : View) → ((x : Walk) → u.walk ≡ Some x → sh.kind_of x.node ≡ 1) → ((i : ℕ) (own : Own) → slice_get u.owns i ≡ Some own → u.number + i ≢ c) → IsTimely sh log o.entry_times o.times o.clock u → IsTimely new log' g.entry_times g.times g.clock u
timely_on k sh new log log' ws ws' later calls calls' views o c w g u nodes away t = record {
  owns = λ i own at. g.others (u.number + i) (away i own at) ∙ t.owns i own at;
  told = λ x is. let told = t.told x is in let more = g.more in omega arith;
  since = λ x n last is from at. let up = time_on k sh new log log' ws ws' later x.node (nodes x is) in elim (g.came n last at) [
    | inl old ↦ t.since x n last is (omega arith) old
    | inr came ↦ let told = t.told x is in omega arith
  ];
}

-- no call is made
pub goes_still : (sh : Shape) (log : List SharedEntry) (calls : ℕ → List Item) (views : List View) (o : Ordered sh log calls views) (new : Shape) (c : ℕ) (w : View) → IsTimely new log o.entry_times o.times o.clock w → GoesOn sh log calls views o new log calls c w
goes_still sh log calls views o new c w mine = record {
  entry_times = o.entry_times;
  times = o.times;
  clock = o.clock;
  order = o.order;
  apart = o.apart;
  entered = o.entered;
  called = o.called;
  more = le_refl o.clock;
  came = λ n later at. inl at;
  others = λ d other. refl;
  mine = mine;
}

-- a seat that stands nowhere is timely where it knows its callers' numbers
pub timely_nowhere : (sh : Shape) (log : List SharedEntry) (entry_times : List ℕ) (times : ℕ → List ℕ) (clock : ℕ) (w : View) → ((i : ℕ) (own : Own) → slice_get w.owns i ≡ Some own → times (w.number + i) ≡ own.times) → w.walk ≡ None → IsTimely sh log entry_times times clock w
timely_nowhere sh log entry_times times clock w owns nowhere = record {
  owns = owns;
  told = λ x is. absurd (none-some x (sym nowhere ∙ is));
  since = λ x n later is from at. absurd (none-some x (sym nowhere ∙ is));
}

-- one call more
module _ (sh : Shape) (log : List SharedEntry) (calls : ℕ → List Item) (views : List View) (o : Ordered sh log calls views) (c : ℕ) (x : Item) (before : ℕ) (to : x.place ≤ length log) (last : x.entry ≡ true → x.place ≡ length log)
    (places : (d j : ℕ) (y : Item) → slice_get (calls d) j ≡ Some y → y.place ≤ length log) (fresh : (n later : ℕ) → x.place ≤ n → slice_get o.entry_times n ≡ Some later → before + 2 ≤ later) where
  abbrev pub number : ℕ
  number = time_at o.entry_times o.clock before x.place

  abbrev clock_then : ℕ
  clock_then = max o.clock before + 2

  abbrev times_on : Bool → List ℕ
  times_on b = cond b (o.entry_times ++ number ∷ []) o.entry_times

  -- what is so of the number, by what stands at the place
  record Suits (t : ℕ) : Type 0 where
    past : before < t
    until : t ≤ max o.clock before + 2
    behind : (n earlier : ℕ) → n < x.place → slice_get o.entry_times n ≡ Some earlier → earlier < t
    ahead : (n later : ℕ) → x.place ≤ n → slice_get o.entry_times n ≡ Some later → t < later
    end : x.place ≡ length log → o.clock + 2 ≤ t

  suits : Suits number
  suits = by_place (slice_get o.entry_times x.place) refl
    where
      by_place : (at : Option ℕ) → slice_get o.entry_times x.place ≡ at → Suits (free_at at (max o.clock before + 2))
      by_place None e = record {
        past = omega arith;
        until = omega arith;
        behind = λ n earlier below at. let up = o.entered n earlier at in omega arith;
        ahead = λ n later from at. let inside = slice_get_within o.entry_times n later at in let there = item_there o.entry_times x.place (omega arith) in absurd (none-some there.0 (sym e ∙ there.1));
        end = λ is. omega arith;
      }
      by_place (Some m) e = let free = fresh x.place m (le_refl x.place) e in let up = o.entered x.place m e in record {
        past = omega arith;
        until = omega arith;
        behind = λ n earlier below at. let two = o.apart n x.place earlier m below at e in omega arith;
        ahead = λ n later from at. elim (cases_eq n x.place) [
          | inl same ↦ let is : later ≡ m = same_Some later m (sym at ∙ ap (slice_get o.entry_times) same ∙ e) in omega arith
          | inr ne ↦ let two = o.apart x.place n m later (omega arith) e at in omega arith
        ];
        end = λ is. let inside = slice_get_within o.entry_times x.place m e in let sized = o.order.entries in absurd (omega arith);
      }

  pub past : before < number
  past = suits.past

  -- the same numbers, and that of an entry
  get_on : (b : Bool) (n later : ℕ) → slice_get (times_on b) n ≡ Some later → (slice_get o.entry_times n ≡ Some later) ⊎ ((b ≡ true) × (n ≡ length log) × (later ≡ number))
  get_on true n later at = elim (item_on o.entry_times number later n at) [ inl old ↦ inl old | inr now ↦ let sized = o.order.entries in inr (refl, now.0 ∙ sized, now.1) ]
  get_on false n later at = inl at

  keeps_on : (b : Bool) (n later : ℕ) → slice_get o.entry_times n ≡ Some later → slice_get (times_on b) n ≡ Some later
  keeps_on true n later at = item_front o.entry_times (number ∷ []) later n at
  keeps_on false n later at = at

  -- an entry that comes is past the clock
  comes : (n later : ℕ) → slice_get (times_on x.entry) n ≡ Some later → (slice_get o.entry_times n ≡ Some later) ⊎ (o.clock + 2 ≤ later)
  comes n later at = elim (get_on x.entry n later at) [ inl old ↦ inl old | inr now ↦ let end = suits.end (last now.0) in let is = now.2 in inr (omega arith) ]

  sized_on : (b : Bool) → length (times_on b) ≡ length (cond b (log ++ entry_of c x ∷ []) log)
  sized_on true = length-append o.entry_times (number ∷ []) ∙ ap (λ n. n + 1) o.order.entries ∙ sym (length-append log (entry_of c x ∷ []))
  sized_on false = o.order.entries

  -- each earlier call has its place as before
  among_old : (y : Item) (t : ℕ) → y.place ≤ length log → t ≤ o.clock → IsAmong o.entry_times y t → IsAmong (times_on x.entry) y t
  among_old y t within until a = record {
    past = λ n earlier below at. elim (get_on x.entry n earlier at) [ inl old ↦ a.past n earlier below old | inr now ↦ let at_end = now.1 in absurd (omega arith) ];
    is = λ entry. keeps_on x.entry y.place t (a.is entry);
    before = λ quiet n later from at. elim (comes n later at) [ inl old ↦ a.before quiet n later from old | inr now ↦ omega arith ];
  }

  among_new : IsAmong (times_on x.entry) x number
  among_new = record {
    past = λ n earlier below at. elim (get_on x.entry n earlier at) [ inl old ↦ suits.behind n earlier below old | inr now ↦ let at_end = now.1 in absurd (omega arith) ];
    is = λ entry. let sized = o.order.entries in let here : length o.entry_times ≡ x.place = sized ∙ sym (last entry) in ap (λ b. slice_get (times_on b) x.place) entry ∙ subst (λ n. slice_get (o.entry_times ++ number ∷ []) n ≡ Some number) here (last_item o.entry_times number);
    before = λ quiet n later from at. elim (get_on x.entry n later at) [ inl old ↦ suits.ahead n later from old | inr now ↦ absurd (let e : true ≡ false = sym now.0 ∙ quiet in (cc)) ];
  }

  rises : (n i earlier later : ℕ) → n < i → slice_get (times_on x.entry) n ≡ Some earlier → slice_get (times_on x.entry) i ≡ Some later → earlier + 2 ≤ later
  rises n i earlier later below at_n at_i = elim (get_on x.entry i later at_i) [
    | inl old ↦ let inside = slice_get_within o.entry_times i later old in elim (get_on x.entry n earlier at_n) [
      | inl both ↦ o.apart n i earlier later below both old
      | inr now ↦ let at_end = now.1 in let sized = o.order.entries in absurd (omega arith)
    ]
    | inr now ↦ elim (get_on x.entry n earlier at_n) [
      | inl old ↦ let up = o.entered n earlier old in let end = suits.end (last now.0) in let is = now.2 in omega arith
      | inr too ↦ let here = now.1 in let there = too.1 in absurd (omega arith)
    ]
  ]

  -- a call has its place, and no number past the clock
  each_call : (d j t : ℕ) (y : Item) → slice_get (with_one calls c x d) j ≡ Some y → slice_get (with_one o.times c number d) j ≡ Some t → IsAmong (times_on x.entry) y t
  each_call d j t y at_y at_t = elim (cases_eq d c) [
    | inl same ↦ mine (ap (λ xs. slice_get xs j) (sym (one_mine calls c x) ∙ ap (with_one calls c x) (sym same)) ∙ at_y) (ap (λ xs. slice_get xs j) (sym (one_mine o.times c number) ∙ ap (with_one o.times c number) (sym same)) ∙ at_t)
    | inr ne ↦ of_old d (ap (λ xs. slice_get xs j) (sym (one_other calls c x d ne)) ∙ at_y) (ap (λ xs. slice_get xs j) (sym (one_other o.times c number d ne)) ∙ at_t)
  ]
    where
      of_old : (e : ℕ) → slice_get (calls e) j ≡ Some y → slice_get (o.times e) j ≡ Some t → IsAmong (times_on x.entry) y t
      of_old e at_y at_t = among_old y t (places e j y at_y) (o.called e j t at_t) (o.order.among e j t y at_y at_t)

      mine : slice_get (calls c ++ x ∷ []) j ≡ Some y → slice_get (o.times c ++ number ∷ []) j ≡ Some t → IsAmong (times_on x.entry) y t
      mine at_y at_t = elim (item_on (calls c) x y j at_y) [
        | inl old ↦ elim (item_on (o.times c) number t j at_t) [
          | inl both ↦ of_old c old both
          | inr now ↦ let inside = slice_get_within (calls c) j y old in let all = o.order.all c in let here = now.0 in absurd (omega arith)
        ]
        | inr now ↦ elim (item_on (o.times c) number t j at_t) [
          | inl old ↦ let inside = slice_get_within (o.times c) j t old in let all = o.order.all c in let here = now.0 in absurd (omega arith)
          | inr both ↦ subst (λ (p : Item × ℕ). IsAmong (times_on x.entry) p.0 p.1) (λ i. (sym now.1 i, sym both.1 i)) among_new
        ]
      ]

  each_until : (d j t : ℕ) → slice_get (with_one o.times c number d) j ≡ Some t → t ≤ clock_then
  each_until d j t at = elim (cases_eq d c) [
    | inl same ↦ elim (item_on (o.times c) number t j (ap (λ xs. slice_get xs j) (sym (one_mine o.times c number) ∙ ap (with_one o.times c number) (sym same)) ∙ at)) [
      | inl old ↦ let up = o.called c j t old in omega arith
      | inr now ↦ let is = now.1 in let up = suits.until in omega arith
    ]
    | inr ne ↦ let up = o.called d j t (ap (λ xs. slice_get xs j) (sym (one_other o.times c number d ne)) ∙ at) in omega arith
  ]

  each_sized : (d : ℕ) → length (with_one o.times c number d) ≡ length (with_one calls c x d)
  each_sized d = elim (cases_eq d c) [
    | inl same ↦ subst (λ e. length (with_one o.times c number e) ≡ length (with_one calls c x e)) (sym same)
        (ap length (one_mine o.times c number) ∙ length-append (o.times c) (number ∷ []) ∙ ap (λ n. n + 1) (o.order.all c) ∙ sym (length-append (calls c) (x ∷ [])) ∙ ap length (sym (one_mine calls c x)))
    | inr ne ↦ ap length (one_other o.times c number d ne) ∙ o.order.all d ∙ ap length (sym (one_other calls c x d ne))
  ]

  pub goes_placed : (new : Shape) (w : View) → ((i : ℕ) (own : Own) → slice_get w.owns i ≡ Some own → with_one o.times c number (w.number + i) ≡ own.times) → w.walk ≡ None → GoesOn sh log calls views o new (history_with log c x) (with_one calls c x) c w
  goes_placed new w owns nowhere = record {
    entry_times = times_on x.entry;
    times = with_one o.times c number;
    clock = clock_then;
    order = record {
      entries = sized_on x.entry;
      rise = λ n i earlier later below at_n at_i. let two = rises n i earlier later below at_n at_i in omega arith;
      all = each_sized;
      among = λ d j t y at_y at_t. each_call d j t y at_y at_t;
    };
    apart = rises;
    entered = λ n t at. elim (get_on x.entry n t at) [ inl old ↦ let up = o.entered n t old in omega arith | inr now ↦ let is = now.2 in let up = suits.until in omega arith ];
    called = each_until;
    more = omega arith;
    came = comes;
    others = λ d ne. one_other o.times c number d ne;
    mine = timely_nowhere new (history_with log c x) (times_on x.entry) (with_one o.times c number) clock_then w owns nowhere;
  }

-- the numbers of a seat's callers, where the first has made one call more
pub owns_placed : (times : ℕ → List ℕ) (number t : ℕ) (own own' : Own) (owns : List Own) → ((i : ℕ) (o : Own) → slice_get (own ∷ owns) i ≡ Some o → times (number + i) ≡ o.times) → own'.times ≡ own.times ++ t ∷ [] → (i : ℕ) (o : Own) → slice_get (own' ∷ owns) i ≡ Some o → with_one times number t (number + i) ≡ o.times
owns_placed times number t own own' owns before is zero o at =
    let here : number + 0 ≡ number = omega arith in
    ap (with_one times number t) here ∙ one_mine times number t ∙ ap (λ l. l ++ t ∷ []) (ap times (sym here) ∙ before 0 own refl) ∙ sym is ∙ ap (λ (z : Own). z.times) (same_Some own' o at)
owns_placed times number t own own' owns before is (suc i) o at = one_other times number t (number + suc i) (λ e. omega arith) ∙ before (suc i) o at
