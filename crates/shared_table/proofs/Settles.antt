-- All callers' seats are brought together and dealt out again.
use Rattle.std.proofs.Common.{◌≡◌, ◌≢◌, ℕ, zero, suc, ◌+◌, ◌<◌, ◌≤◌, List, [], ◌∷◌, ◌++◌, length, drop, set, get_or, Some, slice_get, slice_index, inl, inr, refl, sym, ap, ◌∙◌, subst, arith, length-append, length-set}
use Rattle.std.proofs.lemmas.Bool.{cases_eq, cases_lt}
use Rattle.std.proofs.lemmas.List.{set-get_or}
use Rattle.std.proofs.lemmas.Option.{none-some, same_Some, slice_get_cases, slice_get_within}
use Rattle.atomic_table.specs.Table.{Me}
use Rattle.sync_model.specs.declared.caller.Caller.{Caller}
use Rattle.sync_model.specs.declared.item.Item.{Item}
use Rattle.sync_model.specs.declared.item.SharedEntry.{SharedEntry}
use Rattle.sync_model.specs.Front.{AtLeast}
use Rattle.sync_model.specs.Journal.{Begins}
use Rattle.sync_model.specs.Note.{Holding, IsCounted}
use Rattle.sync_model.specs.Shared.{IsHeldBy, items_of, AreAllCallers, calls_of, SameCalls, Settled, times_of, times_by}
use Rattle.sync_model.specs.SharedCalls.{Lawful}
use Rattle.sync_model.specs.SharedHistory.{Contents}
use Rattle.table_words.specs.Seats.{IsSeatOf}
use Rattle.shared_table.specs.declared.note.SharedNote.{SharedNote}
use Rattle.shared_table.specs.declared.table.SharedTable.{SharedTable}
use Rattle.table_rule.specs.declared.view.Own.{Own}
use Rattle.table_rule.specs.declared.view.View.{View}
use Rattle.table_rule.specs.Layout.{callers_of}
use Rattle.shared_table.specs.Notes.{counts_by, front_by, own_by, seen_by, IsNoteOf}
use Rattle.shared_table.specs.Settling.{IsSameCaller, AreSameCallers, Gathered, after_first, MayTake, IsBack}
use Rattle.table_rule.specs.Shape.{start_of}
use Rattle.shared_table.specs.Tables.{caller_count, first_of}
use Rattle.table_rule.specs.Views.{held_in, next_in, spare_in, copied, dealt, joined, most, IsIdle, Looks}
use Rattle.table_rule.specs.Views as views
use Rattle.sync_model.specs.SharedOrder.{InOrder}

module _ {A : Type 0} where
  pub item_there : (xs : List A) (i : ℕ) → i < length xs → (x : A) × (slice_get xs i ≡ Some x)
  item_there xs i below = elim (slice_get_cases xs i).1 [ inl there ↦ (there.0, there.2) | inr past ↦ absurd (let none_there = past.0 in omega arith) ]

  pub drop_get : (xs : List A) (i : ℕ) (x : A) → slice_get xs i ≡ Some x → drop i xs ≡ x ∷ drop (i + 1) xs
  drop_get [] i x at = absurd (none-some x at)
  drop_get (y ∷ xs) zero x at = ap (λ z. z ∷ xs) (same_Some y x at)
  drop_get (y ∷ xs) (suc i) x at = let next : suc (i + 1) ≡ suc i + 1 = omega arith in drop_get xs i x at ∙ ap (λ n. x ∷ drop n (y ∷ xs)) next

  get_first : (xs ys : List A) (i : ℕ) (x : A) → slice_get xs i ≡ Some x → slice_get (xs ++ ys) i ≡ Some x
  get_first [] ys i x at = absurd (none-some x at)
  get_first (y ∷ xs) ys zero x at = at
  get_first (y ∷ xs) ys (suc i) x at = get_first xs ys i x at

  get_behind : (xs ys : List A) (i : ℕ) → slice_get (xs ++ ys) (length xs + i) ≡ slice_get ys i
  get_behind [] ys i = let e : 0 + i ≡ i = omega arith in ap (slice_get ys) e
  get_behind (y ∷ xs) ys i = let e : length (y ∷ xs) + i ≡ suc (length xs + i) = omega arith in ap (slice_get (y ∷ (xs ++ ys))) e ∙ get_behind xs ys i

  pub set_same : (xs : List A) (i : ℕ) (x y : A) → slice_get (set xs i x) i ≡ Some y → y ≡ x
  set_same [] i x y at = absurd (none-some y at)
  set_same (z ∷ xs) zero x y at = sym (same_Some x y at)
  set_same (z ∷ xs) (suc i) x y at = set_same xs i x y at

  pub set_other : (xs : List A) (i j : ℕ) (x : A) → j ≢ i → slice_get (set xs i x) j ≡ slice_get xs j
  set_other [] i j x ne = refl
  set_other (z ∷ xs) zero zero x ne = absurd (ne refl)
  set_other (z ∷ xs) zero (suc j) x ne = refl
  set_other (z ∷ xs) (suc i) zero x ne = refl
  set_other (z ∷ xs) (suc i) (suc j) x ne = set_other xs i j x (λ e. ne (ap suc e))

-- the one caller of a holder's note
pub only_own : (note : SharedNote) (i : ℕ) → length note.seat.me.0.owns ≤ 1 → IsHeldBy i (own_by note) → (own : Own) × (note.seat.me.0.owns ≡ own ∷ []) × (note.seat.me.0.number ≡ i)
only_own note i few held = by_owns note.seat.me.0.owns few held.0 held.1 held.2
  where
    by_owns : (owns : List Own) → length owns ≤ 1 → (h : Holding) → held_in note.seat.me.0.number owns ≡ Some h → h.number ≡ i → (own : Own) × (owns ≡ own ∷ []) × (note.seat.me.0.number ≡ i)
    by_owns [] few h at is = absurd (none-some h at)
    by_owns (own ∷ []) few h at is = (own, refl, ap (λ (g : Holding). g.number) (same_Some (record { number = note.seat.me.0.number; items = own.items; times = own.times; spare = own.spare }) h at) ∙ is)
    by_owns (own ∷ other ∷ owns) few h at is = absurd (omega arith)

-- the calls of a caller, by its number
pub calls_at : (list : List (Caller SharedNote)) (c : ℕ) (caller : Caller SharedNote) → slice_get list c ≡ Some caller → calls_of own_by list c ≡ items_of (own_by caller.note)
calls_at [] c caller at = absurd (none-some caller at)
calls_at (x ∷ xs) zero caller at = ap (λ (y : Caller SharedNote). items_of (own_by y.note)) (same_Some x caller at)
calls_at (x ∷ xs) (suc c) caller at = calls_at xs c caller at

-- and their numbers
times_at : (list : List (Caller SharedNote)) (c : ℕ) (caller : Caller SharedNote) → slice_get list c ≡ Some caller → times_of own_by list c ≡ times_by (own_by caller.note)
times_at [] c caller at = absurd (none-some caller at)
times_at (x ∷ xs) zero caller at = ap (λ (y : Caller SharedNote). times_by (own_by y.note)) (same_Some x caller at)
times_at (x ∷ xs) (suc c) caller at = times_at xs c caller at

times_past : (list : List (Caller SharedNote)) (c : ℕ) → length list ≤ c → times_of own_by list c ≡ []
times_past [] c past = refl
times_past (x ∷ xs) zero past = absurd (omega arith)
times_past (x ∷ xs) (suc c) past = times_past xs c (omega arith)

-- lists of calls and of numbers that are in order stay so, list by list
in_order : (history : List SharedEntry) (calls other : ℕ → List Item) (entry_times : List ℕ) (times now : ℕ → List ℕ) → ((c : ℕ) → other c ≡ calls c) → ((c : ℕ) → now c ≡ times c) → InOrder history calls entry_times times → InOrder history other entry_times now
in_order history calls other entry_times times now same_calls same_times o = record {
  entries = o.entries;
  rise = o.rise;
  all = λ c. ap length (same_times c) ∙ o.all c ∙ ap length (sym (same_calls c));
  among = λ c j time x at at_time. o.among c j time x (ap (λ l. slice_get l j) (sym (same_calls c)) ∙ at) (ap (λ l. slice_get l j) (sym (same_times c)) ∙ at_time);
}

pub calls_past : (list : List (Caller SharedNote)) (c : ℕ) → length list ≤ c → calls_of own_by list c ≡ []
calls_past [] c past = refl
calls_past (x ∷ xs) zero past = absurd (omega arith)
calls_past (x ∷ xs) (suc c) past = calls_past xs c (omega arith)

pub same_list : (callers : List (Caller SharedNote)) (other : Caller SharedNote) (note : SharedNote) → note ≡ (get_or callers 0 other).note → set callers 0 (record { note = note }) ≡ callers
same_list callers other note is = ap (λ (n : SharedNote). set callers 0 (record { note = n })) is ∙ set-get_or callers 0 other

pub nothing_gathered : (table : SharedTable) (callers : List (Caller SharedNote)) (note : SharedNote) (me : Me (Unit {0}) View) → IsNoteOf table note → note.seat.me.0.number ≡ 0 → me ≡ (copied note.seat.me.0, []) → Gathered table callers 0 me
nothing_gathered table callers note me is number e = subst (Gathered table callers 0) (sym e) record {
  empty = refl;
  live = is.live;
  begin = is.begin;
  idle = let idle = is.idle in record { walk = idle.walk; leaf = idle.leaf; lock = idle.lock; upper = idle.upper; gate = idle.gate; spot = idle.spot };
  number = number;
  count = refl;
  owns = λ i caller below. absurd (omega arith);
  heard = λ i caller below. absurd (omega arith);
  fronts = λ i caller below. absurd (omega arith);
}

-- one more caller is in the seat of all
pub gathered_on : (table : SharedTable) (callers : List (Caller SharedNote)) (n : ℕ) (me me' : Me (Unit {0}) View) (caller : Caller SharedNote) → Gathered table callers n me → slice_get callers n ≡ Some caller → IsNoteOf table caller.note → IsHeldBy n (own_by caller.note)
    → me' ≡ (joined me.0 caller.note.seat.me.0, me.1) → AtLeast me'.0.front me.0.front × AtLeast me'.0.front caller.note.seat.me.0.front → Gathered table callers (n + 1) me'
gathered_on table callers n me me' caller g at is held e knows = subst (Gathered table callers (n + 1)) (sym e) record {
  empty = g.empty;
  live = g.live;
  begin = g.begin;
  idle = let idle = g.idle in record { walk = idle.walk; leaf = idle.leaf; lock = idle.lock; upper = idle.upper; gate = idle.gate; spot = idle.spot };
  number = g.number;
  count = let one = only_own caller.note n is.few held in let long = ap length one.1 in let was = g.count in omega (arith, length-append me.0.owns caller.note.seat.me.0.owns);
  owns = λ i other below at_i. elim (cases_eq i n) [
    | inl e ↦ new_own i other e at_i
    | inr ne ↦ let o = g.owns i other (omega arith) at_i in (o.0, get_first me.0.owns caller.note.seat.me.0.owns i o.0 o.1, o.2)
  ];
  heard = λ i other below at_i. elim (cases_eq i n) [
    | inl e ↦ (1, ap (λ (c : Caller SharedNote). Some c.note.seat.me.0.seen) (it_is i other e at_i))
    | inr ne ↦ let h = g.heard i other (omega arith) at_i in (2 + h.0, old_heard h.0 (seen_by other.note) h.1)
  ];
  fronts = λ i other below at_i d. elim (cases_eq i n) [
    | inl e ↦ subst (λ (c : Caller SharedNote). slice_index c.note.seat.me.0.front d ≤ slice_index (most me.0.front caller.note.seat.me.0.front) d) (it_is i other e at_i) (both.1 d)
    | inr ne ↦ let up = both.0 d in let was = g.fronts i other (omega arith) at_i d in omega arith
  ];
}
  where
    both : AtLeast (most me.0.front caller.note.seat.me.0.front) me.0.front × AtLeast (most me.0.front caller.note.seat.me.0.front) caller.note.seat.me.0.front
    both = subst (λ f. AtLeast f me.0.front × AtLeast f caller.note.seat.me.0.front) (ap (λ (m : Me (Unit {0}) View). m.0.front) e) knows

    it_is : (i : ℕ) (other : Caller SharedNote) → i ≡ n → slice_get callers i ≡ Some other → caller ≡ other
    it_is i other e at_i = same_Some caller other (sym at ∙ ap (slice_get callers) (sym e) ∙ at_i)

    new_own : (i : ℕ) (other : Caller SharedNote) → i ≡ n → slice_get callers i ≡ Some other → (own : Own) × (slice_get (me.0.owns ++ caller.note.seat.me.0.owns) i ≡ Some own) × (other.note.seat.me.0.owns ≡ own ∷ [])
    new_own i other e at_i =
        let one = only_own caller.note n is.few held in
        let count = g.count in
        let place : i ≡ length me.0.owns + 0 = omega arith in (
          one.0,
          ap (slice_get (me.0.owns ++ caller.note.seat.me.0.owns)) place ∙ get_behind me.0.owns caller.note.seat.me.0.owns 0 ∙ ap (λ l. slice_get l 0) one.1,
          ap (λ (c : Caller SharedNote). c.note.seat.me.0.owns) (sym (it_is i other e at_i)) ∙ one.1,
        )

    old_heard : (j : ℕ) (xs : List SharedEntry) → slice_get me.0.heard j ≡ Some xs → slice_get (me.0.seen ∷ caller.note.seat.me.0.seen ∷ (me.0.heard ++ caller.note.seat.me.0.heard)) (2 + j) ≡ Some xs
    old_heard j xs at_j = let e : 2 + j ≡ suc (suc j) = omega arith in
        ap (slice_get (me.0.seen ∷ caller.note.seat.me.0.seen ∷ (me.0.heard ++ caller.note.seat.me.0.heard))) e ∙ get_first me.0.heard caller.note.seat.me.0.heard j xs at_j

-- of a lawful history the lists of calls count alone
abbrev pub CountAlone : Type 0
CountAlone = (start : Contents) (history : List SharedEntry) (calls other : ℕ → List Item) → ((c : ℕ) → other c ≡ calls c) → Lawful start history calls → Lawful start history other

-- the seat of all has looked
module _ (table : SharedTable) (callers : List (Caller SharedNote)) (all : AreAllCallers IsNoteOf own_by table callers (caller_count table)) (me : Me (Unit {0}) View) (g : Gathered table callers (length callers) me) (w : View) (looks : Looks me.0 w) where
  abbrev v : View
  v = me.0

  -- the callers' notes may take their seats again
  pub may_take : (brought : List (Caller SharedNote)) → AreSameCallers callers brought → (i : ℕ) (caller : Caller SharedNote) → slice_get brought i ≡ Some caller → MayTake w i caller.note
  may_take brought same i caller at_i =
      let count = same.count in
      let inside = slice_get_within brought i caller at_i in
      let below : i < length callers = omega arith in
      let old = item_there callers i below in
      let is = all.each i old.0 old.1 in
      let o = g.owns i old.0 below old.1 in
      let one = only_own old.0.note i is.0.few is.1 in
      let kept = same.each i old.0 caller old.1 at_i in
      let owns : w.owns ≡ v.owns = ap (λ (u : View). u.owns) looks.is in
      let here : drop i w.owns ≡ o.0 ∷ drop (i + 1) v.owns = ap (drop i) owns ∙ drop_get v.owns i o.0 o.1 in record {
        number = kept.number ∙ sym old.0.note.number_is ∙ one.2;
        next = ap (next_in caller.note.next) here ∙ (ap (next_in old.0.note.next) (sym o.2) ∙ old.0.note.next_is) ∙ sym kept.next;
        spare = ap (spare_in caller.note.spare) here ∙ (ap (spare_in old.0.note.spare) (sym o.2) ∙ old.0.note.spare_is) ∙ sym kept.spare;
      }

  module _ (news : List (Caller SharedNote)) (are : AreSameCallers callers news) (back : (i : ℕ) (caller : Caller SharedNote) → slice_get news i ≡ Some caller → IsBack table w i caller.note) where
    count : length news ≡ length callers
    count = are.count

    abbrev new_view : ℕ → Own → View
    new_view i own = record v { seen = looks.log; heard = []; number = i; owns = own ∷ [] }

    -- what a caller's note has again
    record Has (i : ℕ) (old new : Caller SharedNote) : Type 0 where
      own : Own
      at : slice_get v.owns i ≡ Some own
      had : old.note.seat.me.0.owns ≡ own ∷ []
      old_number : old.note.seat.me.0.number ≡ i
      view : new.note.seat.me.0 ≡ new_view i own
      empty : new.note.seat.me.1 ≡ []
      table_is : IsSeatOf table.words new.note.seat

    has : (i : ℕ) (old new : Caller SharedNote) → slice_get callers i ≡ Some old → slice_get news i ≡ Some new → Has i old new
    has i old new at_old at_new =
        let below = slice_get_within callers i old at_old in
        let o = g.owns i old below at_old in
        let is = all.each i old at_old in
        let one = only_own old.note i is.0.few is.1 in
        let b = back i new at_new in record {
          own = o.0;
          at = o.1;
          had = o.2;
          old_number = one.2;
          view = ap (λ m. m.0) b.me ∙ ap (λ (u : View). dealt (after_first u i)) looks.is ∙ (λ j. record v { seen = looks.log; heard = []; number = i; owns = views.first_of (drop_get v.owns i o.0 o.1 j) });
          empty = ap (λ m. m.1) b.me;
          table_is = b.table_is;
        }

    old_of : (i : ℕ) (new : Caller SharedNote) → slice_get news i ≡ Some new → (old : Caller SharedNote) × (slice_get callers i ≡ Some old)
    old_of i new at_new = let inside = slice_get_within news i new at_new in item_there callers i (omega arith)

    own_same : (i : ℕ) (old new : Caller SharedNote) → slice_get callers i ≡ Some old → slice_get news i ≡ Some new → own_by new.note ≡ own_by old.note
    own_same i old new at_old at_new = let h = has i old new at_old at_new in
        ap (λ (u : View). held_in u.number u.owns) h.view ∙ sym (ap (λ n. held_in n old.note.seat.me.0.owns) h.old_number ∙ ap (held_in i) h.had)

    front_is : (i : ℕ) (new : Caller SharedNote) → slice_get news i ≡ Some new → counts_by new.note ≡ v.front
    front_is i new at_new = let old = old_of i new at_new in ap (λ (u : View). u.front) (has i old.0 new old.1 at_new).view

    seen_is : (i : ℕ) (new : Caller SharedNote) → slice_get news i ≡ Some new → seen_by new.note ≡ looks.log
    seen_is i new at_new = let old = old_of i new at_new in ap (λ (u : View). u.seen) (has i old.0 new old.1 at_new).view

    note_back : (i : ℕ) (old new : Caller SharedNote) → slice_get callers i ≡ Some old → slice_get news i ≡ Some new → IsNoteOf table new.note
    note_back i old new at_old at_new =
        let h = has i old new at_old at_new in
        let is = (all.each i old at_old).0 in
        let same = sym h.view in
        let idle = g.idle in record {
          table_is = h.table_is;
          empty = h.empty;
          live = ap (λ (u : View). u.live) h.view ∙ g.live;
          begin = ap (λ (u : View). u.begin) h.view ∙ g.begin;
          idle = subst IsIdle same record { walk = idle.walk; leaf = idle.leaf; lock = idle.lock; upper = idle.upper; gate = idle.gate; spot = idle.spot };
          few = subst (λ (u : View). length u.owns ≤ 1) same (omega arith);
          unwritten = subst (λ (u : View). (j : ℕ) (own : Own) → slice_get u.owns j ≡ Some own → own.draft ≡ []) same
              (subst (λ (l : List Own). (j : ℕ) (own : Own) → slice_get l j ≡ Some own → own.draft ≡ []) h.had is.unwritten);
          counted = subst (λ (u : View). IsCounted (held_in u.number u.owns) u.front) same (counted h is.counted);
        }
      where
        counted : (h : Has i old new) → IsCounted (own_by old.note) (counts_by old.note) → slice_index v.front i ≡ length h.own.items
        counted h was =
            let below = slice_get_within callers i old at_old in
            let mine = looks.owned i h.own h.at in
            let zero_number = g.number in
            let number : v.number + i ≡ i = omega arith in
            let all_made = ap length (ap looks.calls (sym number) ∙ mine.1) in
            let made = looks.made i in
            let up = g.fronts i old below at_old i in
            let was_counted : slice_index old.note.seat.me.0.front i ≡ length h.own.items = subst (λ n. slice_index old.note.seat.me.0.front n ≡ length h.own.items) h.old_number (subst (λ (l : List Own). IsCounted (held_in old.note.seat.me.0.number l) old.note.seat.me.0.front) h.had was) in
            omega arith

    pub all_back : AreAllCallers IsNoteOf own_by table news (caller_count table)
    all_back = record {
      all = count ∙ all.all;
      each = λ i new at_new. let old = old_of i new at_new in let held = (all.each i old.0 old.1).1 in (note_back i old.0 new old.1 at_new, (held.0, own_same i old.0 new old.1 at_new ∙ held.1, held.2));
    }

    pub same_calls : SameCalls own_by front_by seen_by callers news
    same_calls = record {
      count = count;
      same = own_same;
      rises = λ i old new at_old at_new. (
        subst (λ f. AtLeast f (counts_by old.note)) (sym (front_is i new at_new)) (g.fronts i old (slice_get_within callers i old at_old) at_old),
        let same = (are.each i old new at_old at_new).time in omega arith,
      );
      begins = λ i old new at_old at_new. let h = g.heard i old (slice_get_within callers i old at_old) at_old in subst (λ s. Begins s (seen_by old.note)) (sym (seen_is i new at_new)) (looks.heard h.0 (seen_by old.note) h.1);
    }

    calls_are : (c : ℕ) → calls_of own_by news c ≡ looks.calls c
    calls_are c = elim (cases_lt c (length news)) [
      | inl below ↦ let new = item_there news c below in let old = old_of c new.0 new.1 in let h = has c old.0 new.0 old.1 new.1 in
          let mine = looks.owned c h.own h.at in let zero_number = g.number in let number : v.number + c ≡ c = omega arith in
          calls_at news c new.0 new.1 ∙ ap (λ (u : View). items_of (held_in u.number u.owns)) h.view ∙ sym (ap looks.calls (sym number) ∙ mine.1)
      | inr past ↦ calls_past news c (omega arith) ∙ sym (looks.none_else c (subst (λ k. callers_of k ≤ c) (sym g.begin) (let all_there = all.all in omega arith)))
    ]

    times_are : (c : ℕ) → times_of own_by news c ≡ looks.times c
    times_are c = elim (cases_lt c (length news)) [
      | inl below ↦ let new = item_there news c below in let old = old_of c new.0 new.1 in let h = has c old.0 new.0 old.1 new.1 in
          let mine = looks.owned c h.own h.at in let zero_number = g.number in let number : v.number + c ≡ c = omega arith in
          times_at news c new.0 new.1 ∙ ap (λ (u : View). times_by (held_in u.number u.owns)) h.view ∙ sym (ap looks.times (sym number) ∙ mine.2)
      | inr past ↦ times_past news c (omega arith) ∙ sym (none_made (looks.times c) (looks.order.all c ∙ ap length (sym (calls_are c) ∙ calls_past news c (omega arith))))
    ]
      where
        none_made : (xs : List ℕ) → length xs ≡ 0 → xs ≡ []
        none_made [] is = refl
        none_made (x ∷ xs) is = absurd (omega arith)

    pub settled : CountAlone → Settled own_by front_by seen_by (first_of table) news
    settled same_law = record {
      history = looks.log;
      all = seen_is;
      lawful = same_law (first_of table) looks.log looks.calls (calls_of own_by news) calls_are (subst (λ k. Lawful (start_of k) looks.log looks.calls) g.begin looks.lawful);
      entry_times = looks.entry_times;
      order = in_order looks.log looks.calls (calls_of own_by news) looks.entry_times looks.times (times_of own_by news) calls_are times_are looks.order;
      fronts = λ i c new at_new. let made = looks.made c in let same = ap length (calls_are c) in subst (λ f. slice_index f c ≤ length (calls_of own_by news c)) (sym (front_is i new at_new)) (omega arith);
    }

-- callers stay the same, when one of their notes is changed
pub callers_on : (first list : List (Caller SharedNote)) (i : ℕ) (before after : Caller SharedNote) → slice_get first i ≡ Some before → IsSameCaller before.note after.note → AreSameCallers first list → AreSameCallers first (set list i after)
callers_on first list i before after at_i same all = record {
  count = length-set list i after ∙ all.count;
  each = λ j old new at_old at_new. elim (cases_eq j i) [
    | inl e ↦
        let is : before ≡ old = same_Some before old (sym at_i ∙ ap (slice_get first) (sym e) ∙ at_old) in
        let now : new ≡ after = set_same list i after new (ap (slice_get (set list i after)) (sym e) ∙ at_new) in
        subst (λ (x : Caller SharedNote × Caller SharedNote). IsSameCaller x.0.note x.1.note) (λ k. (is k, sym now k)) same
    | inr ne ↦ all.each j old new at_old (sym (set_other list i j after ne) ∙ at_new)
  ];
}

-- callers who stay the same twice stay the same
pub same_twice : (old mid new : List (Caller SharedNote)) → AreSameCallers old mid → AreSameCallers mid new → AreSameCallers old new
same_twice old mid new first next = record {
  count = next.count ∙ first.count;
  each = λ i before after at_before at_after.
      let inside = slice_get_within old i before at_before in
      let many = first.count in
      let there = item_there mid i (omega arith) in
      let was = first.each i before there.0 at_before there.1 in
      let is = next.each i there.0 after there.1 at_after in
      record { number = is.number ∙ was.number; next = is.next ∙ was.next; spare = is.spare ∙ was.spare; time = is.time ∙ was.time };
}

pub same_callers : (list : List (Caller SharedNote)) → AreSameCallers list list
same_callers list = record {
  count = refl;
  each = λ i before after at_before at_after. subst (λ (x : Caller SharedNote). IsSameCaller before.note x.note) (same_Some before after (sym at_before ∙ at_after)) record { number = refl; next = refl; spare = refl; time = refl };
}

module _ (all : View) (n : ℕ) (below : n < length all.owns) where
  next_own : (own : Own) × (slice_get all.owns n ≡ Some own)
  next_own = item_there all.owns n below

  pub some_behind : 0 < length (drop n all.owns)
  some_behind = let long = ap length (drop_get all.owns n next_own.0 next_own.1) in omega arith

  pub kept_next : views.kept (after_first all n) ≡ after_first all (n + 1)
  kept_next = λ i. record all { number = n + 1; owns = views.others_of (drop_get all.owns n next_own.0 next_own.1 i) }
