-- A call is placed: the ledger after it.
use Rattle.std.proofs.Common.{◌≡◌, ◌≢◌, ℕ, zero, suc, ◌+◌, ◌<◌, ◌≤◌, Bool, true, false, ◌==◌, cond, eq-eqb, List, [], ◌∷◌, ◌++◌, length, set, Option, Some, slice_get, slice_index, inl, inr, refl, sym, ap, ◌∙◌, subst, arith, length-append, length-set, append_assoc, get_or-set_same, get_or-set_other}
use Rattle.std.proofs.lemmas.Bool.{cases_eq, eqb-true}
use Rattle.std.proofs.lemmas.Option.{same_Some, slice_get_within}
use Rattle.std.proofs.lemmas.List.{append-nil}
use Rattle.sync_model.specs.declared.item.SharedCall.TheVariants.{Begin as BeginCall, Next}
use Rattle.sync_model.specs.declared.item.SharedEntry.{SharedEntry}
use Rattle.sync_model.specs.declared.item.SharedReply.TheVariants.{Shown}
use Rattle.sync_model.specs.declared.item.Item.{Item}
use Rattle.sync_model.specs.Front.{AtLeast}
use Rattle.sync_model.specs.Journal.{Begins}
use Rattle.sync_model.specs.SharedHistory.{contents_after, contents_at, shared_after, IsReply, is_entry, entry_of, history_with}
use Rattle.sync_model.specs.SharedCalls.{bound, Knows, Grows, Lawful, MayCall, MayShow, AddsCall}
use Rattle.sync_model.specs.Shared.{Called}
use Rattle.sync_model.specs.SharedLaws.{TakesIn}
use Rattle.table_rule.specs.declared.begin.Begin.{Begin}
use Rattle.table_rule.specs.declared.view.Own.{Own}
use Rattle.table_rule.specs.declared.view.View.{View}
use Rattle.table_words.specs.Laws.{HistoryLaws}
use Rattle.table_rule.specs.Ledger.{Owned, Fits}
use Rattle.table_rule.specs.Shape.{start_of}
use Rattle.table_rule.specs.Values.{IsInRange, AreInRange}
use Rattle.table_rule.specs.Views.{held_in, view_state, called_view}
use Rattle.table_words.proofs.Lists.{item_on}
use Rattle.table_words.proofs.Timing.{with_one, one_mine, one_other}

pub adds_one : (calls : ℕ → List Item) (c : ℕ) (x : Item) → AddsCall calls c x (with_one calls c x)
adds_one calls c x = record { mine = one_mine calls c x; others = one_other calls c x }

-- a history with one more entry, or none
module _ (log : List SharedEntry) (e : SharedEntry) where
  abbrev on : Bool → List SharedEntry
  on b = cond b (log ++ e ∷ []) log

  begins_on : (b : Bool) → Begins (on b) log
  begins_on true = (e ∷ [], refl)
  begins_on false = ([], sym (append-nil log))

  bound_on : (b : Bool) (place : ℕ) → (b ≡ true → place ≡ length log) → place ≤ length log → cond b (place + 1) place ≤ length (on b)
  bound_on true place last to = let is = last refl in omega (arith, length-append log (e ∷ []))
  bound_on false place last to = to

  -- a call at the end of the history lies at the end of what the history then is
  pub bound_at_end : (b : Bool) → cond b (length log + 1) (length log) ≡ length (on b)
  bound_at_end true = sym (length-append log (e ∷ []))
  bound_at_end false = refl

pub longer : (log log' : List SharedEntry) → Begins log' log → length log ≤ length log'
longer log log' b = let e : length log' ≡ length (log ++ b.0) = ap length b.1 in omega (arith, length-append log b.0)

pub begins_more : (xs log log' : List SharedEntry) → Begins log' log → Begins log xs → Begins log' xs
begins_more xs log log' more b = (b.0 ++ more.0, more.1 ∙ ap (λ h. h ++ more.0) b.1 ∙ append_assoc xs b.0 more.0)

module _ (k : Begin) (laws : HistoryLaws) (log : List SharedEntry) (calls : ℕ → List Item) where
  -- what a call of a seat's first caller is, so that it may be placed
  pub record MayPlace (v : View) (own : Own) (x : Item) : Type 0 where
    pub from : length v.seen ≤ x.place
    pub to : x.place ≤ length log
    pub last : x.entry ≡ true → x.place ≡ length log
    pub front : x.front ≡ v.front
    pub reply : IsReply x.call x.reply (contents_at (start_of k) log x.place)
    pub entry : x.entry ≡ is_entry x.call (contents_at (start_of k) log x.place)
    pub begun : (b : ℕ) → x.call ≡ Next b → (y : Item) × (m : ℕ) × (b < length own.items) × (slice_get own.items b ≡ Some y) × (y.call ≡ BeginCall m)
    pub shows : (b m : ℕ) (y : Item) (shown : Option (ℕ × ℕ)) → slice_get own.items b ≡ Some y → y.call ≡ BeginCall m → x.call ≡ Next b → x.reply ≡ Shown shown
        → MayShow (start_of k) log calls v.number b m y.front (length own.items) x.place shown

  module _ (callers : ℕ) (claim : ℕ → ℕ) (seat : ℕ) (lawful : Lawful (start_of k) log calls) (v : View) (own : Own) (owns : List Own) (is : v.owns ≡ own ∷ owns) (fits : Fits callers log calls claim seat v) where
    pub first : Owned callers calls claim seat v.front v.number own
    first = let e : v.number + 0 ≡ v.number = omega arith in subst (λ c. Owned callers calls claim seat v.front c own) e (fits.owns 0 own (ap (λ l. slice_get l 0) is))

    module _ (x : Item) (may : MayPlace v own x) where
      c : ℕ
      c = v.number

      pub may_call : MayCall (start_of k) log calls v.number x
      may_call = let from = may.from in record {
        sound = record {
          place = may.to;
          reply = may.reply;
          entry = may.entry;
          knows = subst (λ f. Knows calls f x.place) (sym may.front) (laws.known calls calls v.front (length v.seen) x.place (λ d. ([], sym (append-nil (calls d)))) from fits.front);
          own = ap (λ f. slice_index f v.number) may.front ∙ first.counted ∙ ap length (sym first.items);
          begun = λ b next. let h = may.begun b next in let below = h.2 in (h.0, h.1, subst (λ items. b < length items) (sym first.items) below, ap (λ items. slice_get items b) first.items ∙ h.3, h.4);
        };
        last = may.last;
        rises = λ j y at. subst (λ f. AtLeast f y.front) (sym may.front) (first.knew j y (ap (λ items. slice_get items j) (sym first.items) ∙ at));
        shows = λ b m y shown at begin next reply. subst (λ (n : ℕ). MayShow (start_of k) log calls v.number b m y.front n x.place shown) (sym (ap length first.items))
            (may.shows b m y shown (ap (λ items. slice_get items b) (sym first.items) ∙ at) begin next reply);
      }

      pub log_after : List SharedEntry
      log_after = history_with log v.number x

      pub calls_after : ℕ → List Item
      calls_after = with_one calls v.number x

      pub lawful_after : Lawful (start_of k) (history_with log v.number x) (with_one calls v.number x)
      lawful_after = laws.more (start_of k) log calls (with_one calls v.number x) v.number x (adds_one calls v.number x) lawful may_call

      pub history_on : Begins (history_with log v.number x) log
      history_on = begins_on log (entry_of v.number x) x.entry

      pub grows_on : Grows calls (with_one calls v.number x)
      grows_on = laws.grows calls (with_one calls v.number x) v.number x (adds_one calls v.number x)

      pub none_after : ((d : ℕ) → callers ≤ d → calls d ≡ []) → (d : ℕ) → callers ≤ d → with_one calls v.number x d ≡ []
      none_after none_before d past = let below = first.below in (adds_one calls v.number x).others d (λ e. absurd (omega arith)) ∙ none_before d past

      -- the room may change with the call, which has this number
      module _ (own' : Own) (items : own'.items ≡ own.items ++ x ∷ []) (time : ℕ) where
        abbrev pub view_after : View
        view_after = called_view v (own' ∷ owns) (history_with log v.number x) time

        mine : with_one calls v.number x v.number ≡ own'.items
        mine = (adds_one calls v.number x).mine ∙ ap (λ xs. xs ++ x ∷ []) first.items ∙ sym items

        front_mine : slice_index (set v.front v.number (length own'.items)) v.number ≡ length own'.items
        front_mine = let below = first.below in let long = fits.long in get_or-set_same v.front v.number (length own'.items) 0 (omega arith)

        front_other : (d : ℕ) → d ≢ v.number → slice_index (set v.front v.number (length own'.items)) d ≡ slice_index v.front d
        front_other d ne = get_or-set_other v.front v.number d (length own'.items) 0 ne

        one_longer : length own'.items ≡ length own.items + 1
        one_longer = ap length items ∙ omega (arith, length-append own.items (x ∷ []))

        pub rises_on : AtLeast (set v.front v.number (length own'.items)) v.front
        rises_on d = elim (cases_eq d v.number) [
          | inl e ↦ subst (λ n. slice_index v.front n ≤ slice_index (set v.front v.number (length own'.items)) n) (sym e) (let now = front_mine in let was = first.counted in let more = one_longer in omega arith)
          | inr ne ↦ let same = front_other d ne in omega arith
        ]

        known_on : Knows (with_one calls v.number x) (set v.front v.number (length own'.items)) (length (history_with log v.number x))
        known_on = record {
          made = λ d. elim (cases_eq d v.number) [
            | inl e ↦ subst (λ n. slice_index (set v.front v.number (length own'.items)) n ≤ length (with_one calls v.number x n)) (sym e)
                (let now = front_mine in let all : length (with_one calls v.number x v.number) ≡ length own'.items = ap length mine in omega arith)
            | inr ne ↦ let same = front_other d ne in let all : length (with_one calls v.number x d) ≡ length (calls d) = ap length ((adds_one calls v.number x).others d ne) in let made = fits.front.made d in omega arith
          ];
          within = λ d j y below at. elim (cases_eq d v.number) [
            | inl e ↦ of_mine j y (ap (λ items. slice_get items j) (sym mine ∙ ap (with_one calls v.number x) (sym e)) ∙ at)
            | inr ne ↦ let same = front_other d ne in let old = fits.front.within d j y (omega arith) (ap (λ items. slice_get items j) (sym ((adds_one calls v.number x).others d ne)) ∙ at) in
                let up = longer log (history_with log v.number x) history_on in let from = may.from in let to = may.to in omega arith
          ];
        }
          where
            of_mine : (j : ℕ) (y : Item) → slice_get own'.items j ≡ Some y → bound y ≤ length (history_with log v.number x)
            of_mine j y at = elim (item_on own.items x y j (ap (λ l. slice_get l j) (sym items) ∙ at)) [
              | inl old ↦ let below = slice_get_within own.items j y old in let counted = first.counted in
                  let early = fits.front.within v.number j y (omega arith) (ap (λ l. slice_get l j) first.items ∙ old) in
                  let up = longer log (history_with log v.number x) history_on in let from = may.from in let to = may.to in omega arith
              | inr now ↦ subst (λ (z : Item). bound z ≤ length (history_with log v.number x)) (sym now.1) (bound_on log (entry_of v.number x) x.entry x.place may.last may.to)
            ]

        pub fits_after : Fits callers (history_with log v.number x) (with_one calls v.number x) claim seat view_after
        fits_after = record {
          seen = ([], sym (append-nil (history_with log v.number x)));
          heard = λ i xs at. begins_more xs log (history_with log v.number x) history_on (fits.heard i xs at);
          long = length-set v.front v.number (length own'.items) ∙ fits.long;
          front = known_on;
          owns = own_after;
        }
          where
            own_after : (i : ℕ) (o : Own) → slice_get (own' ∷ owns) i ≡ Some o → Owned callers (with_one calls v.number x) claim seat (set v.front v.number (length own'.items)) (v.number + i) o
            own_after zero o at = let e : v.number ≡ v.number + 0 = omega arith in
                subst (λ (p : ℕ × Own). Owned callers (with_one calls v.number x) claim seat (set v.front v.number (length own'.items)) p.0 p.1) (λ i. (e i, same_Some own' o at i)) record {
                  below = first.below;
                  claimed = first.claimed;
                  items = mine;
                  counted = front_mine;
                  knew = λ i y at. elim (item_on own.items x y i (ap (λ l. slice_get l i) (sym items) ∙ at)) [
                    | inl old ↦ (λ d. let up = rises_on d in let was = first.knew i y old d in omega arith)
                    | inr now ↦ subst (λ (z : Item). AtLeast (set v.front v.number (length own'.items)) z.front) (sym now.1) (subst (AtLeast (set v.front v.number (length own'.items))) (sym may.front) rises_on)
                  ];
                }
            own_after (suc i) o at = let f = fits.owns (suc i) o (ap (λ l. slice_get l (suc i)) is ∙ at) in let ne : v.number + suc i ≢ v.number = (λ e. omega arith) in record {
              below = f.below;
              claimed = f.claimed;
              items = (adds_one calls v.number x).others (v.number + suc i) ne ∙ f.items;
              counted = front_other (v.number + suc i) ne ∙ f.counted;
              knew = λ j y at d. let up = rises_on d in let was = f.knew j y at d in omega arith;
            }

        -- its number is past that of its caller's last event
        pub called : v.time < time → own'.times ≡ own.times ++ time ∷ [] → (cost : ℕ) → own'.spare + cost ≡ own.spare → Called (start_of k) x.call x.reply cost (view_state v) (view_state view_after)
        called past times cost spare = laws.promised (start_of k) log calls x cost (view_state v) (view_state view_after) takes first.items lawful may_call ([], sym (append-nil (history_with log v.number x)))
          where
            takes : TakesIn x cost (view_state v) (view_state view_after)
            takes = record {
              was = record { number = v.number; items = own.items; times = own.times; spare = own.spare };
              becomes = record { number = v.number; items = own'.items; times = own'.times; spare = own'.spare };
              own_old = ap (held_in v.number) is;
              own_new = refl;
              number = refl;
              items = items;
              spare = spare;
              is_front = may.front;
              counted = front_mine;
              rises = rises_on;
              time = time;
              times = times;
              past = past;
              reached = omega arith;
              begins = begins_more v.seen log (history_with log v.number x) history_on fits.seen;
              from = may.from;
              to = bound_on log (entry_of v.number x) x.entry x.place may.last may.to;
            }

-- what a call leaves, is what its operation leaves
pub contents_on : HistoryLaws → (k : Begin) (log : List SharedEntry) (c : ℕ) (x : Item) → x.entry ≡ is_entry x.call (contents_after (start_of k) log) → contents_after (start_of k) (history_with log c x) ≡ shared_after x.call (contents_after (start_of k) log)
contents_on laws k log c x entry = by_entry x.entry entry
  where
    by_entry : (b : Bool) → b ≡ is_entry x.call (contents_after (start_of k) log) → contents_after (start_of k) (cond b (log ++ entry_of c x ∷ []) log) ≡ shared_after x.call (contents_after (start_of k) log)
    by_entry true e = laws.contents_both (start_of k) log (entry_of c x ∷ [])
    by_entry false e = sym (laws.unchanged x.call (contents_after (start_of k) log) (sym e))

-- one more call in range leaves the history so
pub more_in_range : (log : List SharedEntry) (c : ℕ) (x : Item) → AreInRange log → IsInRange x.call → AreInRange (history_with log c x)
more_in_range log c x all now = by_entry x.entry
  where
    behind : (entries : List SharedEntry) → AreInRange entries → AreInRange (entries ++ entry_of c x ∷ [])
    behind [] before = (now, tt)
    behind (entry ∷ later) before = (before.0, behind later before.1)

    by_entry : (b : Bool) → AreInRange (cond b (log ++ entry_of c x ∷ []) log)
    by_entry true = behind log all
    by_entry false = all
