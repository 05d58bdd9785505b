-- A journal whose callers are all in order explains all their calls.
use Rattle.std.proofs.Common.{◌≡◌, ℕ, zero, suc, ◌+◌, ◌<◌, ◌≤◌, ◌⊎◌, inl, inr, Bool, true, false, cond, eqb, eq-eqb, ne_eqb, List, [], ◌∷◌, ◌++◌, map, length, length-append, get_or, take, drop, slice_get, Option, Some, None, refl, sym, ap, ◌∙◌, subst, append_assoc, le_refl, arith}
use Rattle.std.specs.Prelude.{slice_index}
use Rattle.std.specs.List.{range_with_len}
use Rattle.std.proofs.lemmas.Bool.{cases_lt}
use Rattle.std.proofs.lemmas.Option.{slice_get_within}
use Rattle.std.proofs.lemmas.List.{append-nil, take-append-drop}
use Rattle.sync_types.specs.declared.misuse.Misuse.{Misuse}
use Rattle.sync_model.specs.declared.item.SharedCall.TheVariants as calls
use Rattle.sync_model.specs.declared.item.SharedEntry.{SharedEntry}
use Rattle.sync_model.specs.declared.item.Item.{Item}
use Rattle.sync_model.specs.Front.{AtLeast}
use Rattle.sync_model.specs.Journal.{Begins, by, halt_next, halt_after, state_next, state_after, Right, Follows}
use Rattle.sync_model.specs.SharedCalls.{Knows, IsSound, AddsCall}
use Rattle.sync_model.specs.SharedHistory.{Contents, IsReply, is_entry, contents_after, contents_at, value_at, history_with}
use Rattle.shared_plain.specs.Counting.{counted_by, length-items}
use Rattle.shared_plain.specs.PlainMachine.{Holdings, contents_of, next}
use Rattle.shared_plain.specs.PlainHistory.{Step, call_in, entered, history_of, calls_counted, front_of, item_at, listed, items_from, items_by}
use Rattle.shared_plain.specs.Walks.{IsInOrder, AreInOrder}
use Rattle.shared_plain.proofs.Calling.{last_right, bounded}
use Rattle.shared_plain.proofs.Cursors.{shown_at, none_from}
use Rattle.shared_plain.proofs.Histories.{Unseen, a_call, is_history}
use Rattle.shared_plain.proofs.Items.{Made, history-append, count-append, items-append}
use Rattle.shared_plain.proofs.Orders.{is_next, unmade}
use Rattle.shared_plain.proofs.Passing.{by-append, rises}
use Rattle.shared_plain.proofs.Walking.{Laws, Walks, Steps, with_is, walks_on}

-- a first part of a journal
begins_take : (k : ℕ) (journal : List Step) → Begins journal (take k journal)
begins_take k journal = (drop k journal, sym (take-append-drop k journal))

past_front : (n from i : ℕ) (f : ℕ → ℕ) → n ≤ i → get_or (map f (range_with_len from n)) i 0 ≡ 0
past_front zero from i f past = refl
past_front (suc n) from zero f past = absurd (omega arith)
past_front (suc n) from (suc i) f past = past_front n (from + 1) i f (omega arith)

-- a front counts no more calls of a caller than were made
pub front_at_most : (n d : ℕ) (seen : List Step) → slice_index (front_of n seen) d ≤ calls_counted d seen
front_at_most n d seen = by_caller (cases_lt d n)
  where
    by_caller : (d < n) ⊎ (n ≤ d) → slice_index (front_of n seen) d ≤ calls_counted d seen
    by_caller (inl below) = let same = counted_by n d seen below in let long = length-items n d [] seen in omega arith
    by_caller (inr past) = let none = past_front n 0 d (λ c. calls_counted c seen) past in omega arith

pub fewer_counted : (d : ℕ) (seen whole : List Step) → Begins whole seen → calls_counted d seen ≤ calls_counted d whole
fewer_counted d seen whole begins = let same = ap (calls_counted d) begins.1 in let more = count-append d seen begins.0 in omega arith

nothing : {A : Type 0} (xs ys : List A) → length (xs ++ ys) ≡ length xs → ys ≡ []
nothing xs [] e = refl
nothing xs (y ∷ ys) e = absurd (omega (arith, length-append xs (y ∷ ys), e))

module _ (n c : ℕ) where
  -- a caller that knew all its own calls had seen them
  same_items : (seen whole : List Step) → Begins whole seen → calls_counted c seen ≡ calls_counted c whole → items_by n c whole ≡ items_by n c seen
  same_items seen whole begins same =
      let split : items_by n c whole ≡ items_by n c seen ++ items_from n c seen begins.0 = ap (items_by n c) begins.1 ∙ items-append n c [] seen begins.0 in
      let long : length (items_by n c seen ++ items_from n c seen begins.0) ≡ length (items_by n c seen) = ap (λ (l : List Item). length l) (sym split) ∙ (length-items n c [] whole ∙ (sym same ∙ sym (length-items n c [] seen))) in
      split ∙ (ap (λ l. items_by n c seen ++ l) (nothing (items_by n c seen) (items_from n c seen begins.0) long) ∙ append-nil (items_by n c seen))

  -- what a caller's calls knew lies within what their journal tells
  fronts_within : (before xs : List Step) (j : ℕ) (y : Item) → slice_get (items_from n c before xs) j ≡ Some y → AtLeast (front_of n (before ++ xs)) y.front
  fronts_within before [] j y at = (cc)
  fronts_within before (x ∷ xs) j y at = by_found (call_in x.deed) at (λ k z e. subst (λ (l : List Step). AtLeast (front_of n l) z.front) (append_assoc before (x ∷ []) xs) (fronts_within (before ++ x ∷ []) xs k z e))
    where
      whole : List Step
      whole = before ++ (x ∷ xs)

      later : List Item
      later = items_from n c (before ++ x ∷ []) xs

      Rest : Type 0
      Rest = (k : ℕ) (z : Item) → slice_get later k ≡ Some z → AtLeast (front_of n whole) z.front

      mine : (did : Made) → AtLeast (front_of n whole) (item_at n before x.knew did).front
      mine did = let first = begins_take x.knew before in rises n (take x.knew before) whole (first.0 ++ (x ∷ xs), ap (λ l. l ++ (x ∷ xs)) first.1 ∙ append_assoc (take x.knew before) first.0 (x ∷ xs))

      by_place : (did : Made) (k : ℕ) → slice_get (item_at n before x.knew did ∷ later) k ≡ Some y → Rest → AtLeast (front_of n whole) y.front
      by_place did zero e rest = let same : item_at n before x.knew did ≡ y = (cc) in subst (λ (z : Item). AtLeast (front_of n whole) z.front) same (mine did)
      by_place did (suc k) e rest = rest k y e

      by_caller : (did : Made) (b : Bool) → slice_get (cond b (item_at n before x.knew did ∷ later) later) j ≡ Some y → Rest → AtLeast (front_of n whole) y.front
      by_caller did true e rest = by_place did j e rest
      by_caller did false e rest = rest j y e

      by_found : (found : Option Made) → slice_get (listed n c before x found later) j ≡ Some y → Rest → AtLeast (front_of n whole) y.front
      by_found None e rest = rest j y e
      by_found (Some did) e rest = by_caller did (eqb x.caller c) e rest

  order_split : (before xs ys : List Step) → AreInOrder n c before (xs ++ ys) → AreInOrder n c before xs × AreInOrder n c (before ++ xs) ys
  order_split before [] ys order = (tt, subst (λ b. AreInOrder n c b ys) (sym (append-nil before)) order)
  order_split before (x ∷ xs) ys order = let rest = order_split (before ++ x ∷ []) xs ys order.1 in ((order.0, rest.0), subst (λ b. AreInOrder n c b ys) (append_assoc before (x ∷ []) xs) rest.1)

follows_front : (s : Holdings) (h : Option Misuse) (xs ys : List Step) → Follows next false s h (xs ++ ys) → Follows next false s h xs
follows_front s h [] ys follows = tt
follows_front s h (x ∷ xs) ys follows = (follows.0, follows_front (state_next next s x.caller x.deed) (halt_next h x.deed) xs ys follows.1)

module _ (laws : Laws) (unseen : Unseen) (all : (start : Contents) (history : List SharedEntry) (k : ℕ) → length history ≤ k → contents_at start history k ≡ contents_after start history) (start : Holdings) (n : ℕ) where
  abbrev calls_in : List Step → ℕ → List Item
  calls_in journal c = items_by n c journal

  abbrev Told : List Step → Type 0
  Told journal = Walks (contents_of start) (history_of journal) (calls_in journal)

  module _ (before : List Step) (x : Step) (walks : Told before) (follows : Follows next false start None (before ++ x ∷ [])) (below : x.caller < n) (mine : IsInOrder n before x) (order : AreInOrder n x.caller [] before) where
    abbrev c : ℕ
    c = x.caller

    abbrev known : List Step
    known = take x.knew before

    abbrev state : Holdings
    state = state_after next start before

    right : Right next false state (halt_after None before) c x.deed
    right = (last_right false start None before x follows).right

    now : contents_at (contents_of start) (history_of before) (length (history_of before)) ≡ contents_of state
    now = all (contents_of start) (history_of before) (length (history_of before)) (le_refl (length (history_of before))) ∙ sym (is_history unseen false start None before (follows_front start None before (x ∷ []) follows)).contents

    -- an entry that is no call changes nothing
    none_told : call_in x.deed ≡ None → Told (before ++ x ∷ [])
    none_told is =
        let history : history_of before ≡ history_of (before ++ x ∷ []) = sym (history-append before (x ∷ []) ∙ (ap (λ f. history_of before ++ entered c f []) is ∙ append-nil (history_of before))) in
        let items : (d : ℕ) → calls_in before d ≡ calls_in (before ++ x ∷ []) d = λ d. sym (items-append n d [] before (x ∷ []) ∙ (ap (λ f. items_by n d before ++ listed n d before x f []) is ∙ append-nil (items_by n d before))) in
        subst (λ (z : List SharedEntry × (ℕ → List Item)). Walks (contents_of start) z.0 z.1) (λ i. (history i, λ d. items d i)) walks

    module _ (did : Made) (is : call_in x.deed ≡ Some did) where
      abbrev item : Item
      item = item_at n before x.knew did

      adds : AddsCall (calls_in before) c item (calls_in (before ++ x ∷ []))
      adds = record {
        mine = items-append n c [] before (x ∷ []) ∙ (ap (λ f. items_by n c before ++ listed n c before x f []) is ∙ ap (λ (b : Bool). items_by n c before ++ cond b (item ∷ []) []) (eq-eqb c c refl));
        others = λ d ne. items-append n d [] before (x ∷ []) ∙ (ap (λ f. items_by n d before ++ listed n d before x f []) is ∙ (ap (λ (b : Bool). items_by n d before ++ cond b (item ∷ []) []) (ne_eqb c d (λ e. ne (sym e))) ∙ append-nil (items_by n d before)));
      }

      knows : Knows (calls_in before) item.front (length (history_of before))
      knows = record {
        made = λ d. let front = front_at_most n d known in let fewer = fewer_counted d known before (begins_take x.knew before) in let long = length-items n d [] before in omega arith;
        within = λ d j y less at. bounded n d [] before j y at;
      }

      step_is : (b : ℕ) → did.0 ≡ calls.Next b → Steps (contents_of start) (history_of before) (calls_in before) c item b
      step_is b call =
          let made = is_next x.deed did b is call in
          let was = subst (Right next false state (halt_after None before) c) made.is right in
          record {
            map = made.map;
            from = made.from;
            at = mine.steps made.map b made.from (Some did.1) made.is;
            shown = λ key value reply. subst (λ (s : Contents). (made.from ≤ key) × (value_at s made.map key ≡ Some value) × ((other : ℕ) → made.from ≤ other → other < key → value_at s made.map other ≡ None)) (sym now)
                (shown_at state made.map made.from key value (slice_get state.maps made.map) did.1 refl (sym was.1) reply);
            none = λ reply. subst (λ (s : Contents). (key : ℕ) → made.from ≤ key → value_at s made.map key ≡ None) (sym now) (none_from state made.map made.from (slice_get state.maps made.map) did.1 refl (sym was.1) reply);
          }

      sound : IsSound (contents_of start) (history_of before) (calls_in before) c (length (calls_in before c)) item
      sound =
          let was = a_call state c false (halt_after None before) x.deed did is right in
          record {
            place = le_refl (length (history_of before));
            reply = subst (λ s. IsReply did.0 did.1.reply s) (sym now) was.reply;
            entry = was.entry ∙ ap (is_entry did.0) (sym now);
            knows = knows;
            own = counted_by n c known below ∙ (length-items n c [] known ∙ (mine.knew ∙ sym (length-items n c [] before)));
            begun = λ b call. let at = (step_is b call).at in (at.begin, (step_is b call).map, before_end b at.begin at.at, at.at, at.call);
          }
        where
          before_end : (b : ℕ) (y : Item) → slice_get (items_by n c before) b ≡ Some y → b < length (items_by n c before)
          before_end b y at = slice_get_within (items_by n c before) b y at

      some_told : Told (before ++ x ∷ [])
      some_told =
          let on = walks_on laws (contents_of start) (history_of before) (calls_in before) walks c item record {
            sound = sound;
            place = refl;
            rises = λ j y at. fronts_within n c [] known j y (ap (λ l. slice_get l j) (sym (same_items n c known before (begins_take x.knew before) mine.knew)) ∙ at);
            steps = step_is;
            fresh = unmade n c [] before (length (items_by n c before)) 0 order (le_refl (length (items_by n c before)));
          } (calls_in (before ++ x ∷ [])) adds in
          let history : history_with (history_of before) c item ≡ history_of (before ++ x ∷ []) = with_is (history_of before) c item ∙ sym (history-append before (x ∷ []) ∙ ap (λ f. history_of before ++ entered c f []) is) in
          subst (λ h. Walks (contents_of start) h (calls_in (before ++ x ∷ []))) history on

    told_on : Told (before ++ x ∷ [])
    told_on = by_found (call_in x.deed) refl
      where
        by_found : (found : Option Made) → call_in x.deed ≡ found → Told (before ++ x ∷ [])
        by_found None is = none_told is
        by_found (Some did) is = some_told did is

  not_past : (before : List Step) (x : Step) (xs : List Step) → by x.caller (before ++ (x ∷ xs)) ≡ [] → ⊥
  not_past before x xs none =
      let here : by x.caller (x ∷ xs) ≡ x ∷ by x.caller xs = ap (λ (b : Bool). cond b (x ∷ by x.caller xs) (by x.caller xs)) (eq-eqb x.caller x.caller refl) in
      let whole = ap (λ (l : List Step). length l) (sym none ∙ (by-append x.caller before (x ∷ xs) ∙ ap (λ l. by x.caller before ++ l) here)) in
      omega (arith, length-append (by x.caller before) (x ∷ by x.caller xs), whole)

  all_told : (before xs : List Step) → Told before → Follows next false start None (before ++ xs) → ((c : ℕ) → c < n → AreInOrder n c [] (before ++ xs)) → ((c : ℕ) → n ≤ c → by c (before ++ xs) ≡ []) → Told (before ++ xs)
  all_told before [] walks follows order past = subst Told (sym (append-nil before)) walks
  all_told before (x ∷ xs) walks follows order past =
      let same : (before ++ x ∷ []) ++ xs ≡ before ++ (x ∷ xs) = append_assoc before (x ∷ []) xs in
      let one : Told (before ++ x ∷ []) = by_caller (cases_lt x.caller n) in
      subst Told same (all_told (before ++ x ∷ []) xs one (subst (Follows next false start None) (sym same) follows) (λ c below. subst (AreInOrder n c []) (sym same) (order c below)) (λ c least. ap (by c) same ∙ past c least))
    where
      by_caller : (x.caller < n) ⊎ (n ≤ x.caller) → Told (before ++ x ∷ [])
      by_caller (inl below) =
          let split = order_split n x.caller [] before (x ∷ xs) (order x.caller below) in
          told_on before x walks (follows_front start None (before ++ x ∷ []) xs (subst (Follows next false start None) (sym (append_assoc before (x ∷ []) xs)) follows)) below (split.1.0 refl) split.0
      by_caller (inr least) = absurd (not_past before x xs (past x.caller least))

  -- all of it
  pub explained : (journal : List Step) → Follows next false start None journal → ((c : ℕ) → c < n → AreInOrder n c [] journal) → ((c : ℕ) → n ≤ c → by c journal ≡ []) → Walks (contents_of start) (history_of journal) (λ c. items_by n c journal)
  explained journal follows order past = all_told [] journal (record { lawful = laws.first (contents_of start); below = λ c b j key value x step. let at = step.at in (cc); passed = λ c b m key y at is less. (cc) }) follows order past
