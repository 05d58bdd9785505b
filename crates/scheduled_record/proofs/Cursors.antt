-- A cursor shows just the pairs that its map holds where it began, all of its steps stand there, and later calls change nothing of this. So it keeps the Range law.
use Rattle.std.proofs.Common.{◌≡◌, ℕ, zero, suc, ◌+◌, ◌<◌, ◌≤◌, List, [], ◌∷◌, ◌++◌, map, length, Option, Some, None, slice_get, inl, inr, ◌⊎◌, refl, sym, ap, ◌∙◌, subst, arith}
use Rattle.std.specs.FinMap.{FinMap, get}
use Rattle.std.specs.Ordering.{nat_cmp}
use Rattle.std.proofs.lemmas.List.{take-append-le}
use Rattle.std.proofs.lemmas.Option.{none-some, same_Some, slice_get_within}
use Rattle.sync_model.specs.declared.item.Item.{Item as Call}
use Rattle.sync_model.specs.declared.item.SharedCall.{SharedCall}
use Rattle.sync_model.specs.declared.item.SharedCall.TheVariants as calls
use Rattle.sync_model.specs.declared.item.SharedEntry.{SharedEntry}
use Rattle.sync_model.specs.declared.item.SharedReply.{SharedReply}
use Rattle.sync_model.specs.declared.item.SharedReply.TheVariants as answers
use Rattle.sync_model.specs.SharedCalls.{Knows, IsStep, IsUnshown, WasSo, MayShow, KeepsRange}
use Rattle.sync_model.specs.SharedHistory.{Contents, map_at, contents_after, contents_at}
use Rattle.run_record.specs.MapKind.{step_showing, cursor_showing}

-- ---- lists

module _ {A : Type 0} where
  pub in_left : (xs ys : List A) (i : ℕ) (x : A) → slice_get xs i ≡ Some x → slice_get (xs ++ ys) i ≡ Some x
  in_left [] ys i x at = absurd (none-some x at)
  in_left (y ∷ xs) ys zero x at = at
  in_left (y ∷ xs) ys (suc i) x at = in_left xs ys i x at

  pub behind : (xs ys : List A) (i : ℕ) → slice_get (xs ++ ys) (length xs + i) ≡ slice_get ys i
  behind [] ys i = ap (slice_get ys) (same i) where
    same : (n : ℕ) → 0 + n ≡ n
    same n = omega arith
  behind (x ∷ xs) ys i = ap (slice_get (x ∷ (xs ++ ys))) (same (length xs) i) ∙ behind xs ys i where
    same : (n i : ℕ) → suc n + i ≡ suc (n + i)
    same n i = omega arith

  pub split : (xs ys : List A) (i : ℕ) (x : A) → slice_get (xs ++ ys) i ≡ Some x → (slice_get xs i ≡ Some x) ⊎ ((k : ℕ) × (i ≡ length xs + k) × (slice_get ys k ≡ Some x))
  split [] ys i x at = inr (i, first i, at) where
    first : (n : ℕ) → n ≡ 0 + n
    first n = omega arith
  split (y ∷ xs) ys zero x at = inl at
  split (y ∷ xs) ys (suc i) x at = elim (split xs ys i x at) [
    | inl here ↦ inl here
    | inr later ↦ inr (later.0, next i (length xs) later.0 later.1, later.2)
  ] where
    next : (i n k : ℕ) → i ≡ n + k → suc i ≡ suc n + k
    next i n k is = omega (arith, is)

  -- one behind the end has nothing before it
  pub before_end : (xs : List A) (i k : ℕ) (x : A) → slice_get xs i ≡ Some x → slice_get xs k ≡ None → i < k
  before_end [] i k x at none = absurd (none-some x at)
  before_end (y ∷ xs) i zero x at none = absurd (none-some y (sym none))
  before_end (y ∷ xs) zero (suc k) x at none = omega arith
  before_end (y ∷ xs) (suc i) (suc k) x at none = let rest = before_end xs i k x at none in omega (arith, rest)

-- ---- what a cursor shows

-- just the pairs of a map, each once
pub record Shows (m : FinMap nat_cmp ℕ) (shown : List (ℕ × ℕ)) : Type 0 where
  pub once : (i j key v w : ℕ) → slice_get shown i ≡ Some (key, v) → slice_get shown j ≡ Some (key, w) → i ≡ j
  pub holds : (i key v : ℕ) → slice_get shown i ≡ Some (key, v) → get m key ≡ Some v
  pub whole : (key v : ℕ) → get m key ≡ Some v → (i : ℕ) × (slice_get shown i ≡ Some (key, v))

-- number b of these calls begins a cursor that shows just what its map holds at its place, and each of its steps stands there
pub record IsCursor (start : Contents) (history : List SharedEntry) (list : List Call) (b m : ℕ) (x : Call) : Type 0 where
  pub shown : List (ℕ × ℕ)
  pub shows : Shows (map_at (contents_at start history x.place) m) shown
  pub place : x.place ≤ length history
  pub steps : (k : ℕ) → k < length shown → (y : Call) × (slice_get list (b + suc k) ≡ Some y) × (y.call ≡ calls.Next b) × (y.reply ≡ answers.Shown (slice_get shown k))
  pub only : (i : ℕ) (y : Call) → slice_get list i ≡ Some y → y.call ≡ calls.Next b → (k : ℕ) × (i ≡ b + suc k) × (y.reply ≡ answers.Shown (slice_get shown k)) × (y.place ≡ x.place)

pub record Cursors (start : Contents) (history : List SharedEntry) (lists : ℕ → List Call) : Type 0 where
  pub each : (c b m : ℕ) (x : Call) → slice_get (lists c) b ≡ Some x → x.call ≡ calls.Begin m → IsCursor start history (lists c) b m x
  pub below : (c i b : ℕ) (y : Call) → slice_get (lists c) i ≡ Some y → y.call ≡ calls.Next b → b < i

-- ---- the Range law

shown_same : (o p : Option (ℕ × ℕ)) → answers.Shown o ≡ answers.Shown p → o ≡ p
shown_same o p same = cc

module _ (start : Contents) (history : List SharedEntry) (lists : ℕ → List Call) (c b m : ℕ) (x : Call) (it : IsCursor start history (lists c) b m x) (knows : Knows lists x.front x.place) where
  so : (i : ℕ) (y : Call) (shown : Option (ℕ × ℕ)) → IsStep (lists c) b i y shown → (key : ℕ) (value : Option ℕ) → get (map_at (contents_at start history x.place) m) key ≡ value → WasSo start history lists x.front y.place m key value
  so i y shown step key value is = let here = it.only i y step.at step.call in record { moment = x.place; knows = knows; within = subst (λ (n : ℕ). x.place ≤ n) (sym here.3) (same x.place); is = is } where
    same : (n : ℕ) → n ≤ n
    same n = omega arith

  step_shows : (i : ℕ) (y : Call) (shown : Option (ℕ × ℕ)) → IsStep (lists c) b i y shown → (k : ℕ) × (i ≡ b + suc k) × (slice_get it.shown k ≡ shown)
  step_shows i y shown step = let here = it.only i y step.at step.call in (here.0, here.1, shown_same (slice_get it.shown here.0) shown (sym here.2 ∙ step.reply))

  may : (i : ℕ) (y : Call) (shown : Option (ℕ × ℕ)) → IsStep (lists c) b i y shown → MayShow start history lists c b m x.front i y.place shown
  may i y (Some (key, value)) step = (unshown, so i y (Some (key, value)) step key (Some value) (it.shows.holds here.0 key value here.2)) where
    here : (k : ℕ) × (i ≡ b + suc k) × (slice_get it.shown k ≡ Some (key, value))
    here = step_shows i y (Some (key, value)) step

    unshown : IsUnshown (lists c) b i key
    unshown j z other before earlier =
        let there = step_shows j z (Some (key, other)) earlier in
        let same : there.0 ≡ here.0 = it.shows.once there.0 here.0 key other value there.2 here.2 in
        absurd (omega (arith, before, same, there.1, here.1))
  may i y None step = λ key small unshown. so i y None step key None (none key unshown (get (map_at (contents_at start history x.place) m) key) refl) where
    here : (k : ℕ) × (i ≡ b + suc k) × (slice_get it.shown k ≡ None)
    here = step_shows i y None step

    none : (key : ℕ) → IsUnshown (lists c) b i key → (o : Option ℕ) → get (map_at (contents_at start history x.place) m) key ≡ o → get (map_at (contents_at start history x.place) m) key ≡ None
    none key unshown None is = is
    none key unshown (Some v) is =
        let at = it.shows.whole key v is in
        let before : at.0 < here.0 = before_end it.shown at.0 here.0 (key, v) at.1 here.2 in
        let step : (z : Call) × (slice_get (lists c) (b + suc at.0) ≡ Some z) × (z.call ≡ calls.Next b) × (z.reply ≡ answers.Shown (slice_get it.shown at.0)) = it.steps at.0 (slice_get_within it.shown at.0 (key, v) at.1) in
        absurd (unshown (b + suc at.0) step.0 v (omega (arith, before, here.1)) (record { at = step.1; call = step.2; reply = step.3 ∙ ap answers.Shown at.1 }))

  pub keeps_range : KeepsRange start history lists c b m x.front
  keeps_range i y shown step = may i y shown step

-- ---- more calls

contents_still : (start : Contents) (history more : List SharedEntry) (n : ℕ) → n ≤ length history → contents_at start (history ++ more) n ≡ contents_at start history n
contents_still start history more n within = ap (contents_after start) (take-append-le n history more within)

longer : {A : Type 0} (xs ys : List A) (n : ℕ) → n ≤ length xs → n ≤ length (xs ++ ys)
longer [] ys zero within = omega arith
longer [] ys (suc n) within = absurd (omega (arith, within))
longer (x ∷ xs) ys zero within = omega arith
longer (x ∷ xs) ys (suc n) within = let rest = longer xs ys n (omega (arith, within)) in omega (arith, rest)

-- each new step is of a new cursor, and each new cursor is one
pub record AreNew (start : Contents) (history : List SharedEntry) (list added : List Call) : Type 0 where
  pub steps : (k b : ℕ) (y : Call) → slice_get added k ≡ Some y → y.call ≡ calls.Next b → (length list ≤ b) × (b < length list + k)
  pub begins : (k m : ℕ) (y : Call) → slice_get added k ≡ Some y → y.call ≡ calls.Begin m → IsCursor start history (list ++ added) (length list + k) m y

module _ (start : Contents) (history more : List SharedEntry) where
  cursor_on : (list added : List Call) (b m : ℕ) (x : Call) → b < length list → ((k : ℕ) (y : Call) → slice_get added k ≡ Some y → y.call ≡ calls.Next b → length list ≤ b) → IsCursor start history list b m x → IsCursor start (history ++ more) (list ++ added) b m x
  cursor_on list added b m x within new it = record {
    shown = it.shown;
    shows = subst (λ (contents : Contents). Shows (map_at contents m) it.shown) (sym (contents_still start history more x.place it.place)) it.shows;
    place = longer history more x.place it.place;
    steps = λ k small. let step = it.steps k small in (step.0, in_left list added (b + suc k) step.0 step.1, step.2, step.3);
    only = λ i y at is. elim (split list added i y at) [
      | inl here ↦ it.only i y here is
      | inr later ↦ absurd (let past = new later.0 y later.2 is in omega (arith, past, within))
    ];
  }

  grown_one : (list added : List Call) → ((b m : ℕ) (x : Call) → slice_get list b ≡ Some x → x.call ≡ calls.Begin m → IsCursor start history list b m x) → AreNew start (history ++ more) list added
      → (b m : ℕ) (x : Call) → slice_get (list ++ added) b ≡ Some x → x.call ≡ calls.Begin m → IsCursor start (history ++ more) (list ++ added) b m x
  grown_one list added each new b m x at is = elim (split list added b x at) [
    | inl here ↦ cursor_on list added b m x (slice_get_within list b x here) (λ k y there next. (new.steps k b y there next).0) (each b m x here is)
    | inr later ↦ subst (λ (n : ℕ). IsCursor start (history ++ more) (list ++ added) n m x) (sym later.1) (new.begins later.0 m x later.2 is)
  ]

  grown_below : (list added : List Call) → ((i b : ℕ) (y : Call) → slice_get list i ≡ Some y → y.call ≡ calls.Next b → b < i) → AreNew start (history ++ more) list added
      → (i b : ℕ) (y : Call) → slice_get (list ++ added) i ≡ Some y → y.call ≡ calls.Next b → b < i
  grown_below list added below new i b y at is = elim (split list added i y at) [
    | inl here ↦ below i b y here is
    | inr later ↦ (let past = (new.steps later.0 b y later.2 is).1 in omega (arith, past, later.1))
  ]

  pub grown : (lists new : ℕ → List Call) → Cursors start history lists → ((c : ℕ) → (added : List Call) × (new c ≡ lists c ++ added) × AreNew start (history ++ more) (lists c) added) → Cursors start (history ++ more) new
  grown lists new old adds = record {
    each = λ c. let it = adds c in subst (λ (l : List Call). (b m : ℕ) (x : Call) → slice_get l b ≡ Some x → x.call ≡ calls.Begin m → IsCursor start (history ++ more) l b m x) (sym it.1) (grown_one (lists c) it.0 (old.each c) it.2);
    below = λ c. let it = adds c in subst (λ (l : List Call). (i b : ℕ) (y : Call) → slice_get l i ≡ Some y → y.call ≡ calls.Next b → b < i) (sym it.1) (grown_below (lists c) it.0 (old.below c) it.2);
  }

-- ---- one cursor more

-- these are the calls asked and answered so, all at one place
abbrev pub ArePlaced : ℕ → List (SharedCall × SharedReply) → List Call → Type 0
ArePlaced n [] [] = Unit {0}
ArePlaced n (pair ∷ pairs) (x ∷ list) = ((x.call ≡ pair.0) × (x.reply ≡ pair.1) × (x.place ≡ n)) × ArePlaced n pairs list
ArePlaced n pairs list = ⊥

module _ (keys : List (List ℕ)) (m n b : ℕ) where
  abbrev steps_of : List (ℕ × ℕ) → List (SharedCall × SharedReply)
  steps_of shown = map (step_showing keys m b) shown ++ (calls.Next b, answers.Shown None) ∷ []

  step_at : (shown : List (ℕ × ℕ)) (list : List Call) → ArePlaced n (steps_of shown) list → (k : ℕ) (y : Call) → slice_get list k ≡ Some y → (y.call ≡ calls.Next b) × (y.reply ≡ answers.Shown (slice_get shown k)) × (y.place ≡ n)
  step_at [] [] are k y at = absurd are
  step_at [] (x ∷ []) are zero y at = subst (λ (z : Call). (z.call ≡ calls.Next b) × (z.reply ≡ answers.Shown None) × (z.place ≡ n)) (same_Some x y at) are.0
  step_at [] (x ∷ []) are (suc k) y at = absurd (none-some y at)
  step_at [] (x ∷ other ∷ list) are k y at = absurd are.1
  step_at (pair ∷ shown) [] are k y at = absurd are
  step_at (pair ∷ shown) (x ∷ list) are zero y at = subst (λ (z : Call). (z.call ≡ calls.Next b) × (z.reply ≡ answers.Shown (Some pair)) × (z.place ≡ n)) (same_Some x y at) are.0
  step_at (pair ∷ shown) (x ∷ list) are (suc k) y at = step_at shown list are.1 k y at

  step_there : (shown : List (ℕ × ℕ)) (list : List Call) → ArePlaced n (steps_of shown) list → (k : ℕ) → k < length shown → (y : Call) × (slice_get list k ≡ Some y)
  step_there [] list are k small = absurd (omega (arith, small))
  step_there (pair ∷ shown) [] are k small = absurd are
  step_there (pair ∷ shown) (x ∷ list) are zero small = (x, refl)
  step_there (pair ∷ shown) (x ∷ list) are (suc k) small = step_there shown list are.1 k (omega (arith, small))

  module _ (start : Contents) (history : List SharedEntry) (old : List Call) (long : length old ≡ b) (below : (i c : ℕ) (y : Call) → slice_get old i ≡ Some y → y.call ≡ calls.Next c → c < i) (whole : n ≤ length history) (shown : List (ℕ × ℕ)) (shows : Shows (map_at (contents_at start history n) m) shown) where
    not_next : (x : Call) (c : ℕ) → x.call ≡ calls.Begin m → x.call ≡ calls.Next c → ⊥
    not_next x c begins next = differ (sym begins ∙ next) where
      differ : calls.Begin m ≡ calls.Next c → ⊥
      differ same = cc

    same_begin : (x : Call) (other : ℕ) → x.call ≡ calls.Begin m → x.call ≡ calls.Begin other → m ≡ other
    same_begin x other begins is = differ (sym begins ∙ is) where
      differ : calls.Begin m ≡ calls.Begin other → m ≡ other
      differ same = cc

    same_next : (x : Call) (c : ℕ) → x.call ≡ calls.Next b → x.call ≡ calls.Next c → b ≡ c
    same_next x c first is = differ (sym first ∙ is) where
      differ : calls.Next b ≡ calls.Next c → b ≡ c
      differ same = cc

    not_begin : (x : Call) (other : ℕ) → x.call ≡ calls.Next b → x.call ≡ calls.Begin other → ⊥
    not_begin x other next begins = differ (sym next ∙ begins) where
      differ : calls.Next b ≡ calls.Begin other → ⊥
      differ same = cc

    pub new_cursor : (added : List Call) → ArePlaced n (cursor_showing keys m b shown) added → AreNew start history old added
    new_cursor [] are = absurd are
    new_cursor (x ∷ list) are = record { steps = λ k c y at is. step k c y at is; begins = λ k other y at is. begun k other y at is } where
      step : (k c : ℕ) (y : Call) → slice_get (x ∷ list) k ≡ Some y → y.call ≡ calls.Next c → (length old ≤ c) × (c < length old + k)
      step zero c y at is = absurd (not_next x c are.0.0 (ap (λ (z : Call). z.call) (same_Some x y at) ∙ is))
      step (suc k) c y at is = let same : b ≡ c = same_next y c (step_at shown list are.1 k y at).0 is in (omega (arith, same, long), omega (arith, same, long))

      only : (i : ℕ) (y : Call) → slice_get (old ++ x ∷ list) i ≡ Some y → y.call ≡ calls.Next (length old + 0) → (k : ℕ) × (i ≡ (length old + 0) + suc k) × (y.reply ≡ answers.Shown (slice_get shown k)) × (y.place ≡ x.place)
      only i y at is = elim (split old (x ∷ list) i y at) [
        | inl here ↦ absurd (let early = below i (length old + 0) y here is in let within = slice_get_within old i y here in omega (arith, early, within))
        | inr later ↦ by later.0 later.1 later.2
      ] where
        by : (k : ℕ) → i ≡ length old + k → slice_get (x ∷ list) k ≡ Some y → (k : ℕ) × (i ≡ (length old + 0) + suc k) × (y.reply ≡ answers.Shown (slice_get shown k)) × (y.place ≡ x.place)
        by zero place here = absurd (not_next x (length old + 0) are.0.0 (ap (λ (z : Call). z.call) (same_Some x y here) ∙ is))
        by (suc k) place here = let it = step_at shown list are.1 k y here in (k, omega (arith, place), it.1, it.2 ∙ sym are.0.2)

      cursor : IsCursor start history (old ++ x ∷ list) (length old + 0) m x
      cursor = record {
        shown = shown;
        shows = subst (λ (p : ℕ). Shows (map_at (contents_at start history p) m) shown) (sym are.0.2) shows;
        place = subst (λ (p : ℕ). p ≤ length history) (sym are.0.2) whole;
        steps = λ k small. let y = step_there shown list are.1 k small in let it = step_at shown list are.1 k y.0 y.1 in
            (y.0, ap (slice_get (old ++ x ∷ list)) (place (length old) k) ∙ (behind old (x ∷ list) (suc k) ∙ y.1), it.0 ∙ ap calls.Next (sym (own (length old) b long)), it.1);
        only = only;
      } where
        place : (n k : ℕ) → (n + 0) + suc k ≡ n + suc k
        place n k = omega arith

        own : (n b : ℕ) → n ≡ b → n + 0 ≡ b
        own n b is = omega (arith, is)

      begun : (k other : ℕ) (y : Call) → slice_get (x ∷ list) k ≡ Some y → y.call ≡ calls.Begin other → IsCursor start history (old ++ x ∷ list) (length old + k) other y
      begun zero other y at is = subst (λ (z : Call). IsCursor start history (old ++ x ∷ list) (length old + 0) other z) (same_Some x y at)
          (subst (λ (o : ℕ). IsCursor start history (old ++ x ∷ list) (length old + 0) o x) (same_begin x other are.0.0 (ap (λ (z : Call). z.call) (same_Some x y at) ∙ is)) cursor)
      begun (suc k) other y at is = absurd (not_begin y other (step_at shown list are.1 k y at).0 is)
