-- What cursors show, by lengths of a history that starts without a key.
use Rattle.std.proofs.Common.{◌≡◌, ◌⊎◌, inl, inr, ℕ, zero, suc, ◌+◌, ◌<◌, ◌≤◌, Bool, true, false, ◌&&◌, ◌==◌, cond, List, [], ◌∷◌, length, take, Option, Some, None, slice_get, refl, sym, ap, ◌∙◌, subst, arith}
use Rattle.std.specs.Option.{option_map_or}
use Rattle.std.proofs.Math.Nat.{eq-or-lt_of_le}
use Rattle.std.proofs.lemmas.Bool.{cases_eq, eqb-true}
use Rattle.std.proofs.lemmas.Option.{none-some, same_Some, slice_get_within}
use Rattle.sync_types.specs.declared.map_object.MapCall.{MapCall}
use Rattle.sync_types.specs.declared.map_object.MapCall.TheVariants.{Load, Store, LoadOrStore, LoadAndDelete, Delete, Swap, CompareAndSwap, CompareAndDelete, Clear}
use Rattle.sync_types.specs.SequentialMap.{map_key}
use Rattle.sync_types.specs.KeyCalls.{key_after}
use Rattle.sync_model.specs.declared.item.SharedCall.{SharedCall}
use Rattle.sync_model.specs.declared.item.SharedCall.TheVariants.{Map, Begin, Next, Atomic}
use Rattle.sync_model.specs.declared.item.SharedReply.TheVariants.{Shown}
use Rattle.sync_model.specs.declared.item.SharedEntry.{SharedEntry}
use Rattle.sync_model.specs.declared.item.Item.{Item}
use Rattle.sync_model.specs.SharedHistory.{Contents, value_at, contents_at}
use Rattle.sync_model.specs.SharedCalls.{bound, IsUnshown, MayShow}
use Rattle.sync_model.specs.SharedLaws.{is_on_key, value_left, value_by}
use Rattle.sync_model.proofs.SharedCallers.{bound_above}
use Rattle.sync_model.proofs.SharedKeys.{value_played}
use Rattle.shared_checks.specs.Calls.{calls_in}
use Rattle.shared_checks.specs.Fronts.{CountsMade, LawfulFronts, known}
use Rattle.shared_checks.specs.Parts.{LawfulHistory, LawfulBegins, LawfulRanges}
use Rattle.shared_checks.specs.Placing.{IsOn, AreOn}
use Rattle.shared_checks.specs.Showing.{Shows, key_on, IsBegunBy, MayMiss, MayShowBetween, KeepsStep}
use Rattle.shared_checks.proofs.Orders.{order_of}
use Rattle.shared_checks.proofs.KnownLemmas.{known_within}
use Rattle.shared_checks.proofs.PlayLemmas.{taken}
use Rattle.shared_checks.proofs.RangeLemmas.{between, was_between}

-- the steps before number n didn't show the key
abbrev pub NoneTo : List Item → ℕ → ℕ → ℕ → Type 0
NoneTo items b key n = (j : ℕ) (x : Item) → j < n → slice_get items j ≡ Some x → Shows x b key → ⊥

pub none_shown : (items : List Item) (b key n i : ℕ) → i ≤ n → NoneTo items b key n → IsUnshown items b i key
none_shown items b key n i most none j x value before step = none j x (omega (arith, before, most)) step.at (value, step.call, step.reply)

pub one_shown : (items : List Item) (b key n i : ℕ) (x : Item) → n < i → slice_get items n ≡ Some x → Shows x b key → IsUnshown items b i key → ⊥
one_shown items b key n i x before at (value, call, reply) unshown = unshown n x value before (record { at = at; call = call; reply = reply })

module _ (m key : ℕ) where
  other_key : (k : ℕ) (after : Option ℕ) → (Some k ≡ Some key → ⊥) → cond (k == key) after None ≡ None
  other_key k after other = by (k == key) refl where
    by : (b : Bool) → (k == key) ≡ b → cond b after None ≡ None
    by true same = absurd (other (ap Some (eqb-true k key same)))
    by false same = refl

  -- a call that doesn't name the key leaves no value there
  other_call : (call : MapCall ℕ) → (map_key call ≡ Some key → ⊥) → cond (option_map_or (λ k. k == key) (map_key call) true) (key_after call None) None ≡ None
  other_call (Load k) other = other_key k (key_after (Load k) None) other
  other_call (Store k v) other = other_key k (key_after (Store k v) None) other
  other_call (LoadOrStore k v) other = other_key k (key_after (LoadOrStore k v) None) other
  other_call (LoadAndDelete k) other = other_key k (key_after (LoadAndDelete k) None) other
  other_call (Delete k) other = other_key k (key_after (Delete k) None) other
  other_call (Swap k v) other = other_key k (key_after (Swap k v) None) other
  other_call (CompareAndSwap k old new) other = other_key k (key_after (CompareAndSwap k old new) None) other
  other_call (CompareAndDelete k old) other = other_key k (key_after (CompareAndDelete k old) None) other
  other_call Clear other = refl

  left_none : (call : SharedCall) → (key_on m call ≡ Some key → ⊥) → cond (is_on_key m key call) (value_left call None) None ≡ None
  left_none (Map n call) other = by (n == m) refl where
    by : (b : Bool) → (n == m) ≡ b → cond (b && option_map_or (λ k. k == key) (map_key call) true) (key_after call None) None ≡ None
    by true same = other_call call (λ is. other (ap (λ b. cond b (map_key call) None) same ∙ is))
    by false same = refl
  left_none (Begin n) other = refl
  left_none (Next b) other = refl
  left_none (Atomic a call) other = refl

  abbrev pub Unnamed : List SharedEntry → Type 0
  Unnamed entries = (k : ℕ) (e : SharedEntry) → slice_get entries k ≡ Some e → key_on m e.call ≡ Some key → ⊥

  by_none : (entries : List SharedEntry) → Unnamed entries → value_by m key None entries ≡ None
  by_none [] other = refl
  by_none (e ∷ later) other = ap (λ v. value_by m key v later) (left_none e.call (other 0 e refl)) ∙ by_none later (λ k x at. other (suc k) x at)

  -- a key that is absent at the start, and that no entry names, is absent at each length
  stays_none : (start : Contents) (history : List SharedEntry) (n : ℕ) → m < length start.maps → value_at start m key ≡ None → Unnamed history → value_at (contents_at start history n) m key ≡ None
  stays_none start history n there none other =
      value_played m key start (take n history) there ∙ ap (λ v. value_by m key v (take n history)) none ∙ by_none (take n history) (λ k e at. other k e (taken n history k e at))

  abbrev Named : List SharedEntry → Type 0
  Named entries = (k : ℕ) × (e : SharedEntry) × (slice_get entries k ≡ Some e) × (key_on m e.call ≡ Some key)

  same_key : (found : Option ℕ) → (found ≡ Some key) ⊎ (found ≡ Some key → ⊥)
  same_key None = inr (none-some key)
  same_key (Some k) = by (cases_eq k key) where
    by : (k ≡ key) ⊎ (k ≡ key → ⊥) → (Some k ≡ Some key) ⊎ (Some k ≡ Some key → ⊥)
    by (inl same) = inl (ap Some same)
    by (inr other) = inr (λ same. other (same_Some k key same))

  named_or_not : (entries : List SharedEntry) → Named entries ⊎ Unnamed entries
  named_or_not [] = inr (λ k e at. absurd (none-some e at))
  named_or_not (x ∷ later) = by (same_key (key_on m x.call)) (named_or_not later) where
    by : (key_on m x.call ≡ Some key) ⊎ (key_on m x.call ≡ Some key → ⊥) → Named later ⊎ Unnamed later → Named (x ∷ later) ⊎ Unnamed (x ∷ later)
    by (inl is) rest = inl (0, x, refl, is)
    by (inr other) (inl (k, e, at, is)) = inl (suc k, e, at, is)
    by (inr other) (inr none) = inr each where
      each : Unnamed (x ∷ later)
      each zero e at is = other (ap (λ (y : SharedEntry). key_on m y.call) (same_Some x e at) ∙ is)
      each (suc k) e at is = none k e at is

-- the keys that entries name are all that count
pub all_missed : (start : Contents) (history : List SharedEntry) (items : List Item) (b m from i reach : ℕ) → m < length start.maps → from ≤ reach → ((key : ℕ) → value_at start m key ≡ None)
    → ((k : ℕ) (e : SharedEntry) → slice_get history k ≡ Some e → (key : ℕ) → key_on m e.call ≡ Some key → MayMiss start history items b m from i reach key)
    → (key : ℕ) → MayMiss start history items b m from i reach key
all_missed start history items b m from i reach there order none each key = by (named_or_not m key history) where
  by : ((k : ℕ) × (e : SharedEntry) × (slice_get history k ≡ Some e) × (key_on m e.call ≡ Some key)) ⊎ Unnamed m key history → MayMiss start history items b m from i reach key
  by (inl (k, e, at, is)) = each k e at key is
  by (inr other) = λ small unshown. (from, omega arith, order, stays_none m key start history from there (none key) other)

module _ (start : Contents) (history : List SharedEntry) (lists : List (List Item)) (fronts : LawfulFronts (calls_in lists)) where
  to_between : (c b m i reach : ℕ) (front : List ℕ) → CountsMade (calls_in lists) front → (shown : Option (ℕ × ℕ)) → MayShow start history (calls_in lists) c b m front i reach shown
      → MayShowBetween start history (calls_in lists c) b m (known lists front) i reach shown
  to_between c b m i reach front made (Some (key, value)) (unshown, was) = (unshown, between start history lists front made reach m key (Some value) was)
  to_between c b m i reach front made None each = λ key small unshown. between start history lists front made reach m key None (each key small unshown)

  to_was : (c b m i reach : ℕ) (front : List ℕ) → CountsMade (calls_in lists) front → (shown : Option (ℕ × ℕ)) → MayShowBetween start history (calls_in lists c) b m (known lists front) i reach shown
      → MayShow start history (calls_in lists) c b m front i reach shown
  to_was c b m i reach front made (Some (key, value)) (unshown, stood) = (unshown, was_between start history lists front made reach m key (Some value) stood)
  to_was c b m i reach front made None each = λ key small unshown. was_between start history lists front made reach m key None (each key small unshown)

  pub steps_of : LawfulRanges start history (calls_in lists) → (c i : ℕ) (x : Item) → slice_get (calls_in lists c) i ≡ Some x → KeepsStep start history lists (calls_in lists c) i x
  steps_of ranges c i x at = λ b m y shown at_b begins next reply.
      to_between c b m i x.place y.front (fronts.knows c b y at_b).made shown (ranges c b m y at_b begins i x shown (record { at = at; call = next; reply = reply }))

  pub ranges_of : ((c i : ℕ) (x : Item) → slice_get (calls_in lists c) i ≡ Some x → KeepsStep start history lists (calls_in lists c) i x) → LawfulRanges start history (calls_in lists)
  ranges_of each c b m y at_b begins i x shown step =
      to_was c b m i x.place y.front (fronts.knows c b y at_b).made shown (each c i x step.at b m y shown at_b begins step.call step.reply)

  -- a step lies behind all that its cursor's begin knew
  pub order_between : LawfulBegins (calls_in lists) → (c b i : ℕ) (x y : Item) → slice_get (calls_in lists c) b ≡ Some y → slice_get (calls_in lists c) i ≡ Some x → x.call ≡ Next b → known lists y.front ≤ x.place
  order_between begins c b i x y at_b at next =
      let found = (begins c i x at).begun b next in
      let before : b < i = found.2 in
      let behind = (order_of (calls_in lists) fronts c).behind b i y x before at_b at in
      let above = bound_above y in
      let most = known_within y.front y.place lists (fronts.knows c b y at_b) in
      omega (arith, behind, above, most)

-- no call's bound is past the end of the history
pub bound_small : (start : Contents) (history : List SharedEntry) (calls : ℕ → List Item) → LawfulHistory start history calls → (c j : ℕ) (x : Item) → slice_get (calls c) j ≡ Some x → bound x ≤ length history
bound_small start history calls law c j x at = by x.entry refl where
  by : (b : Bool) → x.entry ≡ b → cond x.entry (x.place + 1) x.place ≤ length history
  by true is =
      let inside = slice_get_within history x.place _ (law.entries.entered c j x at is) in
      subst (λ b. cond b (x.place + 1) x.place ≤ length history) (sym is) (omega (arith, inside))
  by false is = subst (λ b. cond b (x.place + 1) x.place ≤ length history) (sym is) (law.placed c j x at).place

begin_of : (a b : ℕ) → Next a ≡ Next b → a ≡ b
begin_of a b e = cc

map_of : (m n : ℕ) → Begin m ≡ Begin n → m ≡ n
map_of m n e = cc

shown_of : (one other : Option (ℕ × ℕ)) → Shown one ≡ Shown other → one ≡ other
shown_of one other e = cc

-- a step of a cursor, with the call that began the cursor
module _ (start : Contents) (history : List SharedEntry) (lists : List (List Item)) (items : List Item) (c : ℕ) (same : items ≡ calls_in lists c) where
  there : (i : ℕ) (x : Item) → slice_get items i ≡ Some x → slice_get (calls_in lists c) i ≡ Some x
  there i x at = ap (λ (xs : List Item). slice_get xs i) (sym same) ∙ at

  pub front_made : LawfulFronts (calls_in lists) → (b : ℕ) (y : Item) → slice_get items b ≡ Some y → CountsMade (calls_in lists) y.front
  front_made fronts b y at = (fronts.knows c b y (there b y at)).made

  pub map_there : AreOn start (calls_in lists) → (b m : ℕ) (y : Item) → slice_get items b ≡ Some y → y.call ≡ Begin m → m < length start.maps
  map_there on b m y at begins = subst (IsOn start) begins (on c b y (there b y at))

  pub place_within : LawfulHistory start history (calls_in lists) → (i : ℕ) (x : Item) → slice_get items i ≡ Some x → x.place ≤ length history
  place_within law i x at = (law.placed c i x (there i x at)).place

  pub begun_there : LawfulBegins (calls_in lists) → (b : ℕ) → IsBegunBy items b
  begun_there begins b j x at next = ((begins c j x (there j x at)).begun b next).2

  pub order_there : LawfulFronts (calls_in lists) → LawfulBegins (calls_in lists) → (b i : ℕ) (x y : Item) → slice_get items b ≡ Some y → slice_get items i ≡ Some x → x.call ≡ Next b → known lists y.front ≤ x.place
  order_there fronts begins b i x y at_b at next = order_between start history lists fronts begins c b i x y (there b y at_b) (there i x at) next

module _ (start : Contents) (history : List SharedEntry) (lists : List (List Item)) (items : List Item) (b m i : ℕ) (x y : Item) (shown : Option (ℕ × ℕ))
    (at : slice_get items i ≡ Some x) (at_b : slice_get items b ≡ Some y) (next : x.call ≡ Next b) (reply : x.reply ≡ Shown shown) (begins : y.call ≡ Begin m) (from : ℕ) (is : from ≡ known lists y.front) where
  pub keeps : MayShowBetween start history items b m from i x.place shown → (z : Item) → slice_get items i ≡ Some z → KeepsStep start history lists items i z
  keeps may z at_z = subst (λ (w : Item). KeepsStep start history lists items i w) (same_Some x z (sym at ∙ at_z)) here where
    here : KeepsStep start history lists items i x
    here d n w other at_w begins_w next_w reply_w =
        let same_b : b ≡ d = begin_of b d (sym next ∙ next_w) in
        let same_y : y ≡ w = same_Some y w (sym at_b ∙ ap (slice_get items) same_b ∙ at_w) in
        let same_m : m ≡ n = map_of m n (sym begins ∙ ap (λ (v : Item). v.call) same_y ∙ begins_w) in
        let same_shown : shown ≡ other = shown_of shown other (sym reply ∙ reply_w) in
        subst (λ s. MayShowBetween start history items d n (known lists w.front) i x.place s) same_shown
        (subst (λ (v : Item). MayShowBetween start history items d n (known lists v.front) i x.place shown) same_y
        (subst (λ k. MayShowBetween start history items d k (known lists y.front) i x.place shown) same_m
        (subst (λ k. MayShowBetween start history items k m (known lists y.front) i x.place shown) same_b
        (subst (λ k. MayShowBetween start history items b m k i x.place shown) is may))))

  pub kept : ((z : Item) → slice_get items i ≡ Some z → KeepsStep start history lists items i z) → MayShowBetween start history items b m from i x.place shown
  kept each = subst (λ k. MayShowBetween start history items b m k i x.place shown) (sym is) (each x at b m y shown at_b begins next reply)

-- what holds of one item more
pub each_more : {A : Type 0} (P : ℕ → A → Type 0) (xs : List A) (n : ℕ) → ((x : A) → slice_get xs n ≡ Some x → P n x) → ((j : ℕ) (y : A) → j < n → slice_get xs j ≡ Some y → P j y)
    → (j : ℕ) (y : A) → j < n + 1 → slice_get xs j ≡ Some y → P j y
each_more P xs n holds so_far j y below there = by (eq-or-lt_of_le {n = j} {m = n} (omega (arith, below))) where
  by : (j ≡ n) ⊎ (j < n) → P j y
  by (inr before) = so_far j y before there
  by (inl same) = subst (λ k. P k y) (sym same) (holds y (ap (slice_get xs) (sym same) ∙ there))

-- the cursor that call number b began has no step before it
pub none_yet : (items : List Item) (b key : ℕ) → IsBegunBy items b → NoneTo items b key b
none_yet items b key begun = λ j x before at shows. let behind = begun j x at shows.1 in omega (arith, before, behind)
