-- The value at a key that belongs to one caller, along that caller's own calls.
use Rattle.std.proofs.Common.{◌≡◌, ◌≢◌, ◌⊎◌, inl, inr, ℕ, zero, suc, ◌+◌, ◌-◌, ◌<◌, ◌≤◌, ◌==◌, Bool, true, false, cond, List, [], ◌∷◌, length, get_or, take, Option, Some, None, slice_get, refl, sym, ap, ◌∙◌, subst, arith}
use Rattle.std.specs.Prelude.{slice_set, ◌&&◌}
use Rattle.std.specs.Cmp.{nat_cmp_total, unsigned_tied}
use Rattle.std.specs.FinMap.{FinMap, empty, get}
use Rattle.std.specs.Option.{option_map_or}
use Rattle.std.specs.Ordering.{nat_cmp, eq_by_cmp}
use Rattle.std.proofs.Math.Seq.{take-length}
use Rattle.std.proofs.lemmas.Bool.{cases_Bool, cases_eq, eqb-true, eqb-false, eq-eqb, ne_eqb}
use Rattle.std.proofs.lemmas.List.{get_or-set_same, get_or-set_other, length-set}
use Rattle.std.proofs.lemmas.Option.{none-some, same_Some, slice_get_cases, slice_get_within}
use Rattle.sync_model.specs.declared.item.Item.{Item}
use Rattle.sync_model.specs.declared.item.SharedCall.{SharedCall}
use Rattle.sync_model.specs.declared.item.SharedCall.TheVariants as calls
use Rattle.sync_model.specs.declared.item.SharedEntry.{SharedEntry}
use Rattle.sync_types.specs.declared.map_object.MapCall.{MapCall}
use Rattle.sync_types.specs.SequentialMap.{map_after, map_key, is_map_entry}
use Rattle.sync_model.specs.SharedCalls.{bound}
use Rattle.sync_model.specs.SharedHistory.{Contents, map_at, value_at, contents_at, is_entry, shared_after, contents_after}
use Rattle.sync_model.specs.SharedLaws.{is_on_key}
use Rattle.run_laws.proofs.OneKey.{key_left}
use Rattle.sync_types.specs.KeyCalls.{key_after}

-- the contents after one more entry
next_contents : (history : List SharedEntry) (contents : Contents) (n : ℕ) (e : SharedEntry) → slice_get history n ≡ Some e
    → contents_after contents (take (suc n) history) ≡ shared_after e.call (contents_after contents (take n history))
next_contents [] contents n e at = absurd (none-some e at)
next_contents (x ∷ history) contents zero e at = ap (λ (y : SharedEntry). shared_after y.call contents) (same_Some x e at)
next_contents (x ∷ history) contents (suc n) e at = next_contents history (shared_after x.call contents) n e at

turned : (a b : ℕ) → (a == b) ≡ (b == a)
turned a b = elim (cases_eq a b) [
  | inl e ↦ eq-eqb a b e ∙ sym (eq-eqb b a (sym e))
  | inr apart ↦ ne_eqb a b apart ∙ sym (ne_eqb b a (λ e. apart (sym e)))
]

module _ (m key : ℕ) where
  -- what a call leaves at the key of the map
  abbrev pub shared_key_after : SharedCall → Option ℕ → Option ℕ
  shared_key_after (calls.Map n call) was = cond (is_on_key m key (calls.Map n call)) (key_after call was) was
  shared_key_after (calls.Begin n) was = was
  shared_key_after (calls.Next begin) was = was
  shared_key_after (calls.Atomic a call) was = was

  -- what calls leave there, one after the other
  abbrev pub key_along : Option ℕ → List Item → Option ℕ
  key_along was [] = was
  key_along was (x ∷ xs) = key_along (shared_key_after x.call was) xs

  pub off_key : (call : SharedCall) (was : Option ℕ) → is_on_key m key call ≡ false → shared_key_after call was ≡ was
  off_key (calls.Map n call) was off = ap (λ (b : Bool). cond b (key_after call was) was) off
  off_key (calls.Begin n) was off = refl
  off_key (calls.Next begin) was off = refl
  off_key (calls.Atomic a call) was off = refl

  -- whether a call is at the key, said by either test
  alike_test : (o : Option ℕ) → option_map_or (λ other. eq_by_cmp nat_cmp key other) o true ≡ option_map_or (λ other. other == key) o true
  alike_test (Some other) = unsigned_tied key other ∙ turned key other
  alike_test None = refl

  own_map : (call : MapCall ℕ) (held : FinMap nat_cmp ℕ) → get (map_after call held) key ≡ cond (option_map_or (λ other. other == key) (map_key call) true) (key_after call (get held key)) (get held key)
  own_map call held = key_left nat_cmp_total key call held ∙ ap (λ (b : Bool). cond b (key_after call (get held key)) (get held key)) (alike_test (map_key call))

  -- the contents of the map at the key, after a call
  pub value_after_call : (call : SharedCall) (contents : Contents) → m < length contents.maps → value_at (shared_after call contents) m key ≡ shared_key_after call (value_at contents m key)
  value_after_call (calls.Begin n) contents within = refl
  value_after_call (calls.Next begin) contents within = refl
  value_after_call (calls.Atomic a call) contents within = refl
  value_after_call (calls.Map n call) contents within = by_number (cases_Bool (n == m)) where
    by_number : ((n == m) ≡ true) ⊎ ((n == m) ≡ false)
        → value_at (shared_after (calls.Map n call) contents) m key ≡ cond ((n == m) && option_map_or (λ other. other == key) (map_key call) true) (key_after call (value_at contents m key)) (value_at contents m key)
    by_number (inl e) =
        let same : n ≡ m = eqb-true n m e in
        let set_here : get_or (slice_set contents.maps n (map_after call (map_at contents n))) m empty ≡ map_after call (map_at contents m) =
        subst (λ q. get_or (slice_set contents.maps n (map_after call (map_at contents n))) q empty ≡ map_after call (map_at contents q)) same (get_or-set_same contents.maps n (map_after call (map_at contents n)) empty (omega (arith, same, within))) in
        ap (λ (held : FinMap nat_cmp ℕ). get held key) set_here ∙ (own_map call (map_at contents m)
        ∙ ap (λ (b : Bool). cond (b && option_map_or (λ other. other == key) (map_key call) true) (key_after call (value_at contents m key)) (value_at contents m key)) (sym e))
    by_number (inr e) = ap (λ (held : FinMap nat_cmp ℕ). get held key) (get_or-set_other contents.maps n m (map_after call (map_at contents n)) empty (λ same. eqb-false n m e (sym same)))
        ∙ ap (λ (b : Bool). cond (b && option_map_or (λ other. other == key) (map_key call) true) (key_after call (value_at contents m key)) (value_at contents m key)) (sym e)

  -- a call that is no entry leaves it
  unentered : ((held : FinMap nat_cmp ℕ) (call : MapCall ℕ) → is_map_entry call held ≡ false → map_after call held ≡ held) → (call : SharedCall) (contents : Contents) → is_entry call contents ≡ false
      → shared_key_after call (value_at contents m key) ≡ value_at contents m key
  unentered only (calls.Begin n) contents none = refl
  unentered only (calls.Next begin) contents none = refl
  unentered only (calls.Atomic a call) contents none = refl
  unentered only (calls.Map n call) contents none = by_number (cases_Bool (n == m)) where
    by_number : ((n == m) ≡ true) ⊎ ((n == m) ≡ false) → cond ((n == m) && option_map_or (λ other. other == key) (map_key call) true) (key_after call (value_at contents m key)) (value_at contents m key) ≡ value_at contents m key
    by_number (inl e) = ap (λ (b : Bool). cond (b && option_map_or (λ other. other == key) (map_key call) true) (key_after call (value_at contents m key)) (value_at contents m key)) e
        ∙ (sym (own_map call (map_at contents m)) ∙ ap (λ (held : FinMap nat_cmp ℕ). get held key) (only (map_at contents m) call (subst (λ q. is_map_entry call (map_at contents q) ≡ false) (eqb-true n m e) none)))
    by_number (inr e) = ap (λ (b : Bool). cond (b && option_map_or (λ other. other == key) (map_key call) true) (key_after call (value_at contents m key)) (value_at contents m key)) e

  -- the maps stay as many
  pub maps_one : (call : SharedCall) (contents : Contents) → m < length contents.maps → m < length (shared_after call contents).maps
  maps_one (calls.Map n call) contents within = omega (arith, within, length-set contents.maps n (map_after call (map_at contents n)))
  maps_one (calls.Begin n) contents within = within
  maps_one (calls.Next begin) contents within = within
  maps_one (calls.Atomic a call) contents within = within

  maps_stay : (history : List SharedEntry) (contents : Contents) → m < length contents.maps → m < length (contents_after contents history).maps
  maps_stay [] contents within = within
  maps_stay (e ∷ history) contents within = maps_stay history (shared_after e.call contents) (maps_one e.call contents within)

  module _ (start : Contents) (history : List SharedEntry) (within : m < length start.maps) where
    -- the value before entry number n
    abbrev value_before : ℕ → Option ℕ
    value_before n = value_at (contents_at start history n) m key

    one_on : (n : ℕ) (e : SharedEntry) → slice_get history n ≡ Some e → value_before (suc n) ≡ shared_key_after e.call (value_before n)
    one_on n e at = ap (λ (c : Contents). value_at c m key) (next_contents history start n e at) ∙ value_after_call e.call (contents_at start history n) (maps_stay (take n history) start within)

    -- entries that aren't on the key leave it
    pub left_alone : (d n : ℕ) → n + d ≤ length history → ((i : ℕ) (e : SharedEntry) → n ≤ i → i < n + d → slice_get history i ≡ Some e → is_on_key m key e.call ≡ false) → value_before n ≡ value_before (n + d)
    left_alone zero n to off = ap value_before (omega arith)
    left_alone (suc d) n to off = left_alone d n (omega (arith, to)) (λ i e from below. off i e from (omega (arith, below))) ∙ (by_entry (slice_get_cases history (n + d)).1 ∙ (let e : suc (n + d) ≡ n + suc d = omega arith in ap value_before e)) where
      by_entry : ((e : SharedEntry) × (n + d < length history) × (slice_get history (n + d) ≡ Some e) × (get_or history (n + d) e ≡ e)) ⊎ ((length history ≤ n + d) × (slice_get history (n + d) ≡ None)) → value_before (n + d) ≡ value_before (suc (n + d))
      by_entry (inl (e, inside, at, is)) = sym (one_on (n + d) e at ∙ off_key e.call (value_before (n + d)) (off (n + d) e (omega arith) (omega arith) at))
      by_entry (inr (past, none)) = absurd (omega (arith, past, to))

    -- what is left of a caller's own calls, behind the first n entries
    pub record Left (caller n : ℕ) (xs : List Item) : Type 0 where
      pub from : (i : ℕ) (x : Item) → slice_get xs i ≡ Some x → n ≤ x.place
      pub order : (i j : ℕ) (x y : Item) → i < j → slice_get xs i ≡ Some x → slice_get xs j ≡ Some y → bound x ≤ y.place
      pub all : (k : ℕ) (e : SharedEntry) → n ≤ k → slice_get history k ≡ Some e → e.caller ≡ caller → (i : ℕ) × (x : Item) × (slice_get xs i ≡ Some x) × (x.entry ≡ true) × (x.place ≡ k)
      pub place : (i : ℕ) (x : Item) → slice_get xs i ≡ Some x → x.place ≤ length history
      pub sound : (i : ℕ) (x : Item) → slice_get xs i ≡ Some x → x.entry ≡ is_entry x.call (contents_at start history x.place)
      pub entry : (i : ℕ) (x : Item) → slice_get xs i ≡ Some x → x.entry ≡ true → (e : SharedEntry) × (slice_get history x.place ≡ Some e) × (e.call ≡ x.call)

    bound_in : (x : Item) → x.entry ≡ true → bound x ≡ suc x.place
    bound_in x is = ap (λ (b : Bool). cond b (x.place + 1) x.place) is ∙ omega arith

    bound_out : (x : Item) → x.entry ≡ false → bound x ≡ x.place
    bound_out x is = ap (λ (b : Bool). cond b (x.place + 1) x.place) is

    bound_least : (x : Item) → x.place ≤ bound x
    bound_least x = elim (cases_Bool x.entry) [
      | inl is ↦ omega (arith, bound_in x is)
      | inr is ↦ omega (arith, bound_out x is)
    ]

    left_behind : (caller n : ℕ) (x : Item) (xs : List Item) → Left caller n (x ∷ xs) → Left caller (bound x) xs
    left_behind caller n x xs left = record {
      from = λ i y at. left.order 0 (suc i) x y (omega arith) refl at;
      order = λ i j y z before at_y at_z. left.order (suc i) (suc j) y z (omega (arith, before)) at_y at_z;
      all = λ k e from at is. later k from (left.all k e (omega (arith, left.from 0 x refl, bound_least x, from)) at is);
      place = λ i y at. left.place (suc i) y at;
      sound = λ i y at. left.sound (suc i) y at;
      entry = λ i y at. left.entry (suc i) y at;
    } where
      later : (k : ℕ) → bound x ≤ k → (i : ℕ) × (y : Item) × (slice_get (x ∷ xs) i ≡ Some y) × (y.entry ≡ true) × (y.place ≡ k) → (i : ℕ) × (y : Item) × (slice_get xs i ≡ Some y) × (y.entry ≡ true) × (y.place ≡ k)
      later k from (zero, y, at, is, place) =
          let same : x ≡ y = same_Some x y at in
          absurd (omega (arith, from, bound_in x (ap (λ (z : Item). z.entry) same ∙ is), ap (λ (z : Item). z.place) same ∙ place))
      later k from (suc i, y, at, is, place) = (i, y, at, is, place)

    module _ (only : (held : FinMap nat_cmp ℕ) (call : MapCall ℕ) → is_map_entry call held ≡ false → map_after call held ≡ held)
        (caller : ℕ) (others : (k : ℕ) (e : SharedEntry) → slice_get history k ≡ Some e → e.caller ≢ caller → is_on_key m key e.call ≡ false) where
      -- nothing is on the key before the first of them
      until : (n to : ℕ) (xs : List Item) → Left caller n xs → n ≤ to → to ≤ length history → ((i : ℕ) (x : Item) → slice_get xs i ≡ Some x → to ≤ x.place) → value_before n ≡ value_before to
      until n to xs left from within behind = left_alone (to - n) n (omega (arith, from, within)) (λ k e low high at. off k e low (omega (arith, high, from)) at (cases_eq e.caller caller)) ∙ ap value_before (omega (arith, from)) where
        off : (k : ℕ) (e : SharedEntry) → n ≤ k → k < to → slice_get history k ≡ Some e → (e.caller ≡ caller) ⊎ (e.caller ≢ caller) → is_on_key m key e.call ≡ false
        off k e low high at (inl mine) = let x = left.all k e low at mine in absurd (omega (arith, high, behind x.0 x.1 x.2, x.4))
        off k e low high at (inr not_mine) = others k e at not_mine

      -- the value is at the end what the caller's own calls make of it
      pub woven : (xs : List Item) (n : ℕ) → Left caller n xs → n ≤ length history → key_along (value_before n) xs ≡ value_before (length history)
      woven [] n left within = until n (length history) [] left within (omega arith) (λ i x at. absurd (none-some x at))
      woven (x ∷ xs) n left within =
          let here = until n x.place (x ∷ xs) left (left.from 0 x refl) (left.place 0 x refl) (behind) in
          let one = at_item (cases_Bool x.entry) in
          ap (λ (v : Option ℕ). key_along (shared_key_after x.call v) xs) here ∙ (ap (λ (v : Option ℕ). key_along v xs) one.0 ∙ woven xs (bound x) (left_behind caller n x xs left) one.1) where
            behind : (i : ℕ) (y : Item) → slice_get (x ∷ xs) i ≡ Some y → x.place ≤ y.place
            behind zero y at = omega (arith, ap (λ (z : Item). z.place) (same_Some x y at))
            behind (suc i) y at = omega (arith, bound_least x, left.order 0 (suc i) x y (omega arith) refl at)

            at_item : (x.entry ≡ true) ⊎ (x.entry ≡ false) → (shared_key_after x.call (value_before x.place) ≡ value_before (bound x)) × (bound x ≤ length history)
            at_item (inl is) = let e = left.entry 0 x refl is in
                (sym (ap value_before (bound_in x is) ∙ (one_on x.place e.0 e.1 ∙ ap (λ (call : SharedCall). shared_key_after call (value_before x.place)) e.2)), omega (arith, bound_in x is, slice_get_within history x.place e.0 e.1))
            at_item (inr is) = (unentered only x.call (contents_at start history x.place) (sym (left.sound 0 x refl) ∙ is) ∙ ap value_before (sym (bound_out x is)), omega (arith, bound_out x is, left.place 0 x refl))

    -- the value after all entries
    pub value_at_end : value_before (length history) ≡ value_at (contents_after start history) m key
    value_at_end = ap (λ (h : List SharedEntry). value_at (contents_after start h) m key) (take-length history)
