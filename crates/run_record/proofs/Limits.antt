-- A workload's calls keep its maps to its keys, and its atomics to their types.
use Rattle.std.proofs.Common.{◌≡◌, ◌≢◌, ℕ, ℤ, zero, suc, ◌+◌, ◌≤◌, Bool, true, false, ◌==◌, List, [], ◌∷◌, ◌++◌, length, map, replicate, take, get_or, set, Option, Some, None, slice_get, inl, inr, ◌⊎◌, refl, sym, ap, ◌∙◌, subst, arith}
use Rattle.std.specs.Prelude.{All, ◌||◌, count_by, eqb}
use Rattle.std.specs.List.{IsDistinct, AllByRecursion, list_any}
use Rattle.std.specs.Option.{option_map}
use Rattle.std.specs.Ordering.{nat_cmp}
use Rattle.std.specs.FinMap.{FinMap, empty, get, get-empty}
use Rattle.std.proofs.lemmas.Bool.{and_parts, eqb-true, eqb-false, false≢true, cases_lt}
use Rattle.std.proofs.lemmas.List.{get_or_past, get_or-replicate, length-replicate, length-map}
use Rattle.std.proofs.lemmas.Map.Steps.{length-le_from_distinct_below}
use Rattle.std.proofs.lemmas.Option.{none-some, same_Some, slice_get-map, get_or_from_slice_get, slice_get_within}
use Rattle.sync_types.specs.declared.atomic_object.AtomicKind.{AtomicKind}
use Rattle.sync_types.specs.declared.atomic_object.AtomicKind.TheVariants as kinds
use Rattle.sync_types.specs.declared.atomic_object.AtomicCall.{AtomicCall}
use Rattle.sync_types.specs.declared.atomic_object.AtomicCall.TheVariants as atomics
use Rattle.sync_types.specs.declared.atomic_object.AtomicReply.TheVariants.{Held}
use Rattle.sync_types.specs.declared.atomic_object.Number.{Number}
use Rattle.sync_types.specs.declared.atomic_object.Number.TheVariants.{Int32, Int64, Uint32, Uint64, Bool as Truth}
use Rattle.sync_model.specs.declared.item.Item.{Item}
use Rattle.sync_model.specs.declared.item.SharedCall.{SharedCall}
use Rattle.sync_model.specs.declared.item.SharedCall.TheVariants.{Map, Begin, Next, Atomic}
use Rattle.sync_model.specs.declared.item.SharedReply.{SharedReply}
use Rattle.sync_model.specs.declared.item.SharedReply.TheVariants as replies
use Rattle.sync_model.specs.declared.item.SharedEntry.{SharedEntry}
use Rattle.sync_types.specs.declared.map_object.MapCall.{MapCall}
use Rattle.sync_types.specs.declared.map_object.MapCall.TheVariants as maps
use Rattle.sync_types.specs.declared.map_object.MapReply.{MapReply}
use Rattle.sync_types.specs.declared.map_object.MapReply.TheVariants as found
use Rattle.sync_types.specs.SequentialAtomic.{zero_of, sum, has_bits, is_of, is_atomic_call, atomic_after}
use Rattle.sync_types.specs.SequentialMap.{map_key, map_reply, map_after}
use Rattle.sync_model.specs.Shared.{IsAtomicCall}
use Rattle.sync_model.specs.SharedCalls.{Lawful, IsStep}
use Rattle.sync_model.specs.SharedHistory.{Contents, first_contents, map_at, number_at, value_at, shared_after, contents_after, contents_at, IsReply}
use Rattle.workload.specs.Keys.{keys_in}
use Rattle.workload.specs.Plan.{Plan}
use Rattle.run_record.specs.Limits.{IsKeyOf, IsCallOf, HasShown, atomic_types, step_of, told}
use Rattle.run_record.specs.Objects.{contents_of, is_map}

module _ {A : Type 0} where
  -- a list with one item replaced has the new one there, and else what it had
  set_at : (xs : List A) (i j : ℕ) (y d : A) → ((get_or (set xs i y) j d ≡ y) × (j ≡ i)) ⊎ (get_or (set xs i y) j d ≡ get_or xs j d)
  set_at [] i j y d = inr refl
  set_at (x ∷ xs) zero zero y d = inl (refl, refl)
  set_at (x ∷ xs) zero (suc j) y d = inr refl
  set_at (x ∷ xs) (suc i) zero y d = inr refl
  set_at (x ∷ xs) (suc i) (suc j) y d = elim (set_at xs i j y d) [ inl is ↦ inl (is.0, ap (λ n. suc n) is.1) | inr is ↦ inr is ]

  taken_at : (xs : List A) (n i : ℕ) (x : A) → slice_get (take n xs) i ≡ Some x → slice_get xs i ≡ Some x
  taken_at [] zero i x at = at
  taken_at [] (suc n) i x at = at
  taken_at (y ∷ xs) zero i x at = absurd (none-some x at)
  taken_at (y ∷ xs) (suc n) zero x at = at
  taken_at (y ∷ xs) (suc n) (suc i) x at = taken_at xs n i x at

  first_at : (made after : List A) (i : ℕ) (x : A) → slice_get made i ≡ Some x → slice_get (made ++ after) i ≡ Some x
  first_at [] after i x at = absurd (none-some x at)
  first_at (y ∷ made) after zero x at = at
  first_at (y ∷ made) after (suc i) x at = first_at made after i x at

  -- what stands in the middle of a list
  mid_at : (before made after : List A) (i : ℕ) (x : A) → slice_get made i ≡ Some x → slice_get (before ++ (made ++ after)) (length before + i) ≡ Some x
  mid_at [] made after i x at = let same : i ≡ 0 + i = omega arith in subst (λ n. slice_get (made ++ after) n ≡ Some x) same (first_at made after i x at)
  mid_at (y ∷ before) made after i x at = let same : suc (length before + i) ≡ length (y ∷ before) + i = omega arith in subst (λ n. slice_get (y ∷ (before ++ (made ++ after))) n ≡ Some x) same (mid_at before made after i x at)

  pub item_of : (P : A → Type 0) (xs : List A) (i : ℕ) (x : A) → All P xs → slice_get xs i ≡ Some x → P x
  item_of P xs i x all at = subst P (get_or_from_slice_get xs i x x at) (all i x (slice_get_within xs i x at))

abbrev found_in : MapReply → Option ℕ
found_in (found.Found value) = value
found_in found.Done = None
found_in (found.Settled value loaded) = None
found_in (found.Compared is) = None

-- an `add` to an int64 comes to an int64
sum_of_int64 : (kind : AtomicKind) (held : Number) (amount : ℤ) → is_of kind held ≡ true → is_of kind (Int64 amount) ≡ true → (s : ℤ) × (sum held (Int64 amount) ≡ Int64 s)
sum_of_int64 kinds.Int32 held amount is fits = absurd (false≢true fits)
sum_of_int64 kinds.Uint32 held amount is fits = absurd (false≢true fits)
sum_of_int64 kinds.Uint64 held amount is fits = absurd (false≢true fits)
sum_of_int64 kinds.Bool held amount is fits = absurd (false≢true fits)
sum_of_int64 kinds.Int64 (Int64 a) amount is fits = (_, refl)
sum_of_int64 kinds.Int64 (Int32 a) amount is fits = absurd (false≢true is)
sum_of_int64 kinds.Int64 (Uint32 a) amount is fits = absurd (false≢true is)
sum_of_int64 kinds.Int64 (Uint64 a) amount is fits = absurd (false≢true is)
sum_of_int64 kinds.Int64 (Truth b) amount is fits = absurd (false≢true is)

-- a call on a map is by a key that the workload has
abbrev pub KnowsKey : Plan → SharedCall → Type 0
KnowsKey plan (Map m call) = (key : ℕ) → map_key call ≡ Some key → IsKeyOf plan key
KnowsKey plan (Begin m) = Unit {0}
KnowsKey plan (Next begin) = Unit {0}
KnowsKey plan (Atomic a call) = Unit {0}

pub knows_key : (plan : Plan) (call : SharedCall) → IsCallOf plan call → KnowsKey plan call
knows_key plan (Map m call) is = is
knows_key plan (Begin m) is = tt
knows_key plan (Next begin) is = tt
knows_key plan (Atomic a call) is = tt

-- what each of some calls keeps
module _ (Is : SharedCall → Type 0) (Within : Contents → Type 0) (step : (call : SharedCall) (contents : Contents) → Is call → Within contents → Within (shared_after call contents)) where
  after_all : (contents : Contents) (history : List SharedEntry) → ((n : ℕ) (entry : SharedEntry) → slice_get history n ≡ Some entry → Is entry.call) → Within contents → Within (contents_after contents history)
  after_all contents [] all within = within
  after_all contents (entry ∷ later) all within = after_all (shared_after entry.call contents) later (λ n e at. all (suc n) e at) (step entry.call contents (all 0 entry refl) within)

  module _ (start : Contents) (history : List SharedEntry) (calls : ℕ → List Item) (all : (c : ℕ) → All (λ x. Is x.call) (calls c)) (first : Within start)
      (is_call : (n : ℕ) (entry : SharedEntry) → slice_get history n ≡ Some entry → (j : ℕ) × (x : Item) × (slice_get (calls entry.caller) j ≡ Some x) × (x.entry ≡ true) × (x.place ≡ n) × (x.call ≡ entry.call) × (x.reply ≡ entry.reply)) where
    entries : (n : ℕ) (entry : SharedEntry) → slice_get history n ≡ Some entry → Is entry.call
    entries n entry at =
        let it = is_call n entry at in
        subst Is it.5 (item_of (λ x. Is x.call) (calls entry.caller) it.0 it.1 (all entry.caller) it.2)

    -- what all of them keep holds at each moment
    within_at : (n : ℕ) → Within (contents_at start history n)
    within_at n = after_all start (take n history) (λ i entry at. entries i entry (taken_at history n i entry at)) first

-- atomics hold numbers of their types
abbrev HaveTypes : Plan → Contents → Type 0
HaveTypes plan contents = (a : ℕ) (kind : AtomicKind) → slice_get (atomic_types plan) a ≡ Some kind → is_of kind (number_at contents a) ≡ true

module _ (plan : Plan) (zero_is : (kind : AtomicKind) → is_of kind (zero_of kind) ≡ true)
    (after_is : (kind : AtomicKind) (call : AtomicCall) (held : Number) → is_of kind held ≡ true → is_atomic_call kind call ≡ true → is_of kind (atomic_after call held) ≡ true) where
  types_stay : (call : SharedCall) (contents : Contents) → IsCallOf plan call → HaveTypes plan contents → HaveTypes plan (shared_after call contents)
  types_stay (Map n call) contents is within = within
  types_stay (Begin n) contents is within = within
  types_stay (Next begin) contents is within = within
  types_stay (Atomic b call) contents is within = λ a kind at. elim (set_at contents.numbers b a (atomic_after call (number_at contents b)) (Truth false)) [
    | inl new ↦
        let same : is.kind ≡ kind = same_Some is.kind kind (sym is.at ∙ ap (λ n. slice_get (atomic_types plan) n) (sym new.1) ∙ at) in
        ap (is_of kind) new.0 ∙ subst (λ k. is_of k (atomic_after call (number_at contents b)) ≡ true) same (after_is is.kind call (number_at contents b) (within b is.kind is.at) is.has)
    | inr same ↦ ap (is_of kind) same ∙ within a kind at
  ]

  zero_first : (many : ℕ) (types : List AtomicKind) (a : ℕ) (kind : AtomicKind) → slice_get types a ≡ Some kind → is_of kind (number_at (first_contents many types) a) ≡ true
  zero_first many types a kind at = ap (is_of kind) (get_or_from_slice_get (map zero_of types) a (zero_of kind) (Truth false) (slice_get-map zero_of types a ∙ ap (option_map zero_of) at)) ∙ zero_is kind

  module _ (history : List SharedEntry) (calls : ℕ → List Item) (lawful : Lawful (contents_of plan) history calls) (all : (c : ℕ) → All (λ x. IsCallOf plan x.call) (calls c))
      (is_call : (n : ℕ) (entry : SharedEntry) → slice_get history n ≡ Some entry → (j : ℕ) × (x : Item) × (slice_get (calls entry.caller) j ≡ Some x) × (x.entry ≡ true) × (x.place ≡ n) × (x.call ≡ entry.call) × (x.reply ≡ entry.reply)) where
    pub adds_int64 : (caller i a : ℕ) (amount : ℤ) (x : Item) → slice_get (calls caller) i ≡ Some x → x.call ≡ Atomic a (atomics.Add (Int64 amount)) → (s : ℤ) × (x.reply ≡ replies.Atomic (Held (Int64 s)))
    adds_int64 caller i a amount x at is =
        let contents = contents_at (contents_of plan) history x.place in
        let call : IsAtomicCall (atomic_types plan) a (atomics.Add (Int64 amount)) = subst (IsCallOf plan) is (item_of (λ y. IsCallOf plan y.call) (calls caller) i x (all caller) at) in
        let reply : IsReply (Atomic a (atomics.Add (Int64 amount))) x.reply contents = subst (λ c. IsReply c x.reply contents) is (lawful.sound caller i x at).reply in
        let s = sum_of_int64 call.kind (number_at contents a) amount (within_at (IsCallOf plan) (HaveTypes plan) types_stay (contents_of plan) history calls all (zero_first (count_by (λ object. is_map object.kind) plan.objects) (atomic_types plan)) is_call x.place a call.kind call.at) (and_parts (has_bits call.kind) (is_of call.kind (Int64 amount)) call.has).1 in
        (s.0, reply ∙ ap (λ number. replies.Atomic (Held number)) s.1)

-- maps have no key but the workload's
abbrev pub HaveKeys : Plan → Contents → Type 0
HaveKeys plan contents = (m key value : ℕ) → value_at contents m key ≡ Some value → IsKeyOf plan key

module _ (plan : Plan) (leaves : (m : FinMap nat_cmp ℕ) (call : MapCall ℕ) (key other : ℕ) → map_key call ≡ Some key → other ≢ key → map_reply (maps.Load other) (map_after call m) ≡ map_reply (maps.Load other) m)
    (clears : (call : MapCall ℕ) → map_key call ≡ None → call ≡ maps.Clear) where
  keys_after : (m : FinMap nat_cmp ℕ) (call : MapCall ℕ) → ((k : ℕ) → map_key call ≡ Some k → IsKeyOf plan k) → ((key value : ℕ) → get m key ≡ Some value → IsKeyOf plan key) → (key value : ℕ) → get (map_after call m) key ≡ Some value → IsKeyOf plan key
  keys_after m call is within key value there = by_key (map_key call) refl where
    by_key : (o : Option ℕ) → map_key call ≡ o → IsKeyOf plan key
    by_key None none = absurd (none-some value (sym (get-empty nat_cmp key) ∙ subst (λ (c : MapCall ℕ). get (map_after c m) key ≡ Some value) (clears call none) there))
    by_key (Some k) has = by_same (k == key) refl where
      by_same : (b : Bool) → (k == key) ≡ b → IsKeyOf plan key
      by_same true same = subst (IsKeyOf plan) (eqb-true k key same) (is k has)
      by_same false other = within key value (sym (ap found_in (leaves m call k key has (λ same. eqb-false k key other (sym same)))) ∙ there)

  keys_stay : (call : SharedCall) (contents : Contents) → KnowsKey plan call → HaveKeys plan contents → HaveKeys plan (shared_after call contents)
  keys_stay (Map n call) contents is within = λ m key value there. elim (set_at contents.maps n m (map_after call (map_at contents n)) empty) [
    | inl new ↦ keys_after (map_at contents n) call is (within n) key value (sym (ap (λ held. get held key) new.0) ∙ there)
    | inr same ↦ within m key value (sym (ap (λ held. get held key) same) ∙ there)
  ]
  keys_stay (Begin n) contents is within = within
  keys_stay (Next begin) contents is within = within
  keys_stay (Atomic a call) contents is within = within

  none_first : (many : ℕ) (types : List AtomicKind) (m key : ℕ) → value_at (first_contents many types) m key ≡ None
  none_first many types m key = elim (cases_lt m many) [
    | inl there ↦ ap (λ held. get held key) (get_or-replicate many m empty empty there) ∙ get-empty nat_cmp key
    | inr past ↦ ap (λ held. get held key) (get_or_past (replicate many empty) m empty (let long = length-replicate many (empty {X = ℕ} {R = nat_cmp}) in omega arith)) ∙ get-empty nat_cmp key
  ]

  module _ (history : List SharedEntry) (calls : ℕ → List Item) (all : (c : ℕ) → All (λ x. KnowsKey plan x.call) (calls c))
      (is_call : (n : ℕ) (entry : SharedEntry) → slice_get history n ≡ Some entry → (j : ℕ) × (x : Item) × (slice_get (calls entry.caller) j ≡ Some x) × (x.entry ≡ true) × (x.place ≡ n) × (x.call ≡ entry.call) × (x.reply ≡ entry.reply)) where
    pub keys_at : (n : ℕ) → HaveKeys plan (contents_at (contents_of plan) history n)
    keys_at n = within_at (KnowsKey plan) (HaveKeys plan) keys_stay (contents_of plan) history calls all (λ m key value there. absurd (none-some value (sym (none_first (count_by (λ object. is_map object.kind) plan.objects) (atomic_types plan) m key) ∙ there))) is_call n

    -- the keys that one cursor shows are the workload's
    module _ (caller : ℕ) (shown : List (ℕ × ℕ)) (has : HasShown (calls caller) shown)
        (once : (b i j key value other : ℕ) (x y : Item) → IsStep (calls caller) b i x (Some (key, value)) → IsStep (calls caller) b j y (Some (key, other)) → i ≡ j)
        (was : (b i m key value : ℕ) (begin x : Item) → slice_get (calls caller) b ≡ Some begin → begin.call ≡ Begin m → IsStep (calls caller) b i x (Some (key, value)) → (n : ℕ) × (value_at (contents_at (contents_of plan) history n) m key ≡ Some value)) where
      abbrev begin : ℕ
      begin = length has.before

      abbrev steps : List (SharedCall × SharedReply)
      steps = (Begin has.m, replies.Begun) ∷ (map (step_of (length has.before)) shown ++ has.more)

      -- the item of the cursor that was answered so
      made_at : (xs : List Item) (i : ℕ) (call : SharedCall × SharedReply) → slice_get (map told xs) i ≡ Some call → (x : Item) × (slice_get xs i ≡ Some x) × (told x ≡ call)
      made_at [] i call at = absurd (none-some call at)
      made_at (x ∷ xs) zero call at = (x, refl, same_Some (told x) call at)
      made_at (x ∷ xs) (suc i) call at = made_at xs i call at

      item_at : (i : ℕ) (call : SharedCall × SharedReply) → slice_get steps i ≡ Some call → (x : Item) × (slice_get (calls caller) (begin + i) ≡ Some x) × (told x ≡ call)
      item_at i call at =
          let made = made_at has.made i call (ap (λ (l : List (SharedCall × SharedReply)). slice_get l i) has.steps ∙ at) in
          (made.0, ap (λ (l : List Item). slice_get l (begin + i)) has.are ∙ mid_at has.before has.made has.after i made.0 made.1, made.2)

      step_at : (k : ℕ) (pair : ℕ × ℕ) → slice_get shown k ≡ Some pair → (x : Item) × IsStep (calls caller) begin (begin + suc k) x (Some pair)
      step_at k pair at =
          let made = item_at (suc k) (Next begin, replies.Shown (Some pair)) (first_at (map (step_of begin) shown) has.more k (Next begin, replies.Shown (Some pair)) (slice_get-map (step_of begin) shown k ∙ ap (option_map (step_of begin)) at)) in
          (made.0, record { at = made.1; call = ap (λ (t : SharedCall × SharedReply). t.0) made.2; reply = ap (λ (t : SharedCall × SharedReply). t.1) made.2 })

      key_at : (k : ℕ) (pair : ℕ × ℕ) → slice_get shown k ≡ Some pair → IsKeyOf plan pair.0
      key_at k pair at =
          let first = item_at 0 (Begin has.m, replies.Begun) refl in
          let step = step_at k pair at in
          let moment = was begin (begin + suc k) has.m pair.0 pair.1 first.0 step.0 (subst (λ n. slice_get (calls caller) n ≡ Some first.0) (omega arith) first.1) (ap (λ (t : SharedCall × SharedReply). t.0) first.2) step.1 in
          keys_at moment.0 has.m pair.0 pair.1 moment.1

      apart : (i j : ℕ) (p q : ℕ × ℕ) → slice_get shown i ≡ Some p → slice_get shown j ≡ Some q → p.0 ≡ q.0 → i ≡ j
      apart i j p q at_i at_j same =
          let one = step_at i p at_i in
          let two = step_at j q at_j in
          let places : begin + suc i ≡ begin + suc j = once begin (begin + suc i) (begin + suc j) p.0 p.1 q.1 one.0 two.0 one.1 (subst (λ key. IsStep (calls caller) begin (begin + suc j) two.0 (Some (key, q.1))) (sym same) two.1) in
          omega (arith, places)

      abbrev keys : List (ℕ × ℕ) → List ℕ
      keys pairs = map (λ (p : ℕ × ℕ). p.0) pairs

      no_other : (key n : ℕ) (pairs : List (ℕ × ℕ)) → ((k : ℕ) (p : ℕ × ℕ) → slice_get pairs k ≡ Some p → key ≢ p.0) → AllByRecursion (λ y. eqb key y ≡ false) (keys pairs)
      no_other key n [] other = tt
      no_other key n (p ∷ pairs) other = (differ (key == p.0) refl, no_other key n pairs (λ k q at. other (suc k) q at)) where
        differ : (b : Bool) → (key == p.0) ≡ b → (key == p.0) ≡ false
        differ true same = absurd (other 0 p refl (eqb-true key p.0 same))
        differ false other_key = other_key

      distinct : (pairs : List (ℕ × ℕ)) → ((i j : ℕ) (p q : ℕ × ℕ) → slice_get pairs i ≡ Some p → slice_get pairs j ≡ Some q → p.0 ≡ q.0 → i ≡ j) → IsDistinct eqb (keys pairs)
      unfolding IsDistinct
      distinct [] each = tt
      distinct (p ∷ pairs) each = (
        no_other p.0 0 pairs (λ k q at same. let places = each 0 (suc k) p q refl at same in absurd (omega (arith, places))),
        distinct pairs (λ i j a b at_i at_j same. let places = each (suc i) (suc j) a b at_i at_j same in omega (arith, places)),
      )

      below : (pairs : List (ℕ × ℕ)) → ((k : ℕ) (p : ℕ × ℕ) → slice_get pairs k ≡ Some p → IsKeyOf plan p.0) → (key : ℕ) → list_any (eqb key) (keys pairs) ≡ true → IsKeyOf plan key
      below [] each key any = absurd (false≢true any)
      below (p ∷ pairs) each key any = by_first (key == p.0) refl (λ later. below pairs (λ k q at. each (suc k) q at) key later) where
        by_first : (b : Bool) → (key == p.0) ≡ b → (list_any (eqb key) (keys pairs) ≡ true → IsKeyOf plan key) → IsKeyOf plan key
        by_first true same later = subst (IsKeyOf plan) (sym (eqb-true key p.0 same)) (each 0 p refl)
        by_first false other later = later (sym (ap (λ b. b || list_any (eqb key) (keys pairs)) other) ∙ any)

      pub few_shown : length shown ≤ length (keys_in plan.scripts)
      few_shown = subst (λ n. n ≤ length (keys_in plan.scripts)) (length-map shown (λ (p : ℕ × ℕ). p.0)) (length-le_from_distinct_below (keys shown) (length (keys_in plan.scripts)) (distinct shown apart) (below shown key_at))
