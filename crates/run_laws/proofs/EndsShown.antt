-- What a run shows at its end, and what its maps and atomics contain.
use Rattle.std.proofs.Common.{◌≡◌, ◌≢◌, inl, inr, ℕ, zero, suc, ◌+◌, ◌<◌, Bool, true, false, cond, List, [], ◌∷◌, length, map, take, Option, Some, None, slice_get, refl, sym, ap, ◌∙◌, subst, arith}
use Rattle.std.specs.Prelude.{T, Contains, zip, count_by, ◌↔◌, ◌&&◌}
use Rattle.std.specs.List.{flat_map}
use Rattle.std.specs.Option.{option_map, option_map_or}
use Rattle.std.specs.Ordering.{nat_cmp, is_eq, is_lt, eq_by_cmp, ordering_reverse}
use Rattle.std.specs.Str.{bytes_eq}
use Rattle.std.specs.Cmp.{tied_itself}
use Rattle.std.specs.Cmp.Lexicographic.{slice_cmp, nat_list_cmp_total}
use Rattle.std.specs.declared.cmp.Ordering.{Ordering}
use Rattle.std.specs.declared.cmp.Ordering.TheVariants.{Less, Equal, Greater}
use Rattle.std.specs.FinMap.{FinMap, empty, get, get-entries, entries, entries_sorted, find, is_sorted}
use Rattle.std.specs.FinMap.Entries.{below_all}
use Rattle.std.proofs.lemmas.Bool.{false≢true}
use Rattle.std.proofs.lemmas.List.{length-replicate}
use Rattle.std.proofs.lemmas.List.Elements.{Contains-get_or, Contains-append_left, Contains-append_right, Contains-append_cases, at_from_Contains}
use Rattle.std.proofs.lemmas.List.Sums.{sum_by-cons}
use Rattle.std.proofs.lemmas.Map.Text.{is_eq-slice_cmp}
use Rattle.std.proofs.lemmas.Option.{none-some, same_Some, slice_get-map, slice_get_within, slice_get-get_or, get_or_from_slice_get}
use Rattle.std.proofs.lemmas.Slice.Eq.{bytes_eq-Decides}
use Rattle.sync_types.specs.declared.atomic_object.AtomicKind.{AtomicKind}
use Rattle.sync_types.specs.declared.atomic_object.Number.{Number}
use Rattle.sync_types.specs.declared.atomic_object.Number.TheVariants.{Bool as Truth}
use Rattle.script_calls.specs.declared.call.Call.{Call}
use Rattle.sync_types.specs.declared.end.End.{End}
use Rattle.sync_types.specs.declared.end.End.TheVariants as ends
use Rattle.script_calls.specs.declared.outcome.Outcome.{Outcome}
use Rattle.script_calls.specs.declared.outcome.Outcome.TheVariants.{Done}
use Rattle.script_calls.specs.declared.outcome.Report.{Report}
use Rattle.sync_types.specs.Ends.{number_end, pair_ends}
use Rattle.sync_types.specs.SequentialAtomic.{zero_of}
use Rattle.sync_model.specs.EndsByName.{by_name}
use Rattle.sync_model.specs.SharedHistory.{Contents, map_at, number_at, value_at, contents_after}
use Rattle.workload.specs.declared.object.ObjectKind.{ObjectKind}
use Rattle.workload.specs.declared.object.ObjectKind.TheVariants as kinds
use Rattle.workload.specs.declared.object.ObjectLine.{ObjectLine}
use Rattle.workload.specs.Keys.{keys_in, number_in, key_number, key_name}
use Rattle.workload.specs.Plan.{Plan}
use Rattle.run_record.specs.Explains.{Explains}
use Rattle.run_record.specs.Objects.{is_map, is_atomic, types_of, map_number, atomic_number, places_from, contents_of, named, ends_in}
use Rattle.run_record.specs.Record.{Record}
use Rattle.run_laws.proofs.AsMany.{get_zip, place_at}
use Rattle.run_laws.proofs.Numbered.{count_before, number_within, type_at}

abbrev by_bytes : List ℕ → List ℕ → Ordering
by_bytes = slice_cmp nat_cmp

module _ {A : Type 0} where
  has_place : (xs : List A) (k : ℕ) (x : A) → slice_get xs k ≡ Some x → Contains xs x
  has_place xs k x at = subst (Contains xs) (get_or_from_slice_get xs k x x at) (Contains-get_or xs k x (slice_get_within xs k x at))

  place_of : (xs : List A) (x : A) → Contains xs x → (k : ℕ) × (slice_get xs k ≡ Some x)
  place_of xs x has = let at = at_from_Contains xs x has in (at.0, slice_get-get_or xs at.0 x at.1 ∙ ap Some (at.2 x))

module _ {A B : Type 0} where
  from_map : (f : A → B) (xs : List A) (i : ℕ) (y : B) → slice_get (map f xs) i ≡ Some y → (x : A) × (slice_get xs i ≡ Some x) × (f x ≡ y)
  from_map f [] i y at = absurd (none-some y at)
  from_map f (x ∷ xs) zero y at = (x, refl, same_Some (f x) y at)
  from_map f (x ∷ xs) (suc i) y at = from_map f xs i y at

  from_zip : (xs : List A) (ys : List B) (i : ℕ) (p : A × B) → slice_get (zip xs ys) i ≡ Some p → (slice_get xs i ≡ Some p.0) × (slice_get ys i ≡ Some p.1)
  from_zip [] ys i p at = absurd (none-some p at)
  from_zip (x ∷ xs) [] i p at = absurd (none-some p at)
  from_zip (x ∷ xs) (y ∷ ys) zero p at = let same = same_Some (x, y) p at in (ap (λ (q : A × B). Some q.0) same, ap (λ (q : A × B). Some q.1) same)
  from_zip (x ∷ xs) (y ∷ ys) (suc i) p at = from_zip xs ys i p at

  into_flat : (f : A → List B) (xs : List A) (i : ℕ) (x : A) (y : B) → slice_get xs i ≡ Some x → Contains (f x) y → Contains (flat_map f xs) y
  into_flat f [] i x y at has = absurd (none-some x at)
  into_flat f (a ∷ xs) zero x y at has = Contains-append_left (f a) (flat_map f xs) y (subst (λ z. Contains (f z) y) (sym (same_Some a x at)) has)
  into_flat f (a ∷ xs) (suc i) x y at has = Contains-append_right (f a) (flat_map f xs) y (into_flat f xs i x y at has)

  from_flat : (f : A → List B) (xs : List A) (y : B) → Contains (flat_map f xs) y → (i : ℕ) × (x : A) × (slice_get xs i ≡ Some x) × Contains (f x) y
  from_flat f [] y has = absurd (none-some y (place_of [] y has).1)
  from_flat f (a ∷ xs) y has = elim (Contains-append_cases (f a) (flat_map f xs) y has) [
    | inl here ↦ (zero, a, refl, here)
    | inr later ↦ (let rest = from_flat f xs y later in (suc rest.0, rest.1, rest.2, rest.3))
  ]

-- the object whose number among its kind this is
pub record IsPlace (is : ObjectKind → Bool) (k : ℕ) (objects : List ObjectLine) (n p : ℕ) : Type 0 where
  pub i : ℕ
  pub object : ObjectLine
  pub place : p ≡ k + i
  pub at : slice_get objects i ≡ Some object
  pub such : is object.kind ≡ true
  pub number : count_before (λ (o : ObjectLine). is o.kind) objects i ≡ n

module _ (is : ObjectKind → Bool) where
  by_test : (k : ℕ) (y : ObjectLine) (objects : List ObjectLine) (p : ℕ) (b : Bool) → is y.kind ≡ b → ((n : ℕ) → slice_get (places_from (k + 1) is objects) n ≡ Some p → IsPlace is (k + 1) objects n p)
      → (n : ℕ) → slice_get (cond b (k ∷ places_from (k + 1) is objects) (places_from (k + 1) is objects)) n ≡ Some p → IsPlace is k (y ∷ objects) n p
  by_test k y objects p true such rest zero at = record { i = zero; object = y; place = (let same : k ≡ k + 0 = omega arith in sym (same_Some k p at) ∙ same); at = refl; such = such; number = refl }
  by_test k y objects p true such rest (suc n) at =
      let it = rest n at in
      let here : ◌≡◌ {A = ℕ} (cond (is y.kind) 1 0) 1 = ap (λ b. cond {A = ℕ} b 1 0) such in
      let place = it.place in
      let number = it.number in
      record { i = suc it.i; object = it.object; place = omega arith; at = it.at; such = it.such; number = omega (arith, sum_by-cons (λ (o : ObjectLine). cond (is o.kind) 1 0) y (take it.i objects), here, number) }
  by_test k y objects p false such rest n at =
      let it = rest n at in
      let here : ◌≡◌ {A = ℕ} (cond (is y.kind) 1 0) 0 = ap (λ b. cond {A = ℕ} b 1 0) such in
      let place = it.place in
      let number = it.number in
      record { i = suc it.i; object = it.object; place = omega arith; at = it.at; such = it.such; number = omega (arith, sum_by-cons (λ (o : ObjectLine). cond (is o.kind) 1 0) y (take it.i objects), here, number) }

  place_is : (k : ℕ) (objects : List ObjectLine) (n p : ℕ) → slice_get (places_from k is objects) n ≡ Some p → IsPlace is k objects n p
  place_is k [] n p at = absurd (none-some p at)
  place_is k (y ∷ objects) n p at = by_test k y objects p (is y.kind) refl (λ n at. place_is (k + 1) objects n p at) n at

is_a_map : (kind : ObjectKind) → is_map kind ≡ true → kind ≡ kinds.Map
is_a_map kinds.Map is = refl
is_a_map (kinds.Atomic type) is = absurd cc
is_a_map kinds.Mutex is = absurd cc
is_a_map kinds.RwMutex is = absurd cc
is_a_map (kinds.Cond mutex) is = absurd cc
is_a_map (kinds.WaitGroup start) is = absurd cc
is_a_map (kinds.Once atomic delta) is = absurd cc
is_a_map (kinds.OnceFunc code) is = absurd cc
is_a_map (kinds.OnceValue value) is = absurd cc
is_a_map kinds.Pool is = absurd cc
is_a_map (kinds.Sema size) is = absurd cc
is_a_map (kinds.Flight atomic delta) is = absurd cc
is_a_map kinds.Var is = absurd cc

is_an_atomic : (kind : ObjectKind) → is_atomic kind ≡ true → (type : AtomicKind) × (kind ≡ kinds.Atomic type)
is_an_atomic (kinds.Atomic type) is = (type, refl)
is_an_atomic kinds.Map is = absurd cc
is_an_atomic kinds.Mutex is = absurd cc
is_an_atomic kinds.RwMutex is = absurd cc
is_an_atomic (kinds.Cond mutex) is = absurd cc
is_an_atomic (kinds.WaitGroup start) is = absurd cc
is_an_atomic (kinds.Once atomic delta) is = absurd cc
is_an_atomic (kinds.OnceFunc code) is = absurd cc
is_an_atomic (kinds.OnceValue value) is = absurd cc
is_an_atomic kinds.Pool is = absurd cc
is_an_atomic (kinds.Sema size) is = absurd cc
is_an_atomic (kinds.Flight atomic delta) is = absurd cc
is_an_atomic kinds.Var is = absurd cc

-- the entries of a map by name are what it has
strictly : (r : Ordering) → T (is_lt r) → r ≡ Less
strictly Less is = refl
strictly Equal is = absurd is
strictly Greater is = absurd is

first_of : (a b : Bool) → T (a && b) → T a
first_of true b is = tt
first_of false b is = absurd is

second_of : (a b : Bool) → T (a && b) → T b
second_of true b is = is
second_of false b is = absurd is

below_at : (x : List ℕ) (es : List (List ℕ × ℕ)) (i : ℕ) (e : List ℕ × ℕ) → T (below_all by_bytes x es) → slice_get es i ≡ Some e → by_bytes x e.0 ≡ Less
below_at x [] i e below at = absurd (none-some e at)
below_at x (y ∷ es) zero e below at = subst (λ (z : List ℕ × ℕ). by_bytes x z.0 ≡ Less) (same_Some y e at) (strictly (by_bytes x y.0) (first_of _ _ below))
below_at x (y ∷ es) (suc i) e below at = below_at x es i e (second_of _ _ below) at

found_at : (es : List (List ℕ × ℕ)) (i : ℕ) (e : List ℕ × ℕ) → T (is_sorted by_bytes es) → slice_get es i ≡ Some e → find by_bytes e.0 es ≡ Some e.1
found_at [] i e sorted at = absurd (none-some e at)
found_at (x ∷ es) zero e sorted at =
    let same = same_Some x e at in
    ap (λ (b : Bool). cond b (Some x.1) (find by_bytes e.0 es)) (ap (λ (y : List ℕ × ℕ). eq_by_cmp by_bytes y.0 x.0) (sym same) ∙ ap is_eq (tied_itself nat_list_cmp_total x.0)) ∙ ap (λ (y : List ℕ × ℕ). Some y.1) same
found_at (x ∷ es) (suc i) e sorted at =
    let less = below_at x.0 es i e (first_of _ _ sorted) at in
    ap (λ (b : Bool). cond b (Some x.1) (find by_bytes e.0 es)) (ap is_eq (nat_list_cmp_total.antisymm e.0 x.0 ∙ ap ordering_reverse less)) ∙ found_at es i e (second_of _ _ sorted) at

has_entry : (es : List (List ℕ × ℕ)) (word : List ℕ) (value : ℕ) → find by_bytes word es ≡ Some value → (i : ℕ) × (slice_get es i ≡ Some (word, value))
has_entry [] word value found = absurd (none-some value found)
has_entry (e ∷ es) word value found = by_tie (eq_by_cmp by_bytes word e.0) refl found (has_entry es word value)
  where
    by_tie : (b : Bool) → eq_by_cmp by_bytes word e.0 ≡ b → cond b (Some e.1) (find by_bytes word es) ≡ Some value → (find by_bytes word es ≡ Some value → (i : ℕ) × (slice_get es i ≡ Some (word, value))) → (i : ℕ) × (slice_get (e ∷ es) i ≡ Some (word, value))
    by_tie true tie is rest =
        let name : word ≡ e.0 = (bytes_eq-Decides word e.0).0 (sym (is_eq-slice_cmp word e.0) ∙ tie) in
        (zero, λ i. Some (sym name i, same_Some e.1 value is i))
    by_tie false apart is rest = let later = rest is in (suc later.0, later.1)

number_is : (p q : ℕ) (m n : Number) → ends.Number p m ≡ ends.Number q n → (p ≡ q) × (m ≡ n)
number_is p q m n e = ((cc), (cc))

pair_is : (p q k l v w : ℕ) → ends.Pair p k v ≡ ends.Pair q l w → (p ≡ q) × (k ≡ l) × (v ≡ w)
pair_is p q k l v w e = ((cc), (cc), (cc))

-- what a run's maps and atomics are, by number
module _ (plan : Plan) (contents : Contents) (maps_long : length contents.maps ≡ length (contents_of plan).maps) (numbers_long : length contents.numbers ≡ length (contents_of plan).numbers) where
  abbrev keys : List (List ℕ)
  keys = keys_in plan.scripts

  abbrev held_numbers : List (ℕ × Number)
  held_numbers = zip (places_from 0 is_atomic plan.objects) contents.numbers

  abbrev held_maps : List (ℕ × FinMap by_bytes ℕ)
  held_maps = zip (places_from 0 is_map plan.objects) (map (named keys) contents.maps)

  zero_on : (place : ℕ) → 0 + place ≡ place
  zero_on place = omega arith

  number_there : (place : ℕ) (object : ObjectLine) (type : AtomicKind) → slice_get plan.objects place ≡ Some object → object.kind ≡ kinds.Atomic type → slice_get contents.numbers (atomic_number plan.objects place) ≡ Some (number_at contents (atomic_number plan.objects place))
  number_there place object type at kind =
      let a = atomic_number plan.objects place in
      let first = slice_get_within (contents_of plan).numbers a (zero_of type) (slice_get-map zero_of (flat_map (λ o. types_of o.kind) plan.objects) a ∙ ap (option_map zero_of) (type_at plan.objects place object type at kind)) in
      let within : a < length contents.numbers = omega (arith, numbers_long, first) in
      slice_get-get_or contents.numbers a (Truth false) within

  pub shows_number : (place : ℕ) (object : ObjectLine) (type : AtomicKind) → slice_get plan.objects place ≡ Some object → object.kind ≡ kinds.Atomic type
      → Contains (ends_in plan contents) (ends.Number place (number_at contents (atomic_number plan.objects place)))
  shows_number place object type at kind =
      let a = atomic_number plan.objects place in
      let placed : slice_get (places_from 0 is_atomic plan.objects) a ≡ Some place = place_at is_atomic 0 plan.objects place object at (ap is_atomic kind) ∙ ap Some (zero_on place) in
      Contains-append_left (map number_end held_numbers) (flat_map (pair_ends (key_number keys)) held_maps) (ends.Number place (number_at contents a))
      (has_place (map number_end held_numbers) a (ends.Number place (number_at contents a))
      (slice_get-map number_end held_numbers a ∙ ap (option_map number_end) (get_zip (places_from 0 is_atomic plan.objects) contents.numbers a place (number_at contents a) placed (number_there place object type at kind))))

  map_there : (place : ℕ) (object : ObjectLine) → slice_get plan.objects place ≡ Some object → object.kind ≡ kinds.Map → slice_get contents.maps (map_number plan.objects place) ≡ Some (map_at contents (map_number plan.objects place))
  map_there place object at kind =
      let m = map_number plan.objects place in
      let many = length-replicate (count_by (λ object. is_map object.kind) plan.objects) (empty {X = ℕ} {R = nat_cmp}) in
      let first = number_within (λ (o : ObjectLine). is_map o.kind) plan.objects place object at (ap is_map kind) in
      let within : m < length contents.maps = omega (arith, maps_long, many, first) in
      slice_get-get_or contents.maps m empty within

  -- the keys have numbers of their own, and a map by name has what the map has
  module _ (numbered : (m key value : ℕ) → value_at contents m key ≡ Some value → key_number keys (key_name keys key) ≡ key)
      (has_names : (m key : ℕ) → key_number keys (key_name keys key) ≡ key → get (named keys (map_at contents m)) (key_name keys key) ≡ value_at contents m key)
      (no_name : (m : ℕ) (word : List ℕ) → key_name keys (key_number keys word) ≢ word → get (named keys (map_at contents m)) word ≡ None) where
    pub shows_pair : (place key value : ℕ) (object : ObjectLine) → slice_get plan.objects place ≡ Some object → object.kind ≡ kinds.Map → value_at contents (map_number plan.objects place) key ≡ Some value
        → Contains (ends_in plan contents) (ends.Pair place key value)
    shows_pair place key value object at kind has =
        let m = map_number plan.objects place in
        let own : FinMap by_bytes ℕ = named keys (map_at contents m) in
        let number = numbered m key value has in
        let entry = has_entry (entries own) (key_name keys key) value (sym (get-entries own (key_name keys key)) ∙ has_names m key number ∙ has) in
        let placed : slice_get (places_from 0 is_map plan.objects) m ≡ Some place = place_at is_map 0 plan.objects place object at (ap is_map kind) ∙ ap Some (zero_on place) in
        let maps : List (FinMap by_bytes ℕ) = map (named keys) contents.maps in
        let there : slice_get maps m ≡ Some own = slice_get-map (named keys) contents.maps m ∙ ap (option_map (named keys)) (map_there place object at kind) in
        let held : ℕ × FinMap by_bytes ℕ = (place, own) in
        let pairs : Contains (pair_ends (key_number keys) held) (ends.Pair place key value) =
        has_place (pair_ends (key_number keys) held) entry.0 (ends.Pair place key value)
        (slice_get-map (λ (e : List ℕ × ℕ). ends.Pair place (key_number keys e.0) e.1) (entries own) entry.0
        ∙ ap (option_map (λ (e : List ℕ × ℕ). ends.Pair place (key_number keys e.0) e.1)) entry.1
        ∙ ap (λ n. Some (ends.Pair place n value)) number) in
        Contains-append_right (map number_end held_numbers) (flat_map (pair_ends (key_number keys)) held_maps) (ends.Pair place key value)
        (into_flat (pair_ends (key_number keys)) held_maps m held (ends.Pair place key value) (get_zip (places_from 0 is_map plan.objects) maps m place own placed there) pairs)

    -- a pair that is shown is one of a map
    shown_pair : (m value : ℕ) (word : List ℕ) → get (named keys (map_at contents m)) word ≡ Some value → value_at contents m (key_number keys word) ≡ Some value
    shown_pair m value word has = by_test (bytes_eq (key_name keys (key_number keys word)) word) refl
      where
        by_test : (b : Bool) → bytes_eq (key_name keys (key_number keys word)) word ≡ b → value_at contents m (key_number keys word) ≡ Some value
        by_test true same =
            let name = (bytes_eq-Decides (key_name keys (key_number keys word)) word).0 same in
            sym (has_names m (key_number keys word) (ap (key_number keys) name)) ∙ ap (get (named keys (map_at contents m))) name ∙ has
        by_test false apart =
            absurd (none-some value (sym (no_name m word (λ name. false≢true (sym apart ∙ (bytes_eq-Decides (key_name keys (key_number keys word)) word).1 name))) ∙ has))

    pub only_pair : (place key value : ℕ) → Contains (ends_in plan contents) (ends.Pair place key value)
        → (object : ObjectLine) × (slice_get plan.objects place ≡ Some object) × (object.kind ≡ kinds.Map) × (value_at contents (map_number plan.objects place) key ≡ Some value)
    only_pair place key value has = elim (Contains-append_cases (map number_end held_numbers) (flat_map (pair_ends (key_number keys)) held_maps) (ends.Pair place key value) has) [
      | inl number ↦ (let at = place_of (map number_end held_numbers) (ends.Pair place key value) number in let it = from_map number_end held_numbers at.0 (ends.Pair place key value) at.1 in let is = it.2 in absurd cc)
      | inr pair ↦ by_pair (from_flat (pair_ends (key_number keys)) held_maps (ends.Pair place key value) pair)
    ]
      where
        by_pair : (i : ℕ) × (held : ℕ × FinMap by_bytes ℕ) × (slice_get held_maps i ≡ Some held) × Contains (pair_ends (key_number keys) held) (ends.Pair place key value)
            → (object : ObjectLine) × (slice_get plan.objects place ≡ Some object) × (object.kind ≡ kinds.Map) × (value_at contents (map_number plan.objects place) key ≡ Some value)
        by_pair (i, held, at, pairs) =
            let entry_at = place_of (pair_ends (key_number keys) held) (ends.Pair place key value) pairs in
            let entry = from_map (λ (e : List ℕ × ℕ). ends.Pair held.0 (key_number keys e.0) e.1) (entries held.1) entry_at.0 (ends.Pair place key value) entry_at.1 in
            let same = pair_is held.0 place (key_number keys entry.0.0) key entry.0.1 value entry.2 in
            let both = from_zip (places_from 0 is_map plan.objects) (map (named keys) contents.maps) i held at in
            let own = from_map (named keys) contents.maps i held.1 both.1 in
            let it = place_is is_map 0 plan.objects i held.0 both.0 in
            let here : it.i ≡ place = sym (it.place ∙ zero_on it.i) ∙ same.0 in
            let number : map_number plan.objects place ≡ i = ap (map_number plan.objects) (sym here) ∙ it.number in
            let map_is : named keys (map_at contents i) ≡ held.1 = ap (named keys) (get_or_from_slice_get contents.maps i own.0 empty own.1) ∙ own.2 in
            let got : get (named keys (map_at contents i)) entry.0.0 ≡ Some entry.0.1 =
            ap (λ (m : FinMap by_bytes ℕ). get m entry.0.0) map_is ∙ get-entries held.1 entry.0.0 ∙ found_at (entries held.1) entry_at.0 entry.0 (entries_sorted held.1) entry.1 in (
              it.object,
              ap (slice_get plan.objects) (sym here) ∙ it.at,
              is_a_map it.object.kind it.such,
              ap (λ n. value_at contents n key) number ∙ ap (value_at contents i) (sym same.1) ∙ shown_pair i entry.0.1 entry.0.0 got ∙ ap Some same.2,
            )

  -- a number that is shown is that of an atomic
  pub only_number : (place : ℕ) (number : Number) → Contains (ends_in plan contents) (ends.Number place number)
      → (object : ObjectLine) × (type : AtomicKind) × (slice_get plan.objects place ≡ Some object) × (object.kind ≡ kinds.Atomic type) × (number ≡ number_at contents (atomic_number plan.objects place))
  only_number place number has = elim (Contains-append_cases (map number_end held_numbers) (flat_map (pair_ends (key_number keys)) held_maps) (ends.Number place number) has) [
    | inl first ↦ by_number (place_of (map number_end held_numbers) (ends.Number place number) first)
    | inr pair ↦ (let held = from_flat (pair_ends (key_number keys)) held_maps (ends.Number place number) pair in let at = place_of (pair_ends (key_number keys) held.1) (ends.Number place number) held.3 in
        let it = from_map (λ (e : List ℕ × ℕ). ends.Pair held.1.0 (key_number keys e.0) e.1) (entries held.1.1) at.0 (ends.Number place number) at.1 in let is = it.2 in absurd cc)
  ]
    where
      by_number : (i : ℕ) × (slice_get (map number_end held_numbers) i ≡ Some (ends.Number place number))
          → (object : ObjectLine) × (type : AtomicKind) × (slice_get plan.objects place ≡ Some object) × (object.kind ≡ kinds.Atomic type) × (number ≡ number_at contents (atomic_number plan.objects place))
      by_number (i, at) =
          let it = from_map number_end held_numbers i (ends.Number place number) at in
          let same = number_is it.0.0 place it.0.1 number it.2 in
          let both = from_zip (places_from 0 is_atomic plan.objects) contents.numbers i it.0 it.1 in
          let found = place_is is_atomic 0 plan.objects i it.0.0 both.0 in
          let here : found.i ≡ place = sym (found.place ∙ zero_on found.i) ∙ same.0 in
          let a : atomic_number plan.objects place ≡ i = ap (atomic_number plan.objects) (sym here) ∙ found.number in
          let type = is_an_atomic found.object.kind found.such in (
            found.object,
            type.0,
            ap (slice_get plan.objects) (sym here) ∙ found.at,
            type.1,
            sym same.1 ∙ sym (get_or_from_slice_get contents.numbers i it.0.1 (Truth false) both.1) ∙ ap (number_at contents) (sym a),
          )

-- the same of a run that is done
module _ (plan : Plan) (left : Report) (r : Record) (explains : Explains plan (Done left) r) where
  pub shown_in : (end : End) → Contains (ends_in plan (contents_after (contents_of plan) r.history)) end → Contains left.ends end
  shown_in end has = subst (λ (es : List End). Contains es end) (sym explains.agrees.1) has

  pub in_ends : (end : End) → Contains left.ends end → Contains (ends_in plan (contents_after (contents_of plan) r.history)) end
  in_ends end has = subst (λ (es : List End). Contains es end) explains.agrees.1 has

module _ (plan : Plan) (r : Record) (left : Report) (explains : Explains plan (Done left) r) where
  -- a key that a map has is found by its name
  pub numbered_by : ((plan : Plan) (r : Record) (outcome : Outcome) (m key value : ℕ) → Explains plan outcome r → value_at (contents_after (contents_of plan) r.history) m key ≡ Some value → key < length (keys_in plan.scripts))
      → ((scripts : List (List Call)) (name : List ℕ) (number : ℕ) → number_in (keys_in scripts) name ≡ Some number ↔ slice_get (keys_in scripts) number ≡ Some name)
      → (m key value : ℕ) → value_at (contents_after (contents_of plan) r.history) m key ≡ Some value → key_number (keys_in plan.scripts) (key_name (keys_in plan.scripts) key) ≡ key
  numbered_by within numbers m key value has =
      let below = within plan r (Done left) m key value explains has in
      ap (λ (o : Option ℕ). option_map_or (λ n. n) o 0) ((numbers plan.scripts (key_name (keys_in plan.scripts) key) key).1 (slice_get-get_or (keys_in plan.scripts) key [] below))

  module _ (numbered : (m key value : ℕ) → value_at (contents_after (contents_of plan) r.history) m key ≡ Some value → key_number (keys_in plan.scripts) (key_name (keys_in plan.scripts) key) ≡ key) where
    pub named_by : ((name : ℕ → List ℕ) (number : List ℕ → ℕ) (m : FinMap nat_cmp ℕ) → ((key value : ℕ) → get m key ≡ Some value → number (name key) ≡ key) → (key : ℕ) → number (name key) ≡ key → get (by_name name m) (name key) ≡ get m key)
        → (m key : ℕ) → key_number (keys_in plan.scripts) (key_name (keys_in plan.scripts) key) ≡ key
        → get (named (keys_in plan.scripts) (map_at (contents_after (contents_of plan) r.history) m)) (key_name (keys_in plan.scripts) key) ≡ value_at (contents_after (contents_of plan) r.history) m key
    named_by law m key is = law (key_name (keys_in plan.scripts)) (key_number (keys_in plan.scripts)) (map_at (contents_after (contents_of plan) r.history) m) (numbered m) key is

    pub unnamed_by : ((name : ℕ → List ℕ) (number : List ℕ → ℕ) (m : FinMap nat_cmp ℕ) → ((key value : ℕ) → get m key ≡ Some value → number (name key) ≡ key) → (word : List ℕ) → name (number word) ≢ word → get (by_name name m) word ≡ None)
        → (m : ℕ) (word : List ℕ) → key_name (keys_in plan.scripts) (key_number (keys_in plan.scripts) word) ≢ word
        → get (named (keys_in plan.scripts) (map_at (contents_after (contents_of plan) r.history) m)) word ≡ None
    unnamed_by law m word other = law (key_name (keys_in plan.scripts)) (key_number (keys_in plan.scripts)) (map_at (contents_after (contents_of plan) r.history) m) (numbered m) word other
