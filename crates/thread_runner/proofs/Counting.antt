-- What a workload's objects and scripts come to, one at a time.
use Rattle.std.proofs.Common.{◌≡◌, ℕ, zero, suc, ◌+◌, ◌<◌, ◌≤◌, Bool, true, false, ◌&&◌, not, cond, List, [], ◌∷◌, ◌++◌, take, Some, slice_get, refl, sym, ap, ◌∙◌, subst, arith, append_assoc, ◌⊎◌, inl, inr}
use Rattle.std.specs.Prelude.{nat_lt, is_some, count_by}
use Rattle.std.proofs.lemmas.Bool.{and_parts, ltb-true}
use Rattle.std.proofs.lemmas.List.{append-nil}
use Rattle.std.proofs.lemmas.List.Sums.{sum_by-append}
use Rattle.std.proofs.lemmas.Option.{none-some}
use Rattle.sync_types.specs.Name.{is_name}
use Rattle.workload.specs.declared.object.ObjectKind.{ObjectKind}
use Rattle.workload.specs.declared.object.ObjectKind.TheVariants as kinds
use Rattle.workload.specs.declared.object.ObjectLine.{ObjectLine}
use Rattle.workload.specs.declared.object.ObjectWord.TheVariants as words
use Rattle.workload.specs.Draft.{count_of, count_together, limit_of, is_kind, declared_from}
use Rattle.workload.specs.Plan.{word_of, refers}
use Rattle.workload.specs.Readable.{may_join, may_declare}
use Rattle.run_record.specs.Objects.{is_map, places_from}
use Rattle.thread_runner.proofs.ItemLists.{first_is}

-- the places with one object more
pub places_next : (from : ℕ) (is : ObjectKind → Bool) (xs : List ObjectLine) (i : ℕ) (x : ObjectLine) → slice_get xs i ≡ Some x → places_from from is (take (suc i) xs) ≡ places_from from is (take i xs) ++ cond (is x.kind) ((from + i) ∷ []) []
places_next from is [] i x at = absurd (none-some x at)
places_next from is (y ∷ xs) zero x at =
    ap (λ (n : ℕ). cond (is y.kind) (n ∷ []) []) (let e : from ≡ from + 0 = omega arith in e) ∙ ap (λ (o : ObjectLine). cond (is o.kind) ((from + 0) ∷ []) []) (first_is y x xs at)
places_next from is (y ∷ xs) (suc i) x at =
    let last : List ℕ = cond (is x.kind) ((from + suc i) ∷ []) [] in
    let rest = places_next (from + 1) is xs i x at ∙ ap (λ (n : ℕ). places_from (from + 1) is (take i xs) ++ cond (is x.kind) (n ∷ []) []) (let e : from + 1 + i ≡ from + suc i = omega arith in e) in
    elim (is y.kind) as (λ b. cond b (from ∷ places_from (from + 1) is (take (suc i) xs)) (places_from (from + 1) is (take (suc i) xs)) ≡ cond b (from ∷ places_from (from + 1) is (take i xs)) (places_from (from + 1) is (take i xs)) ++ last) [
      | true ↦ ap (λ (l : List ℕ). from ∷ l) rest
      | false ↦ rest
    ]

pub more_places : (is : ObjectKind → Bool) (xs : List ObjectLine) (i : ℕ) (x : ObjectLine) → slice_get xs i ≡ Some x → places_from 0 is (take (i + 1) xs) ≡ places_from 0 is (take i xs) ++ cond (is x.kind) (i ∷ []) []
more_places is xs i x at =
    ap (λ (n : ℕ). places_from 0 is (take n xs)) (let e : i + 1 ≡ suc i = omega arith in e) ∙ places_next 0 is xs i x at
    ∙ ap (λ (n : ℕ). places_from 0 is (take i xs) ++ cond (is x.kind) (n ∷ []) []) (let e : 0 + i ≡ i = omega arith in e)

-- ---- a workload that was read declares few maps

abbrev pub maps_in : List ObjectLine → ℕ
maps_in objects = count_by (λ object. is_map object.kind) objects

map_word : (kind : ObjectKind) → count_together words.Map (word_of kind) ≡ is_map kind
map_word kind = elim kind as (λ k. count_together words.Map (word_of k) ≡ is_map k) [ kinds.Map ↦ refl | _ ↦ refl ]

same_maps : (objects : List ObjectLine) → count_of words.Map objects ≡ maps_in objects
same_maps [] = refl
same_maps (o ∷ os) = let one : ◌≡◌ {A = ℕ} (cond (count_together words.Map (word_of o.kind)) 1 0) (cond (is_map o.kind) 1 0) = ap (λ (b : Bool). cond {A = ℕ} b 1 0) (map_word o.kind) in
    omega (arith, same_maps os, one, sum_by-append (λ (x : ObjectLine). cond {A = ℕ} (count_together words.Map (word_of x.kind)) 1 0) (o ∷ []) os, sum_by-append (λ (x : ObjectLine). cond {A = ℕ} (is_map x.kind) 1 0) (o ∷ []) os)

map_room : (others : List ObjectLine) (o : ObjectLine) → o.kind ≡ kinds.Map → may_join others o ≡ true → maps_in others < 16
map_room others o map joins =
    let room = nat_lt (count_of (word_of o.kind) others) (limit_of (word_of o.kind)) in
    let new = not (is_some (declared_from 0 o.name others)) in
    let behind = and_parts (refers others o.kind) (is_kind o.kind && room) (and_parts new (refers others o.kind && (is_kind o.kind && room)) (and_parts (is_name o.name) (new && (refers others o.kind && (is_kind o.kind && room))) joins).1).1 in
    let within : count_of (word_of o.kind) others < limit_of (word_of o.kind) = ltb-true (count_of (word_of o.kind) others) (limit_of (word_of o.kind)) (and_parts (is_kind o.kind) room behind.1).1 in
    let few : count_of words.Map others < 16 = subst (λ (k : ObjectKind). count_of (word_of k) others < limit_of (word_of k)) map within in
    omega (arith, few, same_maps others)

map_or_not : (kind : ObjectKind) → (kind ≡ kinds.Map) ⊎ (is_map kind ≡ false)
map_or_not kinds.Map = inl refl
map_or_not kind = inr refl

one_more : (others : List ObjectLine) (o : ObjectLine) → may_join others o ≡ true → maps_in others ≤ 16 → maps_in (others ++ o ∷ []) ≤ 16
one_more others o joins few =
    let grown = sum_by-append (λ (x : ObjectLine). cond {A = ℕ} (is_map x.kind) 1 0) others (o ∷ []) in
    elim (map_or_not o.kind) as (λ side. maps_in (others ++ o ∷ []) ≤ 16) [
      | inl map ↦ let one : ◌≡◌ {A = ℕ} (cond (is_map o.kind) 1 0) 1 = ap (λ (k : ObjectKind). cond {A = ℕ} (is_map k) 1 0) map in omega (arith, grown, one, map_room others o map joins)
      | inr not_map ↦ let none : ◌≡◌ {A = ℕ} (cond (is_map o.kind) 1 0) 0 = ap (λ (b : Bool). cond {A = ℕ} b 1 0) not_map in omega (arith, grown, none, few)
    ]

pub few_maps : (os others : List ObjectLine) → maps_in others ≤ 16 → may_declare others os ≡ true → maps_in (others ++ os) ≤ 16
few_maps [] others few declares = subst (λ (x : List ObjectLine). maps_in x ≤ 16) (sym (append-nil others)) few
few_maps (o ∷ os) others few declares =
    let parts = and_parts (may_join others o) (may_declare (others ++ o ∷ []) os) declares in
    subst (λ (x : List ObjectLine). maps_in x ≤ 16) (append_assoc others (o ∷ []) os) (few_maps os (others ++ o ∷ []) (one_more others o parts.0 few) parts.1)
