-- How many maps, atomics and pools a workload declares before a place.
use Rattle.std.proofs.Common.{◌≡◌, ℕ, ◌+◌, ◌<◌, ◌≤◌, Bool, true, false, ◌&&◌, not, cond, List, [], ◌∷◌, ◌++◌, length, take, Some, slice_get, slice_index, refl, sym, ap, ◌∙◌, subst, inl, inr, arith, append_assoc}
use Rattle.std.specs.Prelude.{nat_lt, is_some, count_by}
use Rattle.std.proofs.lemmas.Bool.{and_parts, cases_lt, ltb-true}
use Rattle.std.proofs.lemmas.List.{append-nil, get_or_append_left, get_or_at}
use Rattle.std.proofs.lemmas.List.Sums.{sum_by-append, sum_by-take-le, count_by_more_yes, count_by_more_no}
use Rattle.std.proofs.lemmas.Option.{slice_get_within, get_or_from_slice_get, same_Some}
use Rattle.sync_types.specs.Name.{is_name}
use Rattle.workload.specs.declared.object.ObjectKind.{ObjectKind}
use Rattle.workload.specs.declared.object.ObjectKind.TheVariants as kinds
use Rattle.workload.specs.declared.object.ObjectLine.{ObjectLine}
use Rattle.workload.specs.declared.object.ObjectWord.TheVariants as words
use Rattle.workload.specs.Draft.{count_of, count_together, limit_of, is_kind, declared_from}
use Rattle.workload.specs.Plan.{word_of, refers}
use Rattle.workload.specs.Readable.{may_join, may_declare}
use Rattle.run_record.specs.Objects.{is_map, is_atomic, is_pool, map_number, atomic_number, pool_number}
use Rattle.thread_runner.specs.Sites.{kind_number, number_at}

-- an object that may be declared keeps the limit of its word
room_of : (others : List ObjectLine) (o : ObjectLine) → may_join others o ≡ true → count_of (word_of o.kind) others < limit_of (word_of o.kind)
room_of others o e =
    let room = nat_lt (count_of (word_of o.kind) others) (limit_of (word_of o.kind)) in
    let new = not (is_some (declared_from 0 o.name others)) in
    let reference = refers others o.kind in
    let behind_name = and_parts (is_name o.name) (new && (reference && (is_kind o.kind && room))) e in
    let behind_new = and_parts new (reference && (is_kind o.kind && room)) behind_name.1 in
    let behind_reference = and_parts reference (is_kind o.kind && room) behind_new.1 in
    ltb-true (count_of (word_of o.kind) others) (limit_of (word_of o.kind)) (and_parts (is_kind o.kind) room behind_reference.1).1

same_counts : (f g : ObjectLine → Bool) → ((o : ObjectLine) → f o ≡ g o) → (os : List ObjectLine) → count_by f os ≡ count_by g os
same_counts f g same [] = refl
same_counts f g same (o ∷ os) =
    let one : ◌≡◌ {A = ℕ} (cond (f o) 1 0) (cond (g o) 1 0) = ap (λ (b : Bool). cond b 1 0) (same o) in
    omega (arith, sum_by-append (λ (x : ObjectLine). cond (f x) 1 0) (o ∷ []) os, sum_by-append (λ (x : ObjectLine). cond (g x) 1 0) (o ∷ []) os, same_counts f g same os, one)

module _ (is : ObjectKind → Bool) where
  abbrev counted : List ObjectLine → ℕ
  counted objects = count_by (λ object. is object.kind) objects

  -- one more object is counted where it is one of them
  pub one_more : (objects : List ObjectLine) (i : ℕ) (object : ObjectLine) → slice_get objects i ≡ Some object → counted (take (i + 1) objects) ≡ counted (take i objects) + cond (is object.kind) 1 0
  one_more objects i object at =
      let within = slice_get_within objects i object at in
      let here = get_or_from_slice_get objects i object object at in
      elim (is object.kind) as (λ b. is object.kind ≡ b → counted (take (i + 1) objects) ≡ counted (take i objects) + cond b 1 0) [
        | true ↦ λ t. count_by_more_yes (λ (o : ObjectLine). is o.kind) objects i object within (ap (λ (o : ObjectLine). is o.kind) here ∙ t)
        | false ↦ λ f. omega (arith, count_by_more_no (λ (o : ObjectLine). is o.kind) objects i object within (ap (λ (o : ObjectLine). is o.kind) here ∙ f))
      ] refl

  module _ (fits : (kind : ObjectKind) (others : List ObjectLine) → is kind ≡ true → (count_of (word_of kind) others ≡ counted others) × (limit_of (word_of kind) ≤ 64)) where
    one_fits : (others : List ObjectLine) (o : ObjectLine) → may_join others o ≡ true → counted others ≤ 64 → counted (others ++ o ∷ []) ≤ 64
    one_fits others o joins few =
        let grown = sum_by-append (λ (x : ObjectLine). cond (is x.kind) 1 0) others (o ∷ []) in
        let room = room_of others o joins in
        elim (is o.kind) as (λ b. is o.kind ≡ b → counted (others ++ o ∷ []) ≤ 64) [
          | true ↦ λ t. let one = ap (λ (b : Bool). cond {A = ℕ} b 1 0) t in let fit = fits o.kind others t in omega (arith, grown, one, fit.0, fit.1, room)
          | false ↦ λ f. let none = ap (λ (b : Bool). cond {A = ℕ} b 1 0) f in omega (arith, grown, none, few)
        ] refl

    all_fit : (os others : List ObjectLine) → counted others ≤ 64 → may_declare others os ≡ true → counted (others ++ os) ≤ 64
    all_fit [] others few declares = subst (λ (x : List ObjectLine). counted x ≤ 64) (sym (append-nil others)) few
    all_fit (o ∷ os) others few declares =
        let parts = and_parts (may_join others o) (may_declare (others ++ o ∷ []) os) declares in
        subst (λ (x : List ObjectLine). counted x ≤ 64) (append_assoc others (o ∷ []) os) (all_fit os (others ++ o ∷ []) (one_fits others o parts.0 few) parts.1)

    few_before : (os : List ObjectLine) (i : ℕ) → may_declare [] os ≡ true → counted (take i os) ≤ 64
    few_before os i declares = omega (arith, sum_by-take-le (λ (x : ObjectLine). cond (is x.kind) 1 0) os i, all_fit os [] (omega arith) declares)

map_word : (o : ObjectLine) → count_together words.Map (word_of o.kind) ≡ is_map o.kind
map_word o = elim o.kind as (λ kind. count_together words.Map (word_of kind) ≡ is_map kind) [ kinds.Map ↦ refl | _ ↦ refl ]

maps_fit : (kind : ObjectKind) (others : List ObjectLine) → is_map kind ≡ true → (count_of (word_of kind) others ≡ counted is_map others) × (limit_of (word_of kind) ≤ 64)
maps_fit kinds.Map others is = (same_counts (λ o. count_together words.Map (word_of o.kind)) (λ o. is_map o.kind) map_word others, omega arith)
maps_fit kind others is = absurd cc

pub few_maps : (os : List ObjectLine) (i : ℕ) → may_declare [] os ≡ true → map_number os i ≤ 64
few_maps os i declares = few_before is_map maps_fit os i declares

atomic_word : (kind : ObjectKind) → is_atomic kind ≡ true → (o : ObjectLine) → count_together (word_of kind) (word_of o.kind) ≡ is_atomic o.kind
atomic_word (kinds.Atomic type) is o = elim o.kind as (λ other. count_together (words.Atomic type) (word_of other) ≡ is_atomic other) [ kinds.Atomic type ↦ refl | _ ↦ refl ]
atomic_word kind is o = absurd cc

atomic_limit : (kind : ObjectKind) → is_atomic kind ≡ true → limit_of (word_of kind) ≤ 64
atomic_limit (kinds.Atomic type) is = omega arith
atomic_limit kind is = absurd cc

pub few_atomics : (os : List ObjectLine) (i : ℕ) → may_declare [] os ≡ true → atomic_number os i ≤ 64
few_atomics os i declares = few_before is_atomic (λ kind others is. (same_counts (λ o. count_together (word_of kind) (word_of o.kind)) (λ o. is_atomic o.kind) (atomic_word kind is) others, atomic_limit kind is)) os i declares

pool_word : (o : ObjectLine) → count_together words.Pool (word_of o.kind) ≡ is_pool o.kind
pool_word o = elim o.kind as (λ kind. count_together words.Pool (word_of kind) ≡ is_pool kind) [ kinds.Pool ↦ refl | _ ↦ refl ]

pools_fit : (kind : ObjectKind) (others : List ObjectLine) → is_pool kind ≡ true → (count_of (word_of kind) others ≡ counted is_pool others) × (limit_of (word_of kind) ≤ 64)
pools_fit kinds.Pool others is = (same_counts (λ o. count_together words.Pool (word_of o.kind)) (λ o. is_pool o.kind) pool_word others, omega arith)
pools_fit kind others is = absurd cc

pub few_pools : (os : List ObjectLine) (i : ℕ) → may_declare [] os ≡ true → pool_number os i ≤ 64
few_pools os i declares = few_before is_pool pools_fit os i declares

abbrev pub number_of : List ObjectLine → ℕ → ObjectLine → ℕ
number_of objects place object = number_at objects place object.kind

-- one more number at the end
pub numbered : (objects : List ObjectLine) (i : ℕ) (here : ObjectLine) (numbers : List ℕ) (n : ℕ) → slice_get objects i ≡ Some here → length numbers ≡ i → n ≡ number_of objects i here
    → ((place : ℕ) (object : ObjectLine) → place < i → slice_get objects place ≡ Some object → slice_index numbers place ≡ number_of objects place object)
    → (place : ℕ) (object : ObjectLine) → place < i + 1 → slice_get objects place ≡ Some object → slice_index (numbers ++ n ∷ []) place ≡ number_of objects place object
numbered objects i here numbers n at count is each place object below found =
    elim (cases_lt place i) as (λ side. slice_index (numbers ++ n ∷ []) place ≡ number_of objects place object) [
      | inl before ↦ get_or_append_left numbers (n ∷ []) 0 place (omega arith) ∙ each place object before found
      | inr behind ↦
          let last : place ≡ i = omega arith in
          let same : here ≡ object = same_Some here object (sym at ∙ ap (λ (k : ℕ). slice_get objects k) (sym last) ∙ found) in
          get_or_at numbers n [] 0 place (omega arith) ∙ is ∙ ap (λ (k : ℕ). number_of objects k here) (sym last) ∙ ap (λ (o : ObjectLine). number_of objects place o) same
    ]

-- the number of an object behind those that were counted
pub same_number : (objects : List ObjectLine) (i maps atomics pools : ℕ) (kind : ObjectKind) → maps ≡ map_number objects i → atomics ≡ atomic_number objects i → pools ≡ pool_number objects i → kind_number maps atomics pools kind ≡ number_at objects i kind
same_number objects i maps atomics pools kind m a p =
    ap (λ (n : ℕ). kind_number n atomics pools kind) m ∙ ap (λ (n : ℕ). kind_number (map_number objects i) n pools kind) a ∙ ap (λ (n : ℕ). kind_number (map_number objects i) (atomic_number objects i) n kind) p
