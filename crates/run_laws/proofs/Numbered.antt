-- The numbers of maps and atomics among the objects.
use Rattle.std.proofs.Common.{◌≡◌, inl, inr, ℕ, zero, suc, ◌+◌, ◌<◌, Bool, true, cond, List, [], ◌∷◌, ◌++◌, take, Option, Some, slice_get, ap, ◌∙◌, arith}
use Rattle.std.specs.Prelude.{unwrap_or, count_by}
use Rattle.std.specs.List.{flat_map}
use Rattle.std.proofs.lemmas.Bool.{cases_order}
use Rattle.std.proofs.lemmas.List.Sums.{sum_by-cons}
use Rattle.std.proofs.lemmas.Option.{none-some}
use Rattle.sync_types.specs.declared.atomic_object.AtomicKind.{AtomicKind}
use Rattle.workload.specs.declared.object.ObjectKind.{ObjectKind}
use Rattle.workload.specs.declared.object.ObjectKind.TheVariants as kinds
use Rattle.workload.specs.declared.object.ObjectLine.{ObjectLine}
use Rattle.run_record.specs.Objects.{is_atomic, types_of, atomic_number}

module _ {A : Type 0} (is : A → Bool) where
  -- how many are such before a place
  abbrev pub count_before : List A → ℕ → ℕ
  count_before xs place = count_by is (take place xs)

  counted : (x : A) → is x ≡ true → ◌≡◌ {A = ℕ} (cond (is x) 1 0) 1
  counted x such = ap (λ (b : Bool). cond {A = ℕ} b 1 0) such

  -- such a one at a place counts for each later place
  counts_on : (xs : List A) (i j : ℕ) (x : A) → slice_get xs i ≡ Some x → is x ≡ true → i < j → count_before xs i < count_before xs j
  counts_on [] i j x at such before = absurd (none-some x at)
  counts_on (y ∷ xs) i zero x at such before = absurd (omega (arith, before))
  counts_on (y ∷ xs) zero (suc j) x at such before = let here = counted y (ap is (ap (λ (o : Option A). unwrap_or o y) at) ∙ such) in omega (arith, sum_by-cons (λ z. cond (is z) 1 0) y (take j xs), here)
  counts_on (y ∷ xs) (suc i) (suc j) x at such before =
      let on = counts_on xs i j x at such (omega (arith, before)) in omega (arith, sum_by-cons (λ z. cond (is z) 1 0) y (take i xs), sum_by-cons (λ z. cond (is z) 1 0) y (take j xs), on)

  -- so no two of them have one number
  pub numbers_apart : (xs : List A) (i j : ℕ) (x y : A) → slice_get xs i ≡ Some x → slice_get xs j ≡ Some y → is x ≡ true → is y ≡ true → (i ≡ j → ⊥) → count_before xs i ≡ count_before xs j → ⊥
  numbers_apart xs i j x y at_x at_y such other apart same = elim (cases_order i j) [
    | inl e ↦ apart e
    | inr unequal ↦ elim unequal [
      | inl below ↦ let on = counts_on xs i j x at_x such below in omega (arith, on, same)
      | inr above ↦ let on = counts_on xs j i y at_y other above in omega (arith, on, same)
    ]
  ]

  -- and each number is one of theirs
  pub number_within : (xs : List A) (i : ℕ) (x : A) → slice_get xs i ≡ Some x → is x ≡ true → count_before xs i < count_by is xs
  number_within [] i x at such = absurd (none-some x at)
  number_within (y ∷ xs) zero x at such = let here = counted y (ap is (ap (λ (o : Option A). unwrap_or o y) at) ∙ such) in omega (arith, sum_by-cons (λ z. cond (is z) 1 0) y xs, here)
  number_within (y ∷ xs) (suc i) x at such = let on = number_within xs i x at such in omega (arith, sum_by-cons (λ z. cond (is z) 1 0) y (take i xs), sum_by-cons (λ z. cond (is z) 1 0) y xs, on)

-- the type of an atomic is the one of its number
pub type_at : (objects : List ObjectLine) (place : ℕ) (object : ObjectLine) (type : AtomicKind) → slice_get objects place ≡ Some object → object.kind ≡ kinds.Atomic type
    → slice_get (flat_map (λ o. types_of o.kind) objects) (atomic_number objects place) ≡ Some type
type_at [] place object type at kind = absurd (none-some object at)
type_at (y ∷ objects) zero object type at kind = first y.kind (ap (λ (o : Option ObjectLine). (unwrap_or o y).kind) at ∙ kind) where
  first : (k : ObjectKind) → k ≡ kinds.Atomic type → slice_get (types_of k ++ flat_map (λ o. types_of o.kind) objects) 0 ≡ Some type
  first k is = ap (λ (k : ObjectKind). slice_get (types_of k ++ flat_map (λ o. types_of o.kind) objects) 0) is
type_at (y ∷ objects) (suc i) object type at kind = ap (λ n. slice_get (types_of y.kind ++ flat_map (λ o. types_of o.kind) objects) n) (sum_by-cons (λ o. cond (is_atomic o.kind) 1 0) y (take i objects)) ∙ behind y.kind (type_at objects i object type at kind) where
  behind : (k : ObjectKind) → slice_get (flat_map (λ o. types_of o.kind) objects) (atomic_number objects i) ≡ Some type
      → slice_get (types_of k ++ flat_map (λ o. types_of o.kind) objects) (cond (is_atomic k) 1 0 + atomic_number objects i) ≡ Some type
  behind (kinds.Atomic other) is = let e : 1 + atomic_number objects i ≡ suc (atomic_number objects i) = omega arith in ap (λ n. slice_get (other ∷ flat_map (λ o. types_of o.kind) objects) n) e ∙ is
  behind k is = let e : 0 + atomic_number objects i ≡ atomic_number objects i = omega arith in ap (λ n. slice_get (flat_map (λ o. types_of o.kind) objects) n) e ∙ is
