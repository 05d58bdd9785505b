-- Which object has a number, and what its journal follows.
use Rattle.std.proofs.Common.{◌≡◌, ◌⊎◌, inl, inr, ℕ, zero, suc, ◌+◌, ◌-◌, ◌*◌, ◌<◌, ◌≤◌, Bool, true, false, cond, List, [], ◌∷◌, length, take, get_or, slice_get, codes, Some, refl, sym, ap, ◌∙◌, subst, arith}
use Rattle.std.specs.Prelude.{nat_lt}
use Rattle.std.proofs.lemmas.Bool.{ltb-false, ltb-true}
use Rattle.workload.specs.declared.object.ObjectKind.{ObjectKind}
use Rattle.workload.specs.declared.object.ObjectKind.TheVariants as object_kinds
use Rattle.workload.specs.declared.object.ObjectLine.{ObjectLine}
use Rattle.workload.specs.Plan.{Plan, has_dormant}
use Rattle.workload.specs.Puts.{puts_at}
use Rattle.run_record.specs.Calls.{IsJournalOf}
use Rattle.run_record.specs.Explains.{IsRecordOf}
use Rattle.run_record.specs.Objects.{first_part, is_pool, object_count, starts_number}
use Rattle.run_record.specs.PoolKind.{IsPartJournal}
use Rattle.run_record.specs.Record.{ObjectEntry, Record, journal_of, object_number}
use Rattle.run_record.specs.StartsKind.{IsStartsJournal}
use Rattle.record_text.specs.declared.event.JournalKind.TheVariants as kinds
use Rattle.record_text.specs.Journals.{named_in, named_object, named_part}
use Rattle.record_text.proofs.ObjectNumbers.{declared_at, parts_at, pools_cons, pools_in, starts_at, times}

pool_or : (kind : ObjectKind) → (kind ≡ object_kinds.Pool) ⊎ (is_pool kind ≡ false)
pool_or object_kinds.Pool = inl refl
pool_or kind = inr refl

-- a number among those of the parts of some pools is that of one part
record IsPartAt (workers : ℕ) (objects : List ObjectLine) (k : ℕ) : Type 0 where
  place : ℕ
  part : ℕ
  object : ObjectLine
  at : slice_get objects place ≡ Some object
  pool : object.kind ≡ object_kinds.Pool
  below : part < workers
  number : k ≡ pools_in (take place objects) * workers + part

-- behind one object more
later : (workers : ℕ) (first : ObjectLine) (objects : List ObjectLine) (k rest : ℕ) → k ≡ cond (is_pool first.kind) 1 0 * workers + rest → IsPartAt workers objects rest → IsPartAt workers (first ∷ objects) k
later workers first objects k rest same at = record {
  place = suc at.place;
  part = at.part;
  object = at.object;
  at = at.at;
  pool = at.pool;
  below = at.below;
  number =
      let count = ap (λ (n : ℕ). n * workers) (pools_cons first (take at.place objects)) ∙ times (cond (is_pool first.kind) 1 0) (pools_in (take at.place objects)) workers in
      let number = at.number in
      omega (arith, same, count, number);
}

-- each number among those of the parts is that of one
abbrev PartsAt : ℕ → List ObjectLine → Type 0
PartsAt workers objects = (k : ℕ) → k < pools_in objects * workers → IsPartAt workers objects k

part_of : (workers : ℕ) (objects : List ObjectLine) (k : ℕ) → k < pools_in objects * workers → IsPartAt workers objects k
part_of workers [] k low = absurd (let none : 0 * workers ≡ 0 = omega arith in omega (arith, low, none))
part_of workers (first ∷ objects) k low = by (λ rest less. part_of workers objects rest less) (pool_or first.kind) where
  count : pools_in (first ∷ objects) * workers ≡ cond (is_pool first.kind) 1 0 * workers + pools_in objects * workers
  count = ap (λ (n : ℕ). n * workers) (pools_cons first objects) ∙ times (cond (is_pool first.kind) 1 0) (pools_in objects) workers

  by : PartsAt workers objects → (first.kind ≡ object_kinds.Pool) ⊎ (is_pool first.kind ≡ false) → IsPartAt workers (first ∷ objects) k
  by on (inr other) =
      let one : cond (is_pool first.kind) 1 0 * workers ≡ 0 = ap (λ b. cond b 1 0 * workers) other ∙ (let none : 0 * workers ≡ 0 = omega arith in none) in
      later workers first objects k k (omega (arith, one)) (on k (omega (arith, low, count, one)))
  by on (inl pool) =
      let one : cond (is_pool first.kind) 1 0 * workers ≡ workers = ap (λ (kind : ObjectKind). cond (is_pool kind) 1 0 * workers) pool ∙ (let all : 1 * workers ≡ workers = omega arith in all) in
      first_or on (nat_lt k workers) refl one pool
    where
      first_or : PartsAt workers objects → (b : Bool) → nat_lt k workers ≡ b → cond (is_pool first.kind) 1 0 * workers ≡ workers → first.kind ≡ object_kinds.Pool → IsPartAt workers (first ∷ objects) k
      first_or on true below one pool = record { place = 0; part = k; object = first; at = refl; pool = pool; below = ltb-true k workers below; number = omega arith }
      first_or on false past one pool =
          let high = ltb-false k workers past in
          later workers first objects k (k - workers) (omega (arith, one, high)) (on (k - workers) (omega (arith, low, count, one, high)))

-- the object with a number, and the law of its journal
pub data IsObject (plan : Plan) (r : Record) (object : ℕ) : Type 0 where
  is_stop : object ≡ 0 → IsObject plan r object
  is_declared : (place : ℕ) (line : ObjectLine) → slice_get plan.objects place ≡ Some line → slice_get (named_in plan) object ≡ Some (named_object line) → IsJournalOf plan place line.kind (journal_of r object) → IsObject plan r object
  is_part : (place part : ℕ) (line : ObjectLine) → slice_get plan.objects place ≡ Some line → line.kind ≡ object_kinds.Pool → part < plan.workers → object ≡ first_part plan place + part → slice_get (named_in plan) object ≡ Some (named_part line part)
      → IsPartJournal (puts_at place plan.scripts) (journal_of r object) → IsObject plan r object
  is_starts : slice_get (named_in plan) object ≡ Some (record { word = codes "!starts"; kind = kinds.Starts }) → IsStartsJournal plan.dormant (journal_of r object) → IsObject plan r object

pub there_is : {A : Type 0} (xs : List A) (i : ℕ) → i < length xs → (x : A) × (slice_get xs i ≡ Some x)
there_is [] i low = absurd (omega (arith, low))
there_is (x ∷ xs) zero low = (x, refl)
there_is (x ∷ xs) (suc i) low = there_is xs i (omega (arith, low))

-- an entry is in the journal of an object that there is
within : (journals : List (List ObjectEntry)) (object number : ℕ) (entry : ObjectEntry) → slice_get (get_or journals object []) number ≡ Some entry → object < length journals
within [] object number entry at = absurd cc
within (journal ∷ journals) zero number entry at = omega arith
within (journal ∷ journals) (suc object) number entry at = let rest = within journals object number entry at in omega (arith, rest)

module _ (plan : Plan) (r : Record) (is : IsRecordOf plan r) where
  -- behind the declared objects
  a_part : (k object : ℕ) → object ≡ object_number (length plan.objects) + k → k < pools_in plan.objects * plan.workers → IsObject plan r object
  a_part k object same low =
      let at = part_of plan.workers plan.objects k low in
      let number = at.number in
      let number_is : object ≡ first_part plan at.place + at.part = omega (arith, same, number) in
      is_part at.place at.part at.object at.at at.pool at.below number_is
      (ap (slice_get (named_in plan)) number_is ∙ parts_at plan at.place at.part at.object at.at at.pool at.below)
      (subst (λ (n : ℕ). IsPartJournal (puts_at at.place plan.scripts) (journal_of r n)) (sym number_is) (is.parts at.place at.part at.object at.at at.pool at.below))

  starts_or : (object : ℕ) → object < object_count plan → starts_number plan ≤ object → IsObject plan r object
  starts_or object low high = by (has_dormant plan) refl where
    by : (b : Bool) → has_dormant plan ≡ b → IsObject plan r object
    by false none = absurd (let count = ap (λ b. starts_number plan + cond b 1 0) none in omega (arith, low, high, count))
    by true some =
        let count = ap (λ b. starts_number plan + cond b 1 0) some in
        let same : object ≡ starts_number plan = omega (arith, low, high, count) in
        is_starts (ap (slice_get (named_in plan)) same ∙ starts_at plan) (subst (λ (n : ℕ). IsStartsJournal plan.dormant (journal_of r n)) (sym same) (is.starts some))

  beyond : (object : ℕ) → object < object_count plan → object_number (length plan.objects) ≤ object → IsObject plan r object
  beyond object low high = by (nat_lt object (starts_number plan)) refl where
    by : (b : Bool) → nat_lt object (starts_number plan) ≡ b → IsObject plan r object
    by true below = let less = ltb-true object (starts_number plan) below in a_part (object - object_number (length plan.objects)) object (omega (arith, high)) (omega (arith, high, less))
    by false past = starts_or object low (ltb-false object (starts_number plan) past)

  object_at : (object : ℕ) → object < object_count plan → IsObject plan r object
  object_at zero low = is_stop refl
  object_at (suc place) low = by (nat_lt place (length plan.objects)) refl where
    by : (b : Bool) → nat_lt place (length plan.objects) ≡ b → IsObject plan r (suc place)
    by true below =
        let (line, at) = there_is plan.objects place (ltb-true place (length plan.objects) below) in
        let number : suc place ≡ object_number place = omega arith in
        is_declared place line at (ap (slice_get (named_in plan)) number ∙ declared_at plan place line at) (subst (λ (n : ℕ). IsJournalOf plan place line.kind (journal_of r n)) (sym number) (is.journals place line at))
    by false past = let high = ltb-false place (length plan.objects) past in beyond (suc place) low (omega (arith, high))

  pub object_of : (object number : ℕ) (entry : ObjectEntry) → slice_get (journal_of r object) number ≡ Some entry → IsObject plan r object
  object_of object number entry at = let low = within r.journals object number entry at in let count = is.objects in object_at object (omega (arith, low, count))
