-- What a site says of the object at a place.
use Rattle.std.proofs.Common.{◌≡◌, ℕ, zero, suc, ◌+◌, ◌<◌, true, false, cond, List, [], ◌∷◌, ◌++◌, length, take, Option, Some, None, slice_get, slice_index, refl, sym, ap, ◌∙◌, subst, arith}
use Rattle.std.specs.List.{flat_map}
use Rattle.std.proofs.lemmas.List.Sums.{sum_by-append, sum_by-take-le}
use Rattle.std.proofs.lemmas.Option.{slice_get_within, same_Some, none-some}
use Rattle.sync_types.specs.declared.atomic_object.AtomicKind.{AtomicKind}
use Rattle.script_calls.specs.declared.call.Reply.{Reply}
use Rattle.sync_types.specs.declared.map_object.MapCall.{MapCall}
use Rattle.sync_types.specs.declared.map_object.MapCall.TheVariants.{Load, Store, LoadOrStore, LoadAndDelete, Delete, Swap, CompareAndSwap, CompareAndDelete, Clear}
use Rattle.sync_types.specs.Renaming.{renamed_call}
use Rattle.sync_model.specs.Shared.{cost_of}
use Rattle.protocols.specs.Spelling.{CallAnswer}
use Rattle.workload.specs.declared.object.ObjectKind.{ObjectKind}
use Rattle.workload.specs.declared.object.ObjectKind.TheVariants as kinds
use Rattle.workload.specs.declared.object.ObjectLine.{ObjectLine}
use Rattle.workload.specs.Keys.{key_number}
use Rattle.workload.specs.Plan.{Plan, is_target, refers}
use Rattle.std.specs.Option.{option_map_or}
use Rattle.std.proofs.lemmas.Bool.{false≢true}
use Rattle.run_record.specs.MapKind.{map_call, range_call}
use Rattle.run_record.specs.Objects.{is_map, is_atomic, types_of, atomic_number}
use Rattle.thread_objects.specs.Catalog.{HasAtomics, IsAt}
use Rattle.thread_objects.specs.PlacedCalls.{placed_map}
use Rattle.thread_runner.specs.Sites.{AreNumbers, AreShared, number_at}
use Rattle.thread_objects.specs.Working.{Desk, Works}
use Rattle.thread_runner.proofs.Numbers.{one_more}

-- the number of a call costs nothing
pub same_cost : {K L : Type 0} (rename : K → L) (call : MapCall K) → cost_of (renamed_call rename call) ≡ cost_of call
same_cost rename (Load key) = refl
same_cost rename (Store key value) = refl
same_cost rename (LoadOrStore key value) = refl
same_cost rename (LoadAndDelete key) = refl
same_cost rename (Delete key) = refl
same_cost rename (Swap key value) = refl
same_cost rename (CompareAndSwap key old new) = refl
same_cost rename (CompareAndDelete key old) = refl
same_cost rename Clear = refl

-- the type of the atomic with a number
types_from : (kind : ObjectKind) (rest : List AtomicKind) (n : ℕ) (type : AtomicKind) → slice_get rest n ≡ Some type → slice_get (types_of kind ++ rest) (cond (is_atomic kind) 1 0 + n) ≡ Some type
types_from (kinds.Atomic other) rest n type at = let next : 1 + n ≡ suc n = omega arith in ap (λ (k : ℕ). slice_get (other ∷ rest) k) next ∙ at
types_from kind rest n type at = let same : 0 + n ≡ n = omega arith in ap (λ (k : ℕ). slice_get rest k) same ∙ at

first_type : (kind : ObjectKind) (rest : List AtomicKind) (type : AtomicKind) → kind ≡ kinds.Atomic type → slice_get (types_of kind ++ rest) 0 ≡ Some type
first_type kind rest type is = ap (λ (k : ObjectKind). slice_get (types_of k ++ rest) 0) is

types_at : (objects : List ObjectLine) (place : ℕ) (line : ObjectLine) (type : AtomicKind) → slice_get objects place ≡ Some line → line.kind ≡ kinds.Atomic type → slice_get (flat_map (λ (o : ObjectLine). types_of o.kind) objects) (atomic_number objects place) ≡ Some type
types_at [] place line type at is = absurd (none-some line at)
types_at (o ∷ os) zero line type at is = first_type o.kind (flat_map (λ (x : ObjectLine). types_of x.kind) os) type (ap (λ (x : ObjectLine). x.kind) (same_Some o line at) ∙ is)
types_at (o ∷ os) (suc place) line type at is =
    let rest = flat_map (λ (x : ObjectLine). types_of x.kind) os in
    let counts : atomic_number (o ∷ os) (suc place) ≡ cond (is_atomic o.kind) 1 0 + atomic_number os place = omega (arith, sum_by-append (λ (x : ObjectLine). cond (is_atomic x.kind) 1 0) (o ∷ []) (take place os)) in
    ap (λ (k : ℕ). slice_get (types_of o.kind ++ rest) k) counts ∙ types_from o.kind rest (atomic_number os place) type (types_at os place line type at is)

module _ (plan : Plan) (place : ℕ) (numbers : List ℕ) (numbered : AreNumbers plan.objects numbers) where
  pub has_number : (kind : ObjectKind) → IsAt plan place kind → place < length numbers
  has_number kind is = omega (arith, slice_get_within plan.objects place is.0 is.1, numbered.count)

  pub number_is : (kind : ObjectKind) → IsAt plan place kind → slice_index numbers place ≡ number_at plan.objects place kind
  number_is kind is = numbered.each place is.0 is.1 ∙ ap (λ (k : ObjectKind). number_at plan.objects place k) is.2

  module _ (maps : ℕ) (types : List AtomicKind) (takes : ℕ → Type 0) (shared : AreShared plan maps types takes) where
    pub map_within : (n : ℕ) → IsAt plan place kinds.Map → n ≡ slice_index numbers place → n < maps
    map_within n is at =
        let one : ◌≡◌ {A = ℕ} (cond (is_map is.0.kind) 1 0) 1 = ap (λ (k : ObjectKind). cond (is_map k) 1 0) is.2 in
        omega (arith, at ∙ number_is kinds.Map is, shared.all_maps, one_more is_map plan.objects place is.0 is.1, one, sum_by-take-le (λ (o : ObjectLine). cond (is_map o.kind) 1 0) plan.objects (place + 1))

-- the numbers of a workload's atomics, and their types
pub has_atomics : (plan : Plan) (maps : ℕ) (types : List AtomicKind) (takes : ℕ → Type 0) (numbers : List ℕ) → AreShared plan maps types takes → AreNumbers plan.objects numbers → HasAtomics plan types numbers
has_atomics plan maps types takes numbers shared numbered = record {
  all = shared.all_types;
  within = λ place type is. has_number plan place numbers numbered (kinds.Atomic type) is;
  number = λ place type is. number_is plan place numbers numbered (kinds.Atomic type) is;
  type = λ place type is. ap (λ (l : List AtomicKind). slice_get l (atomic_number plan.objects place)) shared.all_types ∙ types_at plan.objects place is.0 type is.1 is.2;
}

-- a map's call by number is the record's call
pub placed_as : (keys : List (List ℕ)) (m n : ℕ) (by_number : MapCall ℕ) (call : MapCall (List ℕ)) (old new : Desk) (answer : CallAnswer (Reply ℕ)) → n ≡ m → by_number ≡ renamed_call (key_number keys) call → Works (placed_map n by_number) old answer new → Works (map_call keys m call) old answer new
placed_as keys m n by_number call old new answer at is works = subst (λ (k : ℕ). Works (placed_map k (renamed_call (key_number keys) call)) old answer new) at (subst (λ (c : MapCall ℕ). Works (placed_map n c) old answer new) is works)

module _ (old new : Desk) (answer : CallAnswer (Reply ℕ)) where
  -- the same range, by other names of its numbers
  pub range_as : (keys names : List (List ℕ)) (m n before : ℕ) → names ≡ keys → n ≡ m → Works (range_call names n before) old answer new → Works (range_call keys m before) old answer new
  range_as keys names m n before same at works = subst (λ (k : ℕ). Works (range_call keys k before) old answer new) at (subst (λ (l : List (List ℕ)). Works (range_call l n before) old answer new) same works)

-- the object to which a cond refers
mutex_kind : (mutex : ℕ) (kind : ObjectKind) → is_target (kinds.Cond mutex) kind ≡ true → kind ≡ kinds.Mutex
mutex_kind mutex kinds.Mutex is = refl
mutex_kind mutex kind is = absurd (false≢true is)

mutex_line : (mutex : ℕ) (object : Option ObjectLine) → option_map_or (λ (o : ObjectLine). is_target (kinds.Cond mutex) o.kind) object false ≡ true → (line : ObjectLine) × (object ≡ Some line) × (line.kind ≡ kinds.Mutex)
mutex_line mutex None is = absurd (false≢true is)
mutex_line mutex (Some line) is = (line, refl, mutex_kind mutex line.kind is)

pub mutex_of : (plan : Plan) (kind : ObjectKind) (mutex : ℕ) → kind ≡ kinds.Cond mutex → refers plan.objects kind ≡ true → IsAt plan mutex kinds.Mutex
mutex_of plan kind mutex is refer = mutex_line mutex (slice_get plan.objects mutex) (ap (λ (k : ObjectKind). refers plan.objects k) (sym is) ∙ refer)
