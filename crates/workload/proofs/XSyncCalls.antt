-- What the calls on semaphores and flights of a readable workload say.
use Rattle.std.proofs.Common.{◌≡◌, ℕ, ℤ, ◌<◌, ◌≤◌, true, false, List, [], ◌∷◌, ◌++◌, Option, Some, None, refl, subst}
use Rattle.std.specs.Prelude.{nat_lt, nat_le, slice_get}
use Rattle.std.specs.List.{list_all}
use Rattle.std.specs.Option.{option_map_or}
use Rattle.std.proofs.lemmas.Bool.{leb-true, ltb-true}
use Rattle.sync_types.specs.Name.{is_name}
use Rattle.sync_types.specs.declared.sema_call.SemaCall.{SemaCall}
use Rattle.sync_types.specs.declared.atomic_object.AtomicKind.TheVariants as types
use Rattle.script_calls.specs.declared.call.Call.{Call}
use Rattle.script_calls.specs.declared.call.Operation.{Operation}
use Rattle.script_calls.specs.declared.call.Operation.TheVariants as operations
use Rattle.workload.specs.declared.limits.TheConstants.{MAX_SIZE}
use Rattle.workload.specs.declared.object.ObjectKind.{ObjectKind}
use Rattle.workload.specs.declared.object.ObjectKind.TheVariants as kinds
use Rattle.workload.specs.declared.object.ObjectLine.{ObjectLine}
use Rattle.workload.specs.declared.object.Declared.{Declared}
use Rattle.workload.specs.CallWords.{sema_weight}
use Rattle.workload.specs.Draft.{Draft, declared, is_kind, is_call, is_operation}
use Rattle.workload.specs.NumberWords.{is_weight}
use Rattle.workload.specs.Plan.{Plan, has_among, is_on, is_target, refers}
use Rattle.workload.specs.Readable.{IsReadable, may_join, may_declare}
use Rattle.workload.proofs.CanonicalFollows.{joins}
use Rattle.workload.proofs.DraftLemmas.{found_at, valid_parts}
use Rattle.workload.proofs.GoCalls.{all_get, each_call}
use Rattle.workload.proofs.Passing.{both, pair}
use Rattle.workload.proofs.Refuted.{no}

-- ---- numbers in range

-- objects that may be declared have their numbers in range
all_in_range : (os others : List ObjectLine) → may_declare others os ≡ true → list_all (λ object. is_kind object.kind) os ≡ true
all_in_range [] others h = refl
all_in_range (o ∷ os) others h =
    let parts = both (may_join others o) (may_declare (others ++ o ∷ []) os) h in
    pair (is_kind o.kind) _ (joins others o parts.0).kind (all_in_range os (others ++ o ∷ []) parts.1)

pub in_range : (plan : Plan) (place : ℕ) (object : ObjectLine) → IsReadable plan → slice_get plan.objects place ≡ Some object → is_kind object.kind ≡ true
in_range plan place object h at = all_get (λ (x : ObjectLine). is_kind x.kind) plan.objects place object (all_in_range plan.objects [] h.objects) at

-- so has what a name finds
pub found_in_range : (d : Draft) (name : List ℕ) (found : Declared) → IsReadable d.plan → declared d name ≡ Some found → is_kind found.kind ≡ true
found_in_range d name found h is =
    let there = found_at 0 name d.plan.objects found is in
    subst (λ (k : ObjectKind). is_kind k ≡ true) there.3 (in_range d.plan _ there.0 h there.2)

weight_range : (most n : ℕ) → is_weight most n ≡ true → (0 < n) × (n ≤ most)
weight_range most n h =
    let parts = both (nat_lt 0 n) (nat_le n most) h in
    (ltb-true 0 n parts.0, leb-true n most parts.1)

pub sizes : (plan : Plan) (place size : ℕ) (object : ObjectLine) → IsReadable plan → slice_get plan.objects place ≡ Some object → object.kind ≡ kinds.Sema size → (0 < size) × (size ≤ MAX_SIZE)
sizes plan place size object h at is = weight_range MAX_SIZE size (subst (λ (k : ObjectKind). is_kind k ≡ true) is (in_range plan place object h at))

-- ---- calls on semaphores

sema_kind : (objects : List ObjectLine) (kind : ObjectKind) (c : SemaCall) → has_among objects kind (operations.Sema c) ≡ true → (size : ℕ) × (kind ≡ kinds.Sema size) × (is_weight size (sema_weight c) ≡ true)
sema_kind objects (kinds.Sema size) c h = (size, refl, h)
sema_kind objects kind c h = no h

sema_on : (objects : List ObjectLine) (there : Option ObjectLine) (call : Call) (c : SemaCall) → call.operation ≡ operations.Sema c → is_on objects there call ≡ true
    → (size : ℕ) × (object : ObjectLine) × (there ≡ Some object) × (object.kind ≡ kinds.Sema size) × (0 < sema_weight c) × (sema_weight c ≤ size)
sema_on objects None call c is h = no h
sema_on objects (Some object) call c is h =
    let kind = sema_kind objects object.kind c (subst (λ (o : Operation). has_among objects object.kind o ≡ true) is h) in
    let range = weight_range kind.0 (sema_weight c) kind.2 in
    (kind.0, object, refl, kind.1, range.0, range.1)

pub weights : (plan : Plan) (at place : ℕ) (script : List Call) (call : Call) (c : SemaCall) → IsReadable plan → slice_get plan.scripts at ≡ Some script → slice_get script place ≡ Some call → call.operation ≡ operations.Sema c
    → (size : ℕ) × (object : ObjectLine) × (slice_get plan.objects call.object ≡ Some object) × (object.kind ≡ kinds.Sema size) × (0 < sema_weight c) × (sema_weight c ≤ size)
weights plan at place script call c h has stands is =
    let v = valid_parts plan h.valid in
    sema_on plan.objects (slice_get plan.objects call.object) call c is (each_call (λ x. is_on plan.objects (slice_get plan.objects x.object) x) plan.scripts at place script call v.calls has stands)

-- ---- calls on flights

fly_kind : (objects : List ObjectLine) (kind : ObjectKind) (key : List ℕ) → has_among objects kind (operations.Fly key) ≡ true → (atomic : ℕ) × (delta : ℤ) × (kind ≡ kinds.Flight atomic delta)
fly_kind objects (kinds.Flight atomic delta) key h = (atomic, delta, refl)
fly_kind objects kind key h = no h

fly_on : (objects : List ObjectLine) (there : Option ObjectLine) (call : Call) (key : List ℕ) → call.operation ≡ operations.Fly key → is_on objects there call ≡ true
    → (atomic : ℕ) × (delta : ℤ) × (object : ObjectLine) × (there ≡ Some object) × (object.kind ≡ kinds.Flight atomic delta)
fly_on objects None call key is h = no h
fly_on objects (Some object) call key is h =
    let kind = fly_kind objects object.kind key (subst (λ (o : Operation). has_among objects object.kind o ≡ true) is h) in
    (kind.0, kind.1, object, refl, kind.2)

int64_of : (atomic : ℕ) (delta : ℤ) (kind : ObjectKind) → is_target (kinds.Flight atomic delta) kind ≡ true → kind ≡ kinds.Atomic types.Int64
int64_of atomic delta (kinds.Atomic types.Int64) h = refl
int64_of atomic delta kind h = no h

flown_number : (objects : List ObjectLine) (atomic : ℕ) (delta : ℤ) (there : Option ObjectLine) → option_map_or (λ object. is_target (kinds.Flight atomic delta) object.kind) there false ≡ true → (number : ObjectLine) × (there ≡ Some number) × (number.kind ≡ kinds.Atomic types.Int64)
flown_number objects atomic delta None h = no h
flown_number objects atomic delta (Some number) h = (number, refl, int64_of atomic delta number.kind h)

pub flights : (plan : Plan) (at place : ℕ) (script : List Call) (call : Call) (key : List ℕ) → IsReadable plan → slice_get plan.scripts at ≡ Some script → slice_get script place ≡ Some call → call.operation ≡ operations.Fly key
    → (atomic : ℕ) × (delta : ℤ) × (object : ObjectLine) × (number : ObjectLine) × (slice_get plan.objects call.object ≡ Some object) × (object.kind ≡ kinds.Flight atomic delta)
    × (slice_get plan.objects atomic ≡ Some number) × (number.kind ≡ kinds.Atomic types.Int64) × (is_name key ≡ true)
flights plan at place script call key h has stands is =
    let v = valid_parts plan h.valid in
    let on = fly_on plan.objects (slice_get plan.objects call.object) call key is (each_call (λ x. is_on plan.objects (slice_get plan.objects x.object) x) plan.scripts at place script call v.calls has stands) in
    let refer = subst (λ (k : ObjectKind). refers plan.objects k ≡ true) on.4 (all_get (λ (x : ObjectLine). refers plan.objects x.kind) plan.objects call.object on.2 v.references on.3) in
    let number = flown_number plan.objects on.0 on.1 (slice_get plan.objects on.0) refer in
    let named : is_name key ≡ true = subst (λ (o : Operation). is_operation o ≡ true) is (each_call is_call plan.scripts at place script call h.calls has stands) in
    (on.0, on.1, on.2, number.0, on.3, on.4, number.1, number.2, named)
