-- What a `go` of a readable workload says.
use Rattle.std.proofs.Common.{◌≡◌, ℕ, zero, suc, ◌<◌, Bool, true, false, List, [], ◌∷◌, get_or, Option, Some, None, slice_get, refl, ap, subst, sym, ◌∙◌, arith}
use Rattle.std.specs.List.{list_all}
use Rattle.script_calls.specs.declared.call.Call.{Call}
use Rattle.script_calls.specs.declared.call.ComposedCall.TheVariants.{Go}
use Rattle.script_calls.specs.declared.call.Operation.{Operation}
use Rattle.script_calls.specs.declared.call.Operation.TheVariants as operations
use Rattle.workload.specs.declared.object.ObjectKind.{ObjectKind}
use Rattle.workload.specs.declared.object.ObjectKind.TheVariants as kinds
use Rattle.workload.specs.declared.object.ObjectLine.{ObjectLine}
use Rattle.workload.specs.Plan.{Plan, is_dormant, has_among, is_on, starts_dormant}
use Rattle.workload.specs.Readable.{IsReadable}
use Rattle.workload.proofs.Passing.{both}
use Rattle.workload.proofs.DraftLemmas.{valid_parts}
use Rattle.workload.proofs.Started.{dormant_inside, no_go_alone}

some_is : {X : Type 0} {x y : X} → Some x ≡ Some y → x ≡ y
some_is e = cc

-- one of those that all pass
pub all_get : {X : Type 0} (p : X → Bool) (xs : List X) (i : ℕ) (x : X) → list_all p xs ≡ true → slice_get xs i ≡ Some x → p x ≡ true
all_get p [] i x h at = absurd cc
all_get p (y ∷ xs) zero x h at = ap p (sym (some_is at)) ∙ (both (p y) (list_all p xs) h).0
all_get p (y ∷ xs) (suc i) x h at = all_get p xs i x (both (p y) (list_all p xs) h).1 at

pub each_call : (p : Call → Bool) (scripts : List (List Call)) (at place : ℕ) (script : List Call) (call : Call) → list_all (list_all p) scripts ≡ true → slice_get scripts at ≡ Some script → slice_get script place ≡ Some call → p call ≡ true
each_call p scripts at place script call h has stands = all_get p script place call (all_get (list_all p) scripts at script h has) stands

pub waits : (plan : Plan) (at place worker : ℕ) (script : List Call) (call : Call) → IsReadable plan → slice_get plan.scripts at ≡ Some script → slice_get script place ≡ Some call → call.operation ≡ operations.Composed (Go worker)
    → (worker < plan.workers) × (is_dormant plan worker ≡ true)
waits plan at place worker script call h has stands is =
    let v = valid_parts plan h.valid in
    let here = each_call (λ c. starts_dormant plan.dormant c.operation) plan.scripts at place script call v.starts has stands in
    let dormant : get_or plan.dormant worker false ≡ true = subst (λ (o : Operation). starts_dormant plan.dormant o ≡ true) is here in
    (omega (arith, v.dormant, dormant_inside plan.dormant worker dormant), dormant)

group_kind : (objects : List ObjectLine) (kind : ObjectKind) (worker : ℕ) → has_among objects kind (operations.Composed (Go worker)) ≡ true → (start : ℕ) × (kind ≡ kinds.WaitGroup start)
group_kind objects (kinds.WaitGroup start) worker h = (start, refl)
group_kind objects kind worker h = absurd (no_go_alone kind worker h)

group_on : (objects : List ObjectLine) (there : Option ObjectLine) (call : Call) (worker : ℕ) → call.operation ≡ operations.Composed (Go worker) → is_on objects there call ≡ true → (start : ℕ) × (object : ObjectLine) × (there ≡ Some object) × (object.kind ≡ kinds.WaitGroup start)
group_on objects None call worker is h = absurd cc
group_on objects (Some object) call worker is h =
    let kind = group_kind objects object.kind worker (subst (λ (o : Operation). has_among objects object.kind o ≡ true) is h) in
    (kind.0, object, refl, kind.1)

pub group : (plan : Plan) (at place worker : ℕ) (script : List Call) (call : Call) → IsReadable plan → slice_get plan.scripts at ≡ Some script → slice_get script place ≡ Some call → call.operation ≡ operations.Composed (Go worker)
    → (start : ℕ) × (object : ObjectLine) × (slice_get plan.objects call.object ≡ Some object) × (object.kind ≡ kinds.WaitGroup start)
group plan at place worker script call h has stands is =
    let v = valid_parts plan h.valid in
    group_on plan.objects (slice_get plan.objects call.object) call worker is (each_call (λ c. is_on plan.objects (slice_get plan.objects c.object) c) plan.scripts at place script call v.calls has stands)
