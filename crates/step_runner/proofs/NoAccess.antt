-- A worker of a workload without variables stands before no read or write.
use Rattle.std.proofs.Common.{◌≡◌, ℕ, zero, suc, Bool, true, false, ◌||◌, List, [], ◌∷◌, map, Some, slice_get, sym, ap, ◌∙◌, refl}
use Rattle.std.specs.List.{list_any}
use Rattle.script_calls.specs.declared.call.Operation.{Operation}
use Rattle.script_calls.specs.declared.call.Operation.TheVariants as operations
use Rattle.script_calls.specs.declared.call.VarCall.{VarCall}
use Rattle.workload.specs.Dialect.{has_variables, is_variable}
use Rattle.workload.specs.Draft.{is_access_operation}
use Rattle.workload.specs.Plan.{Plan, has_call}
use Rattle.workload.specs.declared.object.ObjectKind.{ObjectKind}
use Rattle.workload.specs.declared.object.ObjectKind.TheVariants as kinds
use Rattle.workload.specs.declared.object.ObjectLine.{ObjectLine}
use Rattle.step_runner.specs.declared.turns.object_state.ObjectState.{ObjectState}
use Rattle.step_runner.specs.Objects.{kind_of}
use Rattle.step_runner.specs.StandsWithin.{IsReadyWithin}
use Rattle.step_runner.proofs.Refuted.{no}

is_var : (kind : ObjectKind) (call : VarCall) → has_call kind (operations.Var call) ≡ true → is_variable kind ≡ true
is_var kinds.Var call has = refl
is_var kind call has = no has

some_is : {X : Type 0} (x y : X) → Some x ≡ Some y → x ≡ y
some_is x y e = cc

heads : (k l : ObjectKind) (ks ls : List ObjectKind) → k ∷ ks ≡ l ∷ ls → (k ≡ l) × (ks ≡ ls)
heads k l ks ls e = (cc, cc)

-- objects of these kinds, of which none is a variable
none_at : (objects : List ObjectState) (lines : List ObjectLine) (place : ℕ) (o : ObjectState) → map kind_of objects ≡ map (λ (line : ObjectLine). line.kind) lines → list_any (λ (line : ObjectLine). is_variable line.kind) lines ≡ false
    → slice_get objects place ≡ Some o → is_variable (kind_of o) ≡ true → ⊥
none_at [] lines place o same none at is = cc
none_at (x ∷ objects) [] place o same none at is = cc
none_at (x ∷ objects) (line ∷ lines) zero o same none at is =
    let kind = (heads (kind_of x) line.kind (map kind_of objects) (map (λ (line : ObjectLine). line.kind) lines) same).0 in
    let here : is_variable line.kind ≡ true = ap is_variable (sym kind ∙ ap kind_of (some_is x o at)) ∙ is in
    let none_here : true ≡ false = sym (ap (λ b. b || list_any (λ (line : ObjectLine). is_variable line.kind) lines) here) ∙ none in
    cc
none_at (x ∷ objects) (line ∷ lines) (suc place) o same none at is =
    none_at objects lines place o (heads (kind_of x) line.kind (map kind_of objects) (map (λ (line : ObjectLine). line.kind) lines) same).1 (behind (is_variable line.kind) _ none) at is
  where
    behind : (a b : Bool) → (a || b) ≡ false → b ≡ false
    behind true b e = absurd cc
    behind false b e = e

pub no_access : (workers worker : ℕ) (operation : Operation) (place : ℕ) (objects : List ObjectState) (plan : Plan) → has_variables plan ≡ false → map kind_of objects ≡ map (λ (line : ObjectLine). line.kind) plan.objects
    → IsReadyWithin workers worker (record { object = place; operation = operation }) objects → is_access_operation operation ≡ false
no_access workers worker (operations.Var call) place objects plan plain same ready = absurd (none_at objects plan.objects place ready.object same plain ready.there (is_var (kind_of ready.object) call ready.has))
no_access workers worker operation place objects plan plain same ready = refl
