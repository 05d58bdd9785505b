-- A call of a map or an atomic is made whole in its one item, which has its reply.
use Rattle.std.proofs.Common.{◌≡◌, ℕ, true, List, Some, refl, sym, subst}
use Rattle.std.specs.Prelude.{slice_get}
use Rattle.sync_types.specs.declared.atomic_object.Number.{Number}
use Rattle.script_calls.specs.declared.call.Call.{Call}
use Rattle.script_calls.specs.declared.call.ComposedCall.TheVariants.{IfEqual}
use Rattle.script_calls.specs.declared.call.Operation.{Operation}
use Rattle.script_calls.specs.declared.call.Operation.TheVariants as operations
use Rattle.workload.specs.declared.object.ObjectKind.{ObjectKind}
use Rattle.workload.specs.declared.object.ObjectKind.TheVariants as kinds
use Rattle.workload.specs.Plan.{has_call, reference_of}
use Rattle.step_runner.specs.declared.turns.object_state.ObjectState.{ObjectState}
use Rattle.step_runner.specs.declared.turns.object_state.ObjectState.TheVariants as states
use Rattle.step_runner.specs.declared.turns.item.Item.{Item}
use Rattle.step_runner.specs.Items.{items_on, items_at}
use Rattle.step_runner.specs.Objects.{kind_of}
use Rattle.step_runner.specs.PlacedCalls.{is_placed, IsAnswered, IsTested}
use Rattle.step_runner.specs.Ready.{IsReady}
use Rattle.step_runner.specs.TurnAtObjects.{turn_on, turn_at}
use Rattle.step_runner.proofs.AtObjects.{at_ready}
use Rattle.step_runner.proofs.CallAt.{items_alone}
use Rattle.step_runner.proofs.Refuted.{no, not_both, nothing}

on_answered : (operation : Operation) (worker moment object : ℕ) (o : ObjectState) → is_placed operation ≡ true → has_call (kind_of o) operation ≡ true
    → IsAnswered (record { object = object; operation = operation }) worker (items_on operation worker moment object o) (turn_on operation worker moment o).1
on_answered (operations.Map call) worker moment object (states.Map m) one has = (_, refl, refl)
on_answered operations.Range worker moment object (states.Map m) one has = (_, refl, refl)
on_answered (operations.Atomic call) worker moment object (states.Atomic number) one has = (_, refl, refl)
on_answered (operations.Var call) worker moment object (states.Var held) one has = (_, refl, refl)
on_answered operation worker moment object o one has = not_both (is_placed operation) (has_call (kind_of o) operation) refl one has

-- an object that refers to another one has no such call
none_refers : (kind : ObjectKind) (operation : Operation) (other : ℕ) → reference_of kind ≡ Some other → has_call kind operation ≡ true → is_placed operation ≡ true → ⊥
none_refers (kinds.Cond place) (operations.Cond call) other some has one = no one
none_refers (kinds.Cond place) operation other some has one = no has
none_refers (kinds.Once place delta) operations.Once other some has one = no one
none_refers (kinds.Once place delta) operation other some has one = no has
none_refers (kinds.Flight place delta) (operations.Fly key) other some has one = no one
none_refers (kinds.Flight place delta) operation other some has one = no has
none_refers kind operation other some has one = nothing some

pub at_answered : (workers worker : ℕ) (call : Call) (moment : ℕ) (objects : List ObjectState) → IsReady workers worker call objects → is_placed call.operation ≡ true
    → IsAnswered call worker (items_at call worker moment objects) (turn_at call worker moment objects).1
at_answered workers worker call moment objects r one = at_ready (λ y. IsAnswered call worker (items_at call worker moment objects) y.1) workers worker call moment objects r
    (λ st.
    subst (λ (made : List Item). IsAnswered call worker made (turn_on call.operation worker moment r.object).1) (sym (items_alone call worker moment objects r.object st.at st.none))
    (on_answered call.operation worker moment call.object r.object one st.has))
    (λ other target st. absurd (none_refers (kind_of r.object) call.operation other st.some st.has one))

-- a test is one load of the atomic
abbrev Tests : ℕ → ℕ → ℕ → List ObjectState → Number → ObjectState → Operation → Type 0
Tests worker moment object objects value o operation =
    has_call (kind_of o) operation ≡ true → IsTested (record { object = object; operation = operation }) value worker objects (items_on operation worker moment object o) (turn_on operation worker moment o).1

on_tested : (worker moment object : ℕ) (objects : List ObjectState) (value : Number) (passes : ℕ) (o : ObjectState) → slice_get objects object ≡ Some o → Tests worker moment object objects value o (operations.Composed (IfEqual value passes))
on_tested worker moment object objects value passes (states.Atomic number) at has = (number, at, refl, refl)
on_tested worker moment object objects value passes o at has = no has

no_test_refers : (kind : ObjectKind) (value : Number) (passes other : ℕ) → reference_of kind ≡ Some other → has_call kind (operations.Composed (IfEqual value passes)) ≡ true → ⊥
no_test_refers (kinds.Cond place) value passes other some has = no has
no_test_refers (kinds.Once place delta) value passes other some has = no has
no_test_refers (kinds.Flight place delta) value passes other some has = no has
no_test_refers kind value passes other some has = nothing some

pub at_tested : (workers worker moment : ℕ) (call : Call) (objects : List ObjectState) (value : Number) (passes : ℕ) → IsReady workers worker call objects → call.operation ≡ operations.Composed (IfEqual value passes)
    → IsTested call value worker objects (items_at call worker moment objects) (turn_at call worker moment objects).1
at_tested workers worker moment call objects value passes r is =
    at_ready (λ y. IsTested call value worker objects (items_at call worker moment objects) y.1) workers worker call moment objects r
    (λ st.
    subst (λ (made : List Item). IsTested call value worker objects made (turn_on call.operation worker moment r.object).1) (sym (items_alone call worker moment objects r.object st.at st.none))
    (subst (Tests worker moment call.object objects value r.object) (sym is) (on_tested worker moment call.object objects value passes r.object st.at) st.has))
    (λ other target st. absurd (no_test_refers (kind_of r.object) value passes other st.some (subst (λ (operation : Operation). has_call (kind_of r.object) operation ≡ true) is st.has)))
