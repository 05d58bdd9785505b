-- A call of a map, an atomic or a pool is completed in its first turn.
use Rattle.std.proofs.Common.{◌≡◌, ℕ, ◌*◌, true, List, Some, refl}
use Rattle.script_calls.specs.declared.call.Call.{Call}
use Rattle.script_calls.specs.declared.call.ComposedCall.TheVariants.{IfEqual}
use Rattle.script_calls.specs.declared.call.Operation.{Operation}
use Rattle.script_calls.specs.declared.call.Operation.TheVariants as operations
use Rattle.sync_types.specs.declared.pool_call.PoolCall.{PoolCall}
use Rattle.sync_types.specs.declared.pool_call.PoolCall.TheVariants as pool_calls
use Rattle.pool_core.specs.PoolMachine.{PoolState, callers_of}
use Rattle.workload.specs.declared.object.ObjectKind.{ObjectKind}
use Rattle.workload.specs.declared.object.ObjectKind.TheVariants as kinds
use Rattle.workload.specs.Plan.{has_call, reference_of}
use Rattle.step_runner.specs.declared.turns.object_state.ObjectState.{ObjectState}
use Rattle.step_runner.specs.declared.turns.object_state.ObjectState.TheVariants as states
use Rattle.step_runner.specs.Completes.{takes_one_turn, IsCompleted}
use Rattle.step_runner.specs.Due.{looks_of}
use Rattle.step_runner.specs.Objects.{kind_of}
use Rattle.step_runner.specs.PoolTurn.{pool_step}
use Rattle.step_runner.specs.Ready.{IsReady}
use Rattle.step_runner.specs.TurnAtObjects.{turn_on, turn_at}
use Rattle.step_runner.proofs.AtObjects.{at_ready}
use Rattle.step_runner.proofs.Makes.{found_answer}
use Rattle.step_runner.proofs.Refuted.{no, not_both, nothing}

pub pool_completes : (worker moment : ℕ) (call : PoolCall) (p : PoolState ℕ) → IsCompleted (pool_step worker moment call p).1
pool_completes worker moment (pool_calls.Put item) p = tt
pool_completes worker moment pool_calls.Sweep p = tt
pool_completes worker moment pool_calls.Get p = found_answer worker moment IsCompleted (λ item. tt) tt (looks_of (callers_of p) worker 0 (2 * callers_of p)) p

completes : (operation : Operation) (worker moment : ℕ) (o : ObjectState) → takes_one_turn operation ≡ true → has_call (kind_of o) operation ≡ true → IsCompleted (turn_on operation worker moment o).1
completes (operations.Map call) worker moment (states.Map m) one has = tt
completes operations.Range worker moment (states.Map m) one has = tt
completes (operations.Atomic call) worker moment (states.Atomic number) one has = tt
completes (operations.Composed (IfEqual value passes)) worker moment (states.Atomic number) one has = tt
completes (operations.Pool call) worker moment (states.Pool p) one has = pool_completes worker moment call p
completes (operations.Var call) worker moment (states.Var held) one has = tt
completes operation worker moment o one has = not_both (takes_one_turn operation) (has_call (kind_of o) operation) refl one has

-- an object that refers to another one has no such call
none_referring : (kind : ObjectKind) (operation : Operation) (other : ℕ) → reference_of kind ≡ Some other → has_call kind operation ≡ true → takes_one_turn operation ≡ true → ⊥
none_referring (kinds.Cond place) (operations.Cond call) other some has never = no never
none_referring (kinds.Cond place) operation other some has never = no has
none_referring (kinds.Once place delta) operations.Once other some has never = no never
none_referring (kinds.Once place delta) operation other some has never = no has
none_referring (kinds.Flight place delta) (operations.Fly key) other some has never = no never
none_referring (kinds.Flight place delta) operation other some has never = no has
none_referring kind operation other some has never = nothing some

pub at_completes : (workers worker : ℕ) (call : Call) (moment : ℕ) (objects : List ObjectState) → takes_one_turn call.operation ≡ true → IsReady workers worker call objects → IsCompleted (turn_at call worker moment objects).1
at_completes workers worker call moment objects never r = at_ready (λ x. IsCompleted x.1) workers worker call moment objects r
    (λ st. completes call.operation worker moment r.object never st.has)
    (λ other target st. absurd (none_referring (kind_of r.object) call.operation other st.some st.has never))
