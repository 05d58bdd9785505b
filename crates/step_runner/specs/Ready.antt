-- When a worker may take a turn before a call.
use Rattle.std.specs.Prelude.{◌≡◌, ℕ, ◌<◌, true, List, slice_get, Some}
use Rattle.script_calls.specs.declared.call.Call.{Call}
use Rattle.workload.specs.Plan.{has_call, is_target, reference_of}
use Rattle.step_runner.specs.declared.turns.object_state.ObjectState.{ObjectState}
use Rattle.step_runner.specs.Objects.{kind_of, IsMachineOf}

-- the object to which an object refers is there, and is one that it may refer to
pub record HasTarget (workers : ℕ) (objects : List ObjectState) (object : ObjectState) (place : ℕ) : Type 0 where
  pub target : ObjectState
  pub there : slice_get objects place ≡ Some target
  pub is : is_target (kind_of object) (kind_of target) ≡ true
  pub machine : IsMachineOf workers target

-- the object of a call is there and has the call, the worker is one of its callers, and what it refers to is there
pub record IsReady (workers worker : ℕ) (call : Call) (objects : List ObjectState) : Type 0 where
  pub object : ObjectState
  pub there : slice_get objects call.object ≡ Some object
  pub has : has_call (kind_of object) call.operation ≡ true
  pub below : worker < workers
  pub machine : IsMachineOf workers object
  pub refers : (place : ℕ) → reference_of (kind_of object) ≡ Some place → HasTarget workers objects object place
