-- Which calls are made on one object, and on no other one but maps and atomics.
use Rattle.std.specs.Prelude.{◌≡◌, true}
use Rattle.script_calls.specs.declared.call.Operation.{Operation}
use Rattle.script_calls.specs.declared.call.Operation.TheVariants as operations
use Rattle.sync_types.specs.declared.wait_call.CondCall.TheVariants as cond_calls
use Rattle.workload.specs.declared.object.ObjectKind.{ObjectKind}
use Rattle.workload.specs.Plan.{has_call}

-- maps and atomics are shared as one, a cond's `wait` is on its mutex too, a pool is as many objects as it has parts, a plain variable is none, and a call that is made of others is on the objects of these
abbrev pub IsAlone : Operation → Type 0
IsAlone (operations.Map call) = ⊥
IsAlone operations.Range = ⊥
IsAlone (operations.Atomic call) = ⊥
IsAlone (operations.Cond cond_calls.Wait) = ⊥
IsAlone (operations.Pool call) = ⊥
IsAlone (operations.Var call) = ⊥
IsAlone (operations.Composed call) = ⊥
IsAlone operation = Unit {0}

-- an object that is declared so has the call, which is such a one
abbrev pub IsCallAlone : ObjectKind → Operation → Type 0
IsCallAlone declared operation = IsAlone operation × (has_call declared operation ≡ true)
