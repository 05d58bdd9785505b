-- An int64 that is only added to, and what all adds come to.
use Rattle.std.specs.Prelude.{◌≡◌, ℕ, ℤ, Bool, true, false, ◌==◌, cond, List, [], ◌∷◌}
use Rattle.std.specs.List.{flat_map, list_all}
use Rattle.sync_types.specs.declared.atomic_object.AtomicCall.TheVariants.{Add}
use Rattle.sync_types.specs.declared.atomic_object.Number.{Number}
use Rattle.sync_types.specs.declared.atomic_object.Number.TheVariants.{Int64}
use Rattle.script_calls.specs.declared.call.Call.{Call}
use Rattle.script_calls.specs.declared.call.Operation.{Operation}
use Rattle.script_calls.specs.declared.call.Operation.TheVariants as operations
use Rattle.sync_types.specs.SequentialAtomic.{atomic_after}
use Rattle.workload.specs.Plan.{Plan}
use Rattle.run_laws.specs.Locks.{has_plain_objects}

-- the amount that an operation adds to an int64, if it adds any
abbrev pub amount_of : Operation → List ℤ
amount_of (operations.Atomic (Add (Int64 amount))) = amount ∷ []
amount_of operation = []

-- the amounts that the scripts add to the int64 at a place, one script after the other
abbrev pub amounts_at : ℕ → List (List Call) → List ℤ
amounts_at place scripts = flat_map (flat_map (λ call. cond (call.object == place) (amount_of call.operation) [])) scripts

-- what an int64 of one thread holds after these adds
abbrev pub after_adds : Number → List ℤ → Number
after_adds held [] = held
after_adds held (amount ∷ amounts) = after_adds (atomic_after (Add (Int64 amount)) held) amounts

-- whether an operation adds to an int64
abbrev pub is_add : Operation → Bool
is_add (operations.Atomic (Add (Int64 amount))) = true
is_add operation = false

-- all objects are maps, atomics and mutexes, and all calls on the object at a place add to an int64
pub record IsOnlyAddedTo (plan : Plan) (place : ℕ) : Type 0 where
  pub plain : has_plain_objects plan ≡ true
  pub adds : list_all (list_all (λ call. cond (call.object == place) (is_add call.operation) true)) plan.scripts ≡ true
