-- How many items the scripts put into a pool.
use Rattle.std.specs.Prelude.{ℕ, Bool, true, false, ◌&&◌, ◌==◌, List, count_by, sum_by}
use Rattle.script_calls.specs.declared.call.Call.{Call}
use Rattle.script_calls.specs.declared.call.Operation.{Operation}
use Rattle.script_calls.specs.declared.call.Operation.TheVariants as operations
use Rattle.sync_types.specs.declared.pool_call.PoolCall.TheVariants as pool_calls

-- whether an operation puts an item into a pool
abbrev pub is_put : Operation → Bool
is_put (operations.Pool (pool_calls.Put item)) = true
is_put operation = false

-- whether a call puts an item into the pool at a place
abbrev pub is_put_at : ℕ → Call → Bool
is_put_at place call = (call.object == place) && is_put call.operation

-- how many puts the scripts make into the pool at a place
abbrev pub puts_at : ℕ → List (List Call) → ℕ
puts_at place scripts = sum_by (λ script. count_by (is_put_at place) script) scripts
