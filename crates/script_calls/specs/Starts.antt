-- Which workers the calls of scripts start.
use Rattle.std.specs.Prelude.{ℕ, Bool, false, cond, ◌==◌, List, [], ◌∷◌, Option, Some, None, count_by, sum_by}
use Rattle.std.specs.Option.{option_map_or}
use Rattle.script_calls.specs.declared.call.Call.{Call}
use Rattle.script_calls.specs.declared.call.ComposedCall.TheVariants.{Go}
use Rattle.script_calls.specs.declared.call.Operation.{Operation}
use Rattle.script_calls.specs.declared.call.Operation.TheVariants as operations

-- the worker that an operation starts, if it starts one
abbrev pub started_by : Operation → Option ℕ
started_by (operations.Composed (Go worker)) = Some worker
started_by operation = None

-- whether a call starts this worker
abbrev pub starts : ℕ → Call → Bool
starts worker call = option_map_or (λ started. started == worker) (started_by call.operation) false

-- how many calls of all scripts start it
abbrev pub start_count : ℕ → List (List Call) → ℕ
start_count worker scripts = sum_by (count_by (starts worker)) scripts

-- the place of the group of the first call of a script that starts it
abbrev pub group_in : ℕ → List Call → Option ℕ
group_in worker [] = None
group_in worker (call ∷ script) = cond (starts worker call) (Some call.object) (group_in worker script)

abbrev pub group_or : Option ℕ → Option ℕ → Option ℕ
group_or None later = later
group_or (Some group) later = Some group

-- the same of all scripts: the group under which the worker is started, if any call may start it
abbrev pub group_of : ℕ → List (List Call) → Option ℕ
group_of worker [] = None
group_of worker (script ∷ scripts) = group_or (group_in worker script) (group_of worker scripts)
