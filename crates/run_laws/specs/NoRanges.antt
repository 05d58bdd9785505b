-- Workloads without a `range`, whose reply the items of a call leave open.
use Rattle.std.specs.Prelude.{Bool, true, false}
use Rattle.std.specs.List.{list_all}
use Rattle.script_calls.specs.declared.call.Operation.{Operation}
use Rattle.script_calls.specs.declared.call.Operation.TheVariants as operations
use Rattle.workload.specs.Plan.{Plan}

abbrev pub is_no_range : Operation → Bool
is_no_range operations.Range = false
is_no_range operation = true

-- whether no script has a `range`
abbrev pub has_no_ranges : Plan → Bool
has_no_ranges plan = list_all (list_all (λ call. is_no_range call.operation)) plan.scripts
