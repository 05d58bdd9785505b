-- Where the variables of a workload stand in the report of its run: behind the maps, where every script has ended.
use Rattle.std.specs.Prelude.{List, ◌++◌, map}
use Rattle.script_calls.specs.declared.outcome.Outcome.{Outcome}
use Rattle.script_calls.specs.declared.outcome.Outcome.TheVariants as outcomes
use Rattle.sync_types.specs.declared.atomic_object.Number.TheVariants.{Uint64}
use Rattle.sync_types.specs.declared.end.End.{End}
use Rattle.sync_types.specs.declared.end.End.TheVariants.{Number}
use Rattle.step_runner.specs.declared.ends.VariableEnd.{VariableEnd}

-- what a variable holds at the end, as an end of the report: `end X V`
abbrev pub variable_end : VariableEnd → End
variable_end variable = Number variable.object (Uint64 variable.value)

-- what a run came to, with the variables behind its other ends, where it has ends
abbrev pub with_variables : List VariableEnd → Outcome → Outcome
with_variables variables (outcomes.Done left) = outcomes.Done (record left { ends = left.ends ++ map variable_end variables })
with_variables variables (outcomes.Misused left misuse) = outcomes.Misused left misuse
with_variables variables (outcomes.Deadlocked left) = outcomes.Deadlocked left
