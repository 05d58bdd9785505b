use Rattle.std.proofs.Common.{◌≡◌, ◌++◌, drop, map}
use Rattle.race_clocks.specs.Variables.{variable_end}
use Rattle.race_clocks.proofs.report.variables.push_variables.Given as goal

abbrev pub invariant-loop-variable : goal.invariant-loop-variable
invariant-loop-variable l = l.ends ++ map variable_end (drop l.variable-index l.variables) ≡ l.initial.ends ++ map variable_end l.variables
