use Rattle.race_clocks.proofs.Shown.{variables_told}
use Rattle.race_clocks.proofs.report.laws.variables_stand_behind_the_ends.Goals as goal

pub returns-clause-done : goal.returns-clause-done
returns-clause-done c plan left variables = variables_told plan left variables
