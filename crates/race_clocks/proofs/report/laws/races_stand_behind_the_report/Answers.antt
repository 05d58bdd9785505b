use Rattle.std.proofs.Common.{ℕ, List, ◌++◌, ap}
use Rattle.run_report.specs.ReportText.{report_text}
use Rattle.race_clocks.proofs.Shown.{no_races, races_told}
use Rattle.race_clocks.proofs.report.laws.races_stand_behind_the_report.Goals as goal

pub returns-clause-lines : goal.returns-clause-lines
returns-clause-lines c plan outcome races = ap (λ (behind : List ℕ). report_text plan outcome ++ behind) (races_told plan races)

pub returns-clause-none : goal.returns-clause-none
returns-clause-none c plan outcome = ap (λ (behind : List ℕ). report_text plan outcome ++ behind) (no_races plan)
