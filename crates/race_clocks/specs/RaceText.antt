-- What is written of a run whose races are asked for: its report, and behind that its races.
use Rattle.std.specs.Prelude.{ℕ, ◌+◌, List, [], ◌∷◌, ◌++◌, codes, length, slice_get}
use Rattle.std.specs.Fmt.{decimal}
use Rattle.std.specs.List.{flat_map}
use Rattle.script_calls.specs.declared.outcome.Outcome.{Outcome}
use Rattle.workload.specs.Canonical.{behind_spaces, name_of}
use Rattle.workload.specs.Plan.{Plan}
use Rattle.run_report.specs.ReportText.{report_lines, report_text}
use Rattle.race_clocks.specs.declared.race.CallPlace.{CallPlace}
use Rattle.race_clocks.specs.declared.race.Race.{Race}

-- the place of a call: `WORKER.INDEX`
abbrev pub place_text : CallPlace → List ℕ
place_text place = decimal place.worker ++ codes "." ++ decimal place.index

-- the line of a race: `race X I.J K.L`, the variable's name and the places of both calls, of which the first was made first
abbrev pub race_line : Plan → Race → List ℕ
race_line plan race = codes "race" ++ behind_spaces (name_of (slice_get plan.objects race.variable) ∷ place_text race.first ∷ place_text race.second ∷ []) ++ codes "\n"

-- how many there are: `races N`
abbrev pub count_line : List Race → List ℕ
count_line races = codes "races" ++ behind_spaces (decimal (length races) ∷ []) ++ codes "\n"

-- a line for each race, and behind them how many there are
abbrev pub races_text : Plan → List Race → List ℕ
races_text plan races = flat_map (race_line plan) races ++ count_line races

-- the report of a run, and its races behind it
abbrev pub report_with_races : Plan → Outcome → List Race → List ℕ
report_with_races plan outcome races = report_text plan outcome ++ races_text plan races

-- how many lines that has
abbrev pub lines_with_races : Plan → Outcome → List Race → ℕ
lines_with_races plan outcome races = report_lines plan outcome + (length races + 1)
