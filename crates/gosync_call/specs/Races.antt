-- What a run by schedule comes to whose races are asked for: its report, its races, and by these its status.
--
-- The text may have plain variables. Their values stand in the report behind those of the maps, where every script has ended. Behind
-- the report stands a line for each race of the run's trace, and how many races there are, however the run ended. The races are all
-- pairs of accesses of one variable that race, each once, in the order of the later ones and then of the earlier ones (`AreRaces`).
use Rattle.std.specs.Prelude.{◌≡◌, ℕ, List, [], ◌∷◌, Option}
use Rattle.sync_outside.specs.Bytes.{Appends, AppendsFront}
use Rattle.script_calls.specs.declared.outcome.Outcome.{Outcome}
use Rattle.script_calls.specs.declared.outcome.Outcome.TheVariants as outcomes
use Rattle.workload.specs.Plan.{Plan}
use Rattle.workload.specs.declared.keyword.Dialect.TheVariants.{Races}
use Rattle.step_runner.specs.Computed.{variables_left}
use Rattle.step_runner.specs.Outcomes.{StepsTo}
use Rattle.step_runner.specs.Traces.{trace_of}
use Rattle.race_clocks.specs.Races.{AreRaces}
use Rattle.race_clocks.specs.declared.race.Race.{Race}
use Rattle.race_clocks.specs.RaceText.{report_with_races}
use Rattle.race_clocks.specs.Variables.{with_variables}
use Rattle.gosync_call.specs.ComesTo.{ComesBy}
use Rattle.gosync_call.specs.declared.status.Ending.{Ending}
use Rattle.gosync_call.specs.declared.status.Ending.TheVariants as endings
use Rattle.gosync_call.specs.declared.status.Fault.{Fault}
use Rattle.gosync_call.specs.declared.status.Fault.TheVariants as faults
use Rattle.gosync_call.specs.declared.status.Status.{Status}

-- how a run ended that came to this outcome and had these races: where every script has ended, by whether there are any
abbrev pub ending_with : Outcome → List Race → Ending
ending_with (outcomes.Done left) [] = endings.Done
ending_with (outcomes.Done left) (race ∷ races) = endings.Raced
ending_with (outcomes.Misused left misuse) races = endings.Misused misuse
ending_with (outcomes.Deadlocked left) races = endings.Deadlocked

-- the run of a workload by its schedule comes to this outcome, and these are the races of its trace
abbrev pub HasRaces : Plan → Outcome → List Race → Type 0
HasRaces plan outcome races = StepsTo plan outcome × AreRaces plan (trace_of plan) races

-- what is written of it
abbrev pub race_text : Plan → Outcome → List Race → List ℕ
race_text plan outcome races = report_with_races plan (with_variables (variables_left plan) outcome) races

-- the run ended so, and its report was written with its races
abbrev pub EndsWithRaces : Plan → Option (List ℕ) → Option (List ℕ) → Ending → Type 0
EndsWithRaces plan old new ending = (outcome : Outcome) × (races : List Race) × HasRaces plan outcome races × (ending ≡ ending_with outcome races) × Appends old new (race_text plan outcome races)

-- what a fault leaves of that: a first part, or nothing
abbrev pub FailsWithRaces : Plan → Option (List ℕ) → Option (List ℕ) → Fault → Type 0
FailsWithRaces plan old new faults.CannotWrite = (outcome : Outcome) × (races : List Race) × HasRaces plan outcome races × AppendsFront old new (race_text plan outcome races)
FailsWithRaces plan old new faults.CannotStart = new ≡ old
FailsWithRaces plan old new faults.Memory = new ≡ old
FailsWithRaces plan old new faults.TooLong = ⊥

-- what the bytes of a race text come to, where they are told, with what was written before and after
abbrev pub RacesTo : Option (List ℕ) → Option (List ℕ) → Option (List ℕ) → Status → Type 0
RacesTo told old new status = ComesBy Races (λ plan ending. EndsWithRaces plan old new ending) (λ plan fault. FailsWithRaces plan old new fault) told old new status
