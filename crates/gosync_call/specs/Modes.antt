-- What a file comes to by each way to run it.
use Rattle.std.specs.Prelude.{ℕ, List, Option}
use Rattle.workload.specs.Plan.{Plan}
use Rattle.workload.specs.declared.keyword.Dialect.{Dialect}
use Rattle.workload.specs.declared.keyword.Dialect.TheVariants.{Plain, Runs, Races}
use Rattle.step_runner.specs.Outcomes.{StepsTo}
use Rattle.gosync_call.specs.ComesTo.{ComesBy, EndsWithReport, Fails}
use Rattle.gosync_call.specs.Headline.{RunsTo}
use Rattle.gosync_call.specs.Races.{EndsWithRaces, FailsWithRaces}
use Rattle.gosync_call.specs.Traces.{EndsWithRecord, FailsWithRecord}
use Rattle.gosync_call.specs.declared.status.Ending.{Ending}
use Rattle.gosync_call.specs.declared.status.Fault.{Fault}
use Rattle.gosync_call.specs.declared.status.Status.{Status}
use Rattle.gosync_call.specs.declared.words.Mode.{Mode}
use Rattle.gosync_call.specs.declared.words.Mode.TheVariants as modes

-- which words its text may have: those of plain variables only where races are asked for, those of semaphores and flights only where a report is all that is told
abbrev pub dialect_of : Mode → Dialect
dialect_of modes.Step = Runs
dialect_of modes.Run = Runs
dialect_of modes.Race = Races
dialect_of modes.Trace = Plain

-- a run of the workload ended so, and all that is told of it was written
abbrev pub EndsBy : Mode → Plan → Option (List ℕ) → Option (List ℕ) → Ending → Type 0
EndsBy modes.Step plan old new ending = EndsWithReport StepsTo plan old new ending
EndsBy modes.Run plan old new ending = EndsWithReport RunsTo plan old new ending
EndsBy modes.Race plan old new ending = EndsWithRaces plan old new ending
EndsBy modes.Trace plan old new ending = EndsWithRecord plan old new ending

-- what a fault leaves of that
abbrev pub StopsBy : Mode → Plan → Option (List ℕ) → Option (List ℕ) → Fault → Type 0
StopsBy modes.Step plan old new fault = Fails StepsTo plan old new fault
StopsBy modes.Run plan old new fault = Fails RunsTo plan old new fault
StopsBy modes.Race plan old new fault = FailsWithRaces plan old new fault
StopsBy modes.Trace plan old new fault = FailsWithRecord plan old new fault

-- what the bytes of a file come to, where they are told, with what was written before and after
abbrev pub ModeComesTo : Mode → Option (List ℕ) → Option (List ℕ) → Option (List ℕ) → Status → Type 0
ModeComesTo mode told old new status = ComesBy (dialect_of mode) (λ plan ending. EndsBy mode plan old new ending) (λ plan fault. StopsBy mode plan old new fault) told old new status
