-- The outcome of Outcomes.antt, computed: with as many rounds as are enough.
use Rattle.std.specs.Prelude.{ℕ, zero, suc, ◌+◌, List, [], if◌then◌else◌}
use Rattle.workload.specs.Plan.{Plan}
use Rattle.step_runner.specs.declared.step.Step.{Step}
use Rattle.step_runner.specs.declared.step.Step.TheVariants as steps
use Rattle.script_calls.specs.declared.outcome.Ending.{Ending}
use Rattle.script_calls.specs.declared.outcome.Ending.TheVariants as endings
use Rattle.script_calls.specs.declared.outcome.Outcome.{Outcome}
use Rattle.script_calls.specs.declared.outcome.Outcome.TheVariants as outcomes
use Rattle.step_runner.specs.declared.ends.VariableEnd.{VariableEnd}
use Rattle.step_runner.specs.State.{State, start}
use Rattle.step_runner.specs.Turns.{items_of, round, has_ended}
use Rattle.step_runner.specs.LeftToDo.{left_to_do}
use Rattle.step_runner.specs.Ends.{variables_behind, scheduled_ends, left_in}

-- how a run ends or goes on behind a round
abbrev pub behind_round : State × Step → (State → State × Ending) → State × Ending
behind_round (s, steps.Still) rest = (s, endings.Deadlocked)
behind_round (s, steps.Made) rest = rest s
behind_round (s, steps.Misused misuse) rest = (s, endings.Misused misuse)

-- rounds until the run ends, so many at most
abbrev pub rounds_of : ℕ → Plan → State → State × Ending
rounds_of zero plan s = (s, endings.Deadlocked)
rounds_of (suc n) plan s = if has_ended plan s then (s, endings.Done) else behind_round (items_of plan (round plan.workers) s) (rounds_of n plan)

-- as many as suffice: each round makes an event, and each event lowers what is left to do
abbrev pub all_rounds : Plan → State → State × Ending
all_rounds plan s = rounds_of (left_to_do plan s + 1) plan s

-- what is behind the schedule
abbrev pub behind_schedule : Plan → State × Step → State × Ending
behind_schedule plan (s, steps.Still) = all_rounds plan s
behind_schedule plan (s, steps.Made) = all_rounds plan s
behind_schedule plan (s, steps.Misused misuse) = (s, endings.Misused misuse)

-- the schedule's items in order, and then rounds
abbrev pub whole_run : Plan → State × Ending
whole_run plan = behind_schedule plan (items_of plan plan.schedule (start plan))

-- what the run leaves behind
abbrev pub outcome_of : Plan → State × Ending → Outcome
outcome_of plan (s, endings.Done) = outcomes.Done (left_in plan s (scheduled_ends plan s.objects))
outcome_of plan (s, endings.Misused misuse) = outcomes.Misused (left_in plan s []) misuse
outcome_of plan (s, endings.Deadlocked) = outcomes.Deadlocked (left_in plan s [])

-- what the run by the schedule comes to
abbrev pub turns : Plan → Outcome
turns plan = outcome_of plan (whole_run plan)

-- what the plain variables hold at its end, if it is done
abbrev pub variables_left : Plan → List VariableEnd
variables_left plan = let run = whole_run plan in variables_behind run.0.objects run.1
