-- What a run by schedule comes to, with no word on how many rounds are enough.
use Rattle.std.specs.Prelude.{◌≡◌, ℕ, zero, suc, Bool, true, false, List, [], ◌++◌}
use Rattle.sync_types.specs.declared.misuse.Misuse.{Misuse}
use Rattle.workload.specs.declared.turn.Turn.{Turn}
use Rattle.workload.specs.Plan.{Plan}
use Rattle.step_runner.specs.declared.step.Step.{Step}
use Rattle.step_runner.specs.declared.step.Step.TheVariants as steps
use Rattle.script_calls.specs.declared.outcome.Report.{Report}
use Rattle.script_calls.specs.declared.outcome.Outcome.{Outcome}
use Rattle.script_calls.specs.declared.outcome.Outcome.TheVariants as outcomes
use Rattle.step_runner.specs.State.{State, start}
use Rattle.step_runner.specs.Turns.{items_of, round, has_ended}
use Rattle.step_runner.specs.Ends.{scheduled_ends, left_in}

-- so many whole rounds
abbrev pub rounds : ℕ → ℕ → List Turn
rounds zero workers = []
rounds (suc n) workers = round workers ++ rounds n workers

abbrev pub is_misused : Step → Bool
is_misused steps.Still = false
is_misused steps.Made = false
is_misused (steps.Misused misuse) = true

-- the schedule and some whole rounds behind it lead to this state, and no turn was a misuse
pub record Reaches (plan : Plan) (s : State) : Type 0 where
  pub count : ℕ
  pub step : Step
  pub is : items_of plan (plan.schedule ++ rounds count plan.workers) (start plan) ≡ (s, step)
  pub goes_on : is_misused step ≡ false

-- every script has ended, but those of workers that were never started
pub record IsDone (plan : Plan) (report : Report) : Type 0 where
  pub state : State
  pub reached : Reaches plan state
  pub ended : has_ended plan state ≡ true
  pub leaves : report ≡ left_in plan state (scheduled_ends plan state.objects)

-- a turn of the schedule, or of some round, was a misuse
pub record IsMisused (plan : Plan) (report : Report) (misuse : Misuse) : Type 0 where
  pub state : State
  pub count : ℕ
  pub is : items_of plan (plan.schedule ++ rounds count plan.workers) (start plan) ≡ (state, steps.Misused misuse)
  pub leaves : report ≡ left_in plan state []

-- a whole round makes no event, and a script has calls left
pub record IsDeadlocked (plan : Plan) (report : Report) : Type 0 where
  pub state : State
  pub reached : Reaches plan state
  pub going : has_ended plan state ≡ false
  pub still : items_of plan (round plan.workers) state ≡ (state, steps.Still)
  pub leaves : report ≡ left_in plan state []

-- the run of a plan by its schedule comes to this outcome
abbrev pub StepsTo : Plan → Outcome → Type 0
StepsTo plan (outcomes.Done report) = IsDone plan report
StepsTo plan (outcomes.Misused report misuse) = IsMisused plan report misuse
StepsTo plan (outcomes.Deadlocked report) = IsDeadlocked plan report
