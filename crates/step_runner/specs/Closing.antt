-- The turn that a worker takes behind its script: the `done` on the group of the `go` that started it.
use Rattle.std.specs.Prelude.{◌≡◌, ℕ, ◌==◌, ◌&&◌, Bool, Some}
use Rattle.script_calls.specs.Starts.{group_of}
use Rattle.script_calls.specs.declared.call.Call.{Call}
use Rattle.workload.specs.Plan.{Plan}
use Rattle.step_runner.specs.TurnWithin.{done_on}
use Rattle.step_runner.specs.CallTurns.{makes_event}
use Rattle.step_runner.specs.declared.step.Step.{Step}
use Rattle.step_runner.specs.declared.step.Step.TheVariants as steps
use Rattle.step_runner.specs.declared.state.Stand.TheVariants.{Gone}
use Rattle.step_runner.specs.State.{State, stand_of}
use Rattle.step_runner.specs.Turns.{is_behind, turn_of}

-- behind a turn that makes an event the worker is gone, unless the turn was a misuse
abbrev pub GoesOrMisuses : ℕ → State × Step → Type 0
GoesOrMisuses worker (s, steps.Still) = ⊥
GoesOrMisuses worker (s, steps.Made) = stand_of worker s ≡ Gone
GoesOrMisuses worker (s, steps.Misused misuse) = Unit {0}

-- the call is that `done`, and the worker's next turn makes it whole, without a reply
abbrev pub IsLastDone : Plan → ℕ → Call → State → Type 0
IsLastDone plan worker call s =
    (group : ℕ) × (group_of worker plan.scripts ≡ Some group) × (call ≡ done_on group) × GoesOrMisuses worker (turn_of plan worker s) × ((turn_of plan worker s).0.replies ≡ s.replies)

-- a turn of the worker that makes an event though its script is at its end
abbrev pub closes : Plan → ℕ → ℕ → State → Bool
closes plan worker by s = (by == worker) && (is_behind plan worker s && makes_event (turn_of plan by s).1)
