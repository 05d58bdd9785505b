-- Which calls of the scripts turns complete.
use Rattle.std.specs.Prelude.{ℕ, List, [], ◌∷◌, ◌++◌, map, length, get_or, nat_lt, ◌==◌, if◌then◌else◌}
use Rattle.std.specs.List.{filter}
use Rattle.std.specs.Option.{option_to_list}
use Rattle.script_calls.specs.declared.call.Call.{Call}
use Rattle.workload.specs.declared.turn.Turn.{Turn}
use Rattle.workload.specs.declared.turn.Turn.TheVariants as items
use Rattle.workload.specs.Plan.{Plan}
use Rattle.step_runner.specs.declared.step.Step.{Step}
use Rattle.step_runner.specs.declared.step.Step.TheVariants as steps
use Rattle.step_runner.specs.State.{State, with_moment}
use Rattle.step_runner.specs.Turns.{next_call, turn_of}

-- the call of its script that a turn of a worker completes: the worker has one reply more then
abbrev pub completed_by : Plan → ℕ → State → List Call
completed_by plan worker s =
    if nat_lt (length (get_or s.replies worker [])) (length (get_or (turn_of plan worker s).0.replies worker []))
    then option_to_list (next_call plan worker s)
    else []

-- nothing follows a misuse
abbrev pub unless_misused : State × Step → (State → List (ℕ × Call)) → List (ℕ × Call)
unless_misused (s, steps.Still) rest = rest s
unless_misused (s, steps.Made) rest = rest s
unless_misused (s, steps.Misused misuse) rest = []

-- the calls that items of a schedule complete, in order, each with its worker
abbrev pub made_calls : Plan → List Turn → State → List (ℕ × Call)
made_calls plan [] s = []
made_calls plan (items.Worker worker ∷ rest) s = map (λ call. (worker, call)) (completed_by plan worker s) ++ unless_misused (turn_of plan worker s) (made_calls plan rest)
made_calls plan (items.Moment moment ∷ rest) s = made_calls plan rest (with_moment moment s)

-- those of one worker
abbrev pub calls_of : ℕ → List (ℕ × Call) → List Call
calls_of worker made = map (λ one. one.1) (filter (λ one. one.0 == worker) made)
