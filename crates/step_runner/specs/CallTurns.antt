-- The turns of a run that are taken for one call, and what they make.
use Rattle.std.specs.Prelude.{ℕ, ◌+◌, ◌==◌, Bool, true, false, not, ◌&&◌, if◌then◌else◌, List, [], ◌∷◌, map, length, get_or, ◌++◌, take, slice_get}
use Rattle.std.specs.Option.{option_map_or}
use Rattle.script_calls.specs.Runs.{made_of}
use Rattle.script_calls.specs.declared.call.Call.{Call}
use Rattle.workload.specs.declared.object.ObjectKind.{ObjectKind}
use Rattle.workload.specs.declared.turn.Turn.{Turn}
use Rattle.workload.specs.declared.turn.Turn.TheVariants as items
use Rattle.workload.specs.Plan.{Plan}
use Rattle.step_runner.specs.TurnsLeft.{is_told}
use Rattle.step_runner.specs.Items.{goes_back, unlocks}
use Rattle.step_runner.specs.declared.step.Step.{Step}
use Rattle.step_runner.specs.declared.step.Step.TheVariants as steps
use Rattle.step_runner.specs.RunItems.{made_by}
use Rattle.step_runner.specs.StandsWithin.{most_turns}
use Rattle.step_runner.specs.declared.state.Stand.{Stand}
use Rattle.step_runner.specs.declared.state.Stand.TheVariants.{Waits, Live, Gone}
use Rattle.step_runner.specs.State.{State, stand_of, with_moment}
use Rattle.step_runner.specs.Turns.{closing_calls, left_for, next_call, turn_of}

-- an event, or a misuse
abbrev pub makes_event : Step → Bool
makes_event steps.Still = false
makes_event steps.Made = true
makes_event (steps.Misused misuse) = true

-- whether a worker stands before its call of this number, counted from 0
abbrev pub stands_before : ℕ → ℕ → State → Bool
stands_before worker number s = length (get_or s.replies worker []) == number

abbrev pub kinds_in : Plan → List ObjectKind
kinds_in plan = map (λ object. object.kind) plan.objects

-- the call behind a worker's script, once it is made
abbrev pub made_behind : Stand → List Call → List Call
made_behind Waits closing = []
made_behind Live closing = []
made_behind Gone closing = closing

-- the calls that a worker has met: those that it completed, the one behind its script too, and the one before which it stands
abbrev pub calls_met : Plan → ℕ → State → List Call
calls_met plan worker s =
    made_of (get_or plan.scripts worker []) (get_or s.replies worker []) ++ (made_behind (stand_of worker s) (closing_calls plan worker) ++ take 1 (left_for plan worker s))

-- how many turns its call of this number may take, counted from 0; none, where it hasn't met it
abbrev pub most_turns_for : Plan → ℕ → ℕ → State → ℕ
most_turns_for plan worker number s = option_map_or (λ call. most_turns call.operation) (slice_get (calls_met plan worker s) number) 0

-- whether a worker was told to go on, at the mutex for which its call waits
abbrev pub was_told : Plan → ℕ → State → Bool
was_told plan worker s = option_map_or (λ call. is_told (kinds_in plan) call worker s.objects) (next_call plan worker s) false

-- ---- which turns are counted, by who takes them and the state before

module _ (plan : Plan) (worker number : ℕ) where
  -- a turn of the worker for its call of this number, which makes an event and isn't a going back to the queue of a mutex
  abbrev pub advances : ℕ → State → Bool
  advances by s = (by == worker) && (stands_before worker number s && (makes_event (turn_of plan by s).1 && not (goes_back (made_by plan by s))))

  -- a turn of the worker for that call which is such a going back
  abbrev pub requeues : ℕ → State → Bool
  requeues by s = (by == worker) && (stands_before worker number s && goes_back (made_by plan by s))

  -- a turn of another worker that unlocks, and tells the worker to go on with that call
  abbrev pub wakes : ℕ → State → Bool
  wakes by s = not (by == worker) && (stands_before worker number s && (unlocks (made_by plan by s) && (not (was_told plan worker s) && was_told plan worker (turn_of plan by s).0)))

-- 1 where it is so
abbrev pub one_if : Bool → ℕ
one_if is = if is then 1 else 0

-- nothing follows a misuse
abbrev pub behind : State × Step → (State → ℕ) → ℕ
behind (s, steps.Still) rest = rest s
behind (s, steps.Made) rest = rest s
behind (s, steps.Misused misuse) rest = 0

-- how many of the turns that a schedule gives from a state on are such ones
abbrev pub count_turns : Plan → (ℕ → State → Bool) → List Turn → State → ℕ
count_turns plan is [] s = 0
count_turns plan is (items.Worker worker ∷ rest) s = one_if (is worker s) + behind (turn_of plan worker s) (count_turns plan is rest)
count_turns plan is (items.Moment moment ∷ rest) s = count_turns plan is rest (with_moment moment s)
