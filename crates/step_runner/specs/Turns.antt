-- The run of a workload by its schedule: who takes a turn when.
use Rattle.std.specs.Prelude.{ℕ, Bool, true, false, not, cond, List, [], ◌∷◌, ◌++◌, map, get_or, set, slice_get, Option, Some, None, is_some}
use Rattle.std.specs.List.{list_all, range_with_len}
use Rattle.std.specs.Option.{option_map_or}
use Rattle.script_calls.specs.Runs.{left_of}
use Rattle.script_calls.specs.Starts.{started_by, group_of}
use Rattle.script_calls.specs.declared.call.Call.{Call}
use Rattle.script_calls.specs.declared.call.Reply.{Reply}
use Rattle.workload.specs.declared.turn.Turn.{Turn}
use Rattle.workload.specs.declared.turn.Turn.TheVariants as items
use Rattle.workload.specs.Plan.{Plan, is_dormant}
use Rattle.step_runner.specs.declared.turns.answer.Answer.{Answer}
use Rattle.step_runner.specs.declared.turns.answer.Answer.TheVariants as answers
use Rattle.step_runner.specs.TurnWithin.{Taken, done_on, turn_within}
use Rattle.step_runner.specs.declared.step.Step.{Step}
use Rattle.step_runner.specs.declared.step.Step.TheVariants as steps
use Rattle.step_runner.specs.declared.state.Stand.{Stand}
use Rattle.step_runner.specs.declared.state.Stand.TheVariants.{Waits, Live, Gone}
use Rattle.step_runner.specs.State.{State, stand_of, with_stand, with_started, with_reply, with_moment}

-- ---- a turn

-- what is left of a worker's script behind its replies
abbrev pub script_left : Plan → ℕ → State → List Call
script_left plan worker s = left_of (get_or plan.scripts worker []) (get_or s.replies worker [])

-- the `done` on this group, if there is one
abbrev pub done_calls : Option ℕ → List Call
done_calls None = []
done_calls (Some group) = done_on group ∷ []

-- what a worker makes behind its script: one that waits to be started, and is, is done on the group of its `go`
abbrev pub closing_calls : Plan → ℕ → List Call
closing_calls plan worker = cond (is_dormant plan worker) (done_calls (group_of worker plan.scripts)) []

-- what may be left for a worker, whether it is started yet or not: nothing once it is gone
abbrev pub left_until : Stand → List Call → List Call
left_until Waits left = left
left_until Live left = left
left_until Gone left = []

abbrev pub all_left : Plan → ℕ → State → List Call
all_left plan worker s = left_until (stand_of worker s) (script_left plan worker s ++ closing_calls plan worker)

-- what is left for it: nothing before it is started
abbrev pub left_once : Stand → List Call → List Call
left_once Waits left = []
left_once Live left = left
left_once Gone left = []

abbrev pub left_for : Plan → ℕ → State → List Call
left_for plan worker s = left_once (stand_of worker s) (script_left plan worker s ++ closing_calls plan worker)

-- the call before which a worker stands: none, where nothing is left for it
abbrev pub next_call : Plan → ℕ → State → Option Call
next_call plan worker s = slice_get (left_for plan worker s) 0

abbrev pub is_empty : List Call → Bool
is_empty [] = true
is_empty (call ∷ rest) = false

-- whether a worker's script is at its end: the call before which it stands is the one behind it
abbrev pub is_behind : Plan → ℕ → State → Bool
is_behind plan worker s = is_empty (script_left plan worker s)

-- a call of a script is completed: its worker has the reply, and the worker that it starts, if any, is started
abbrev pub answered : ℕ → Call → Reply (List ℕ) → State → State
answered worker call reply s = with_started (started_by call.operation) (with_reply worker reply s)

-- a call is completed. The one behind the script has no reply, and its worker is gone then
abbrev pub completed : Plan → ℕ → Call → Reply (List ℕ) → State → State
completed plan worker call reply s = cond (is_behind plan worker s) (with_stand worker Gone s) (answered worker call reply s)

-- what an answer means for the run, by what a completed call does
abbrev pub settled_by : (Reply (List ℕ) → State → State) → Answer → State → State × Step
settled_by completes answers.Still s = (s, steps.Still)
settled_by completes answers.Unfinished s = (s, steps.Made)
settled_by completes (answers.Completed reply) s = (completes reply s, steps.Made)
settled_by completes (answers.Misused misuse) s = (s, steps.Misused misuse)

abbrev pub settled : Plan → ℕ → Call → Answer → State → State × Step
settled plan worker call answer s = settled_by (completed plan worker call) answer s

abbrev pub settled_with : Plan → ℕ → Call → Taken → State → State × Step
settled_with plan worker call step s = settled plan worker call step.1 (record s { objects = step.0.0; begun = set s.begun worker step.0.1 })

-- how many waits of its call a worker has begun
abbrev pub begun_by : ℕ → State → ℕ
begun_by worker s = get_or s.begun worker 0

-- a turn of a worker: one for which nothing is left makes no event
abbrev pub turn_of : Plan → ℕ → State → State × Step
turn_of plan worker s = option_map_or (λ call. settled_with plan worker call (turn_within call worker s.moment (begun_by worker s) s.objects) s) (next_call plan worker s) (s, steps.Still)

-- ---- turns in order

-- an item of a schedule: a worker takes a turn, or the clock is set, which is no event
abbrev pub item_of : Plan → Turn → State → State × Step
item_of plan (items.Worker worker) s = turn_of plan worker s
item_of plan (items.Moment moment) s = (with_moment moment s, steps.Still)

-- an event was made before
abbrev pub with_event : State × Step → State × Step
with_event (s, steps.Still) = (s, steps.Made)
with_event (s, steps.Made) = (s, steps.Made)
with_event (s, steps.Misused misuse) = (s, steps.Misused misuse)

-- what follows takes place unless a turn was a misuse
abbrev pub and_then : State × Step → (State → State × Step) → State × Step
and_then (s, steps.Still) rest = rest s
and_then (s, steps.Made) rest = with_event (rest s)
and_then (s, steps.Misused misuse) rest = (s, steps.Misused misuse)

-- items, taken in order
abbrev pub items_of : Plan → List Turn → State → State × Step
items_of plan [] s = (s, steps.Still)
items_of plan (item ∷ rest) s = and_then (item_of plan item s) (items_of plan rest)

-- the state behind them
abbrev pub after_items : Plan → List Turn → State → State
after_items plan items s = (items_of plan items s).0

-- ---- rounds

-- a round: each worker from 0 up takes one turn
abbrev pub round : ℕ → List Turn
round workers = map (λ worker. items.Worker worker) (range_with_len 0 workers)

-- whether every worker has ended that was live: no worker stands before a call
abbrev pub has_ended : Plan → State → Bool
has_ended plan s = list_all (λ worker. not (is_some (next_call plan worker s))) (range_with_len 0 plan.workers)
