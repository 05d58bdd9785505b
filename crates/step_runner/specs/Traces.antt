-- The trace of a run by schedule: what each turn made, in order.
use Rattle.std.specs.Prelude.{◌≡◌, ℕ, zero, suc, ◌+◌, ◌-◌, ◌==◌, Bool, true, cond, List, [], ◌∷◌, ◌++◌, length, get_or, slice_get, Option, Some, None, if◌then◌else◌}
use Rattle.std.specs.List.{flat_map}
use Rattle.std.specs.Option.{option_map_or, option_to_list}
use Rattle.script_calls.specs.declared.call.Call.{Call}
use Rattle.script_calls.specs.declared.call.Reply.{Reply}
use Rattle.script_calls.specs.declared.outcome.Outcome.{Outcome}
use Rattle.script_calls.specs.declared.outcome.Outcome.TheVariants as outcomes
use Rattle.workload.specs.declared.turn.Turn.{Turn}
use Rattle.workload.specs.declared.turn.Turn.TheVariants as items
use Rattle.workload.specs.Plan.{Plan}
use Rattle.step_runner.specs.declared.step.Step.{Step}
use Rattle.step_runner.specs.declared.step.Step.TheVariants as steps
use Rattle.step_runner.specs.declared.trace.TraceItem.{TraceItem}
use Rattle.step_runner.specs.declared.turns.answer.Answer.{Answer}
use Rattle.step_runner.specs.declared.turns.answer.Answer.TheVariants as answers
use Rattle.step_runner.specs.declared.turns.item.Item.{Item}
use Rattle.step_runner.specs.LeftToDo.{left_to_do}
use Rattle.step_runner.specs.Spelt.{has_made}
use Rattle.step_runner.specs.State.{State, start}
use Rattle.step_runner.specs.TurnWithin.{turn_within, items_within}
use Rattle.step_runner.specs.Turns.{script_left, begun_by, is_behind, next_call, item_of, items_of, round, has_ended}

-- ---- of one turn

-- the place in its script of the call before which a worker stands
abbrev pub place_in_script : Plan → ℕ → State → ℕ
place_in_script plan worker s = length (get_or plan.scripts worker []) - length (script_left plan worker s)

-- what is told of a turn of a call of the script, and of the turn of the `done` behind it, which has no reply
abbrev pub script_turn : (worker : ℕ) → Call → (place : ℕ) → List Item → Option (Reply (List ℕ)) → TraceItem
script_turn worker call place made reply = record { worker = worker; call = Some call; index = Some place; made = made; reply = reply }

abbrev pub closing_turn : (worker : ℕ) → List Item → TraceItem
closing_turn worker made = record { worker = worker; call = None; index = None; made = made; reply = None }

-- the reply by which an answer completes a call
abbrev pub reply_of : Answer → Option (Reply (List ℕ))
reply_of answers.Still = None
reply_of answers.Unfinished = None
reply_of (answers.Completed reply) = Some reply
reply_of (answers.Misused misuse) = None

-- whether a turn with this answer made an event or completed its call
abbrev pub is_told : List Item → Answer → Bool
is_told made answers.Still = has_made made
is_told made answers.Unfinished = true
is_told made (answers.Completed reply) = true
is_told made (answers.Misused misuse) = true

-- by what a turn made and answered
abbrev pub told_by : (List Item → Option (Reply (List ℕ)) → TraceItem) → List Item → Answer → List TraceItem
told_by told made answer = cond (is_told made answer) (told made (reply_of answer) ∷ []) []

-- of a turn of a worker that stands before this call: of its script, or behind it
abbrev pub turn_told : Plan → ℕ → State → Call → List Item → Option (Reply (List ℕ)) → TraceItem
turn_told plan worker s call made reply = cond (is_behind plan worker s) (closing_turn worker made) (script_turn worker call (place_in_script plan worker s) made reply)

-- of a worker's turn: nothing, where nothing is left for it
abbrev pub traced_by : Plan → ℕ → State → List TraceItem
traced_by plan worker s =
    option_map_or
    (λ call. told_by (turn_told plan worker s call) (items_within call worker s.moment (begun_by worker s) s.objects) (turn_within call worker s.moment (begun_by worker s) s.objects).1)
    (next_call plan worker s) []

-- ---- of turns in order

-- nothing follows a misuse
abbrev pub unless_over : State × Step → (State → List TraceItem) → List TraceItem
unless_over (s, steps.Still) rest = rest s
unless_over (s, steps.Made) rest = rest s
unless_over (s, steps.Misused misuse) rest = []

-- of an item of a schedule
abbrev pub traced_turn : Plan → Turn → State → List TraceItem
traced_turn plan (items.Worker worker) s = traced_by plan worker s
traced_turn plan (items.Moment moment) s = []

-- what is told of the turns that a schedule gives from a state on
abbrev pub traced_from : Plan → List Turn → State → List TraceItem
traced_from plan [] s = []
traced_from plan (item ∷ rest) s = traced_turn plan item s ++ unless_over (item_of plan item s) (traced_from plan rest)

-- ---- of a run

-- nothing follows a round without an event, or a misuse
abbrev pub unless_resting : State × Step → (State → List TraceItem) → List TraceItem
unless_resting (s, steps.Still) rest = []
unless_resting (s, steps.Made) rest = rest s
unless_resting (s, steps.Misused misuse) rest = []

-- of rounds until the run ends, so many at most
abbrev pub traced_rounds : ℕ → Plan → State → List TraceItem
traced_rounds zero plan s = []
traced_rounds (suc n) plan s =
    if has_ended plan s then [] else (traced_from plan (round plan.workers) s ++ unless_resting (items_of plan (round plan.workers) s) (traced_rounds n plan))

-- as many as suffice: each round makes an event, and each event lowers what is left to do
abbrev pub all_rounds_traced : Plan → State → List TraceItem
all_rounds_traced plan s = traced_rounds (left_to_do plan s + 1) plan s

-- the schedule's turns in order, and then rounds
abbrev pub trace_of : Plan → List TraceItem
trace_of plan = traced_from plan plan.schedule (start plan) ++ unless_over (items_of plan plan.schedule (start plan)) (all_rounds_traced plan)

-- ---- what a trace tells

-- the replies to one worker's calls, in order
abbrev pub replies_told : ℕ → List TraceItem → List (Reply (List ℕ))
replies_told worker trace = flat_map (λ one. cond (one.worker == worker) (option_to_list one.reply) []) trace

-- what was done, turn by turn
abbrev pub items_told : List TraceItem → List Item
items_told trace = flat_map (λ one. one.made) trace

-- the call is the one that stands at the place in a script; the `done` behind it has neither, and no reply
abbrev pub IsPlaced : List Call → Option Call → Option ℕ → Option (Reply (List ℕ)) → Type 0
IsPlaced script (Some call) (Some place) reply = slice_get script place ≡ Some call
IsPlaced script None None None = Unit {0}
IsPlaced script call place reply = ⊥

-- for each worker the replies of an outcome
abbrev pub replies_left : Outcome → List (List (Reply ℕ))
replies_left (outcomes.Done report) = report.replies
replies_left (outcomes.Misused report misuse) = report.replies
replies_left (outcomes.Deadlocked report) = report.replies
