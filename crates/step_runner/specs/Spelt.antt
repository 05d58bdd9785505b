-- How the items of a run fall into the calls of its scripts, in the words of a record.
use Rattle.std.specs.Prelude.{◌≡◌, ℕ, ◌==◌, ◌&&◌, Bool, true, false, cond, if◌then◌else◌, List, [], ◌∷◌, ◌++◌, map, filter, take, length, get_or, slice_get, Option, Some, None}
use Rattle.std.specs.List.{range_with_len, flat_map}
use Rattle.script_calls.specs.declared.call.Call.{Call}
use Rattle.script_calls.specs.declared.call.Reply.{Reply}
use Rattle.sync_types.specs.declared.misuse.Misuse.{Misuse}
use Rattle.script_calls.specs.declared.outcome.Outcome.{Outcome}
use Rattle.script_calls.specs.declared.outcome.Outcome.TheVariants.{Done, Misused, Deadlocked}
use Rattle.script_calls.specs.Runs.{RunsAlong}
use Rattle.starts_core.specs.declared.starts.StartEvent.{StartEvent}
use Rattle.starts_core.specs.declared.starts.StartEvent.TheVariants as starts
use Rattle.starts_core.specs.declared.starts.StartReply.{StartReply}
use Rattle.starts_core.specs.declared.starts.StartReply.TheVariants as told
use Rattle.workload.specs.Plan.{Plan, is_dormant, has_dormant}
use Rattle.workload.specs.declared.turn.Turn.{Turn}
use Rattle.workload.specs.declared.turn.Turn.TheVariants as items
use Rattle.run_record.specs.Lines.{SpeltCall, LineEnd, whole, misused, halted, unfinished, stayed, never, stopped, waits, Line, calls_made, items_of, replies_of, IsLineOf}
use Rattle.run_record.specs.Objects.{starts_number}
use Rattle.run_record.specs.Record.{shared_in}
use Rattle.run_record.specs.declared.entered.ObjectEvent.TheVariants as events
use Rattle.run_record.specs.declared.entered.ObjectReply.TheVariants as answered
use Rattle.run_record.specs.declared.made.Made.{Made}
use Rattle.step_runner.specs.declared.turns.item.Item.{Item}
use Rattle.step_runner.specs.Recorded.{recorded_reply, recorded, made_on}
use Rattle.step_runner.specs.declared.step.Step.{Step}
use Rattle.step_runner.specs.declared.step.Step.TheVariants as steps
use Rattle.step_runner.specs.CallTurns.{stands_before}
use Rattle.step_runner.specs.RunItems.{made_by, unless_ended, all_made}
use Rattle.step_runner.specs.State.{State, start, with_moment}
use Rattle.step_runner.specs.Turns.{next_call, turn_of, after_items}

-- what one worker made, in its order
abbrev pub by_worker : ℕ → List Item → List Item
by_worker worker made = filter (λ item. item.caller == worker) made

-- what a worker makes on Starts
abbrev pub made_on_starts : Plan → ℕ → StartEvent → StartReply → List Made
made_on_starts plan worker event answer = made_on plan (starts_number plan) worker (events.Starts event) (answered.Starts answer) ∷ []

-- whoever waits to be started, and is, goes with the first turn that makes an item
abbrev pub going_items : Plan → ℕ → List Made
going_items plan worker = cond (is_dormant plan worker) (made_on_starts plan worker starts.Leave told.Go) []

-- before a worker's script: whoever comes to it goes, and at the end of the run each that was never started leaves
abbrev pub opening_items : Plan → ℕ → LineEnd → List Made
opening_items plan worker (stayed never) = made_on_starts plan worker starts.Leave told.Never
opening_items plan worker (stayed (stopped misuse)) = []
opening_items plan worker (stayed waits) = []
opening_items plan worker whole = going_items plan worker
opening_items plan worker (misused misuse) = going_items plan worker
opening_items plan worker (halted misuse) = going_items plan worker
opening_items plan worker unfinished = going_items plan worker

-- behind it, where some workers wait to be started: each that came to its script ends with its last call, or before the first turn where it has none. The `done` of one that was
-- started is a turn of its own
abbrev pub closing_items : Plan → ℕ → LineEnd → List Made
closing_items plan worker whole = cond (has_dormant plan) (made_on_starts plan worker starts.End told.Done) []
closing_items plan worker (misused misuse) = []
closing_items plan worker (halted misuse) = []
closing_items plan worker unfinished = []
closing_items plan worker (stayed stay) = []

-- its list, as a record has it, where it ends so
abbrev pub list_of : Plan → List Item → ℕ → LineEnd → List Made
list_of plan made worker ending = opening_items plan worker ending ++ (recorded plan 0 (by_worker worker made) ++ closing_items plan worker ending)

-- those of all workers
abbrev pub lists_of : Plan → List Item → (ℕ → LineEnd) → List (List Made)
lists_of plan made ending = map (λ worker. list_of plan made worker (ending worker)) (range_with_len 0 plan.workers)

-- what a turn makes for a worker's call of this number, counted from 0: nothing, where it is another's, or the worker stands before another call
abbrev pub part_by : Plan → ℕ → ℕ → ℕ → State → List Item
part_by plan worker number by s = if (by == worker) && stands_before worker number s then made_by plan by s else []

-- what all turns make for that call that a schedule gives from a state on
abbrev pub made_for : Plan → ℕ → ℕ → List Turn → State → List Item
made_for plan worker number [] s = []
made_for plan worker number (items.Worker by ∷ rest) s = part_by plan worker number by s ++ unless_ended (turn_of plan by s) (made_for plan worker number rest)
made_for plan worker number (items.Moment moment ∷ rest) s = made_for plan worker number rest (with_moment moment s)

-- how many calls on maps and atomics stand among the items of the first so many calls
abbrev pub count_before : ℕ → List SpeltCall → ℕ
count_before number spelt = length (shared_in (flat_map (λ one. one.items) (take number spelt)))

-- the misuse that a turn of this worker was, if one was: nothing follows it
abbrev pub misuse_by : ℕ → ℕ → State × Step → (State → Option Misuse) → Option Misuse
misuse_by worker by (s, steps.Still) rest = rest s
misuse_by worker by (s, steps.Made) rest = rest s
misuse_by worker by (s, steps.Misused misuse) rest = if by == worker then Some misuse else None

abbrev pub misuse_of : Plan → ℕ → List Turn → State → Option Misuse
misuse_of plan worker [] s = None
misuse_of plan worker (items.Worker by ∷ rest) s = misuse_by worker by (turn_of plan by s) (misuse_of plan worker rest)
misuse_of plan worker (items.Moment moment ∷ rest) s = misuse_of plan worker rest (with_moment moment s)

-- how a worker's list ends, by the call before which it stands, if there is one, and by the misuse that it met
abbrev pub ending_by : Option Call → Option Misuse → LineEnd
ending_by next (Some misuse) = misused misuse
ending_by None None = whole
ending_by (Some call) None = unfinished

-- of one that didn't come to its script, by whether the run has ended
abbrev pub stays_by : Bool → LineEnd
stays_by over = stayed (cond over never waits)

abbrev pub has_made : List Item → Bool
has_made [] = false
has_made (item ∷ items) = true

-- whether a worker came to its script: one that waits to be started comes to it with its first item
abbrev pub came : Plan → List Item → ℕ → Bool
came plan made worker = cond (is_dormant plan worker) (has_made (by_worker worker made)) true

-- by whether it came, whether the run has ended, the call before which it stands, and the misuse that it met
abbrev pub ending_of : (has_come over : Bool) → Option Call → Option Misuse → LineEnd
ending_of has_come over next met = cond has_come (ending_by next met) (stays_by over)

-- whether every worker that was live has ended
abbrev pub is_over : Outcome → Bool
is_over (Done left) = true
is_over (Misused left misuse) = false
is_over (Deadlocked left) = false

-- how the lists of an outcome end, by the items of its run, the state at its end, and the misuses that its workers met
abbrev pub endings_of : Plan → Outcome → List Item → State → (ℕ → Option Misuse) → ℕ → LineEnd
endings_of plan outcome made s met worker = ending_of (came plan made worker) (is_over outcome) (next_call plan worker s) (met worker)

-- those of an outcome to which these items of a schedule lead
abbrev pub outcome_endings : Plan → Outcome → List Turn → ℕ → LineEnd
outcome_endings plan outcome list worker =
    endings_of plan outcome (all_made plan list (start plan)) (after_items plan list (start plan)) (λ by. misuse_of plan by list (start plan)) worker

-- each line ends so, and halts nothing
abbrev pub EndAs : (ℕ → LineEnd) → List Line → Type 0
EndAs ending lines = (worker : ℕ) (line : Line) → slice_get lines worker ≡ Some line → (line.ending ≡ ending worker) × (line.halts ≡ [])

-- A worker's items fall into the calls of a run of its script: those that were completed, each spelt by its items, with these replies, and behind them at most one more: the next one, or
-- the `done` behind the script. The items of each call are those that its own turns made. Where some workers wait to be started, what they make on Starts stands before and behind these
pub record Falls (plan : Plan) (over : Bool) (worker : ℕ) (made : List Item) (made_for_call : ℕ → List Item) (given : List (Reply (List ℕ))) (next : Option Call) (met : Option Misuse) : Type 0 where
  pub line : Line
  pub runs : RunsAlong (get_or plan.scripts worker []) (calls_made line) line.rest
  pub items : items_of line ≡ list_of plan made worker line.ending
  pub replies : replies_of line ≡ map (recorded_reply plan) given
  pub is : IsLineOf plan worker line
  pub turns : (number : ℕ) (one : SpeltCall) → slice_get line.spelt number ≡ Some one → one.items ≡ recorded plan (count_before number line.spelt) (made_for_call number)
  pub before : line.first ≡ opening_items plan worker line.ending
  pub behind : line.last ≡ recorded plan (length (shared_in (flat_map (λ one. one.items) line.spelt))) (made_for_call (length line.spelt)) ++ closing_items plan worker line.ending
  pub ends : line.ending ≡ ending_of (came plan made worker) over next met
  pub halts : line.halts ≡ []  -- a misuse ends the run at once
