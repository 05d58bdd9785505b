-- What the code finds of a worker's whole list.
use Rattle.std.specs.Prelude.{◌≡◌, ℕ, Bool, true, false, List, [], ◌∷◌, cond, drop, get_or, Option, Some, None, Result, Ok, Err}
use Rattle.std.specs.List.{list_all}
use Rattle.script_calls.specs.declared.call.Call.{Call}
use Rattle.script_calls.specs.declared.call.Operation.{Operation}
use Rattle.script_calls.specs.declared.call.Operation.TheVariants as operations
use Rattle.script_calls.specs.declared.call.Reply.{Reply}
use Rattle.script_calls.specs.Runs.{RunsAlong}
use Rattle.workload.specs.declared.object.ObjectKind.{ObjectKind}
use Rattle.workload.specs.declared.object.ObjectKind.TheVariants as kinds
use Rattle.workload.specs.Dialect.{has_variables}
use Rattle.workload.specs.Plan.{Plan}
use Rattle.run_record.specs.Explains.{HasEnded}
use Rattle.run_record.specs.declared.made.Made.{Made}
use Rattle.run_record.specs.declared.made.Made.TheVariants.{Shared, Entered}
use Rattle.run_record.specs.Lines.{Line, LineEnd, SpeltCall, IsLineOf, calls_made, items_of, whole, misused, halted, unfinished, stayed, never, stopped, waits, replies_of}
use Rattle.run_cuts.specs.CallsAlong.{calls_along}
use Rattle.run_cuts.specs.Cuts.{Beginning}
use Rattle.run_cuts.specs.LineCuts.{is_halt}
use Rattle.run_cuts.specs.OneLine.{SettlesEach, settles_by, with_calls}
use Rattle.list_checks.specs.SpellFound.{IsFound}
use Rattle.list_checks.specs.declared.spell.line.Ending.{Ending}
use Rattle.list_checks.specs.declared.spell.line.Ending.TheVariants as ending
use Rattle.list_checks.specs.declared.spell.line.SpeltLine.{SpeltLine}
use Rattle.list_checks.specs.declared.spell.spelt.Spelt.{Spelt}
use Rattle.list_checks.specs.declared.spell.spelt.Stop.{Stop}
use Rattle.list_checks.specs.declared.spell.spelt.Stop.TheVariants as stop

-- how a list ends
abbrev pub line_end : Ending → LineEnd
line_end ending.Whole = whole
line_end (ending.Misused misuse) = misused misuse
line_end (ending.Halted misuse) = halted misuse
line_end ending.Unfinished = unfinished
line_end ending.Never = stayed never
line_end (ending.Stopped misuse) = stayed (stopped misuse)
line_end ending.Waits = stayed waits

module _ (settles : Call → Reply ℕ → Reply ℕ → Type 0) where
  -- completed calls have these replies
  abbrev pub AreSettled : List SpeltCall → List (Reply ℕ) → Type 0
  AreSettled [] replies = replies ≡ []
  AreSettled (told ∷ more) [] = ⊥
  AreSettled (told ∷ more) (reply ∷ replies) = settles told.call told.reply reply × AreSettled more replies

  module _ (calls : Line → List (Option ℕ)) where
    -- what is told of a line: its replies, how it ends, and of which calls its items are
    abbrev pub IsToldOf : Line → SpeltLine → Type 0
    IsToldOf line spelt = (line.ending ≡ line_end spelt.ending) × AreSettled line.spelt spelt.replies × (calls line ≡ spelt.calls)

    -- what is told is that of the line, and nothing exactly where there is none
    abbrev pub IsLineTold : Option Line → Option SpeltLine → Type 0
    IsLineTold cut None = cut ≡ None
    IsLineTold cut (Some spelt) = (line : Line) × (cut ≡ Some line) × IsToldOf line spelt

-- the same but for the reply
abbrev pub SettlesFound : (Reply ℕ → Reply ℕ → Type 0) → Result (Spelt (Reply ℕ)) Stop → Result (Spelt (Reply ℕ)) Stop → Type 0
SettlesFound settles (Ok told) (Ok spelt) = (spelt.end ≡ told.end) × settles told.outcome spelt.outcome
SettlesFound settles (Ok told) (Err other) = ⊥
SettlesFound settles (Err told) (Ok spelt) = ⊥
SettlesFound settles (Err told) (Err other) = other ≡ told

-- what was found of a call, with a reply that it may have
pub record IsCallFound (settles : Reply ℕ → Reply ℕ → Type 0) (list : List Made) (from : ℕ) (beginning : Beginning (Reply ℕ)) (found : Result (Spelt (Reply ℕ)) Stop) : Type 0 where
  pub told : Result (Spelt (Reply ℕ)) Stop
  pub is : IsFound list from beginning told
  pub settled : SettlesFound settles told found

-- whether an operation of an object is a range of a map
abbrev pub is_range_of_map : ObjectKind → Operation → Bool
is_range_of_map kinds.Map operations.Range = true
is_range_of_map kind operation = false

-- whether it is made of other calls
abbrev pub is_composed : Operation → Bool
is_composed (operations.Composed call) = true
is_composed operation = false

-- the list is one of a line of the worker, along a run of its script
abbrev pub IsLineHere : Plan → ℕ → List Made → Line → Type 0
IsLineHere plan worker list line = RunsAlong (get_or plan.scripts worker []) (calls_made line) line.rest × (items_of line ≡ list) × IsLineOf plan worker line

-- A line with these replies, calls and end is one of the list. Each line of the list that has ended is this one, but for the order in which a range replies pairs whose keys have one name; and each line of the list, ended or not, has the items of these calls
pub record IsSpelling (plan : Plan) (worker : ℕ) (list : List Made) (spelt : SpeltLine) : Type 0 where
  pub line : Line
  pub here : IsLineHere plan worker list line
  pub ending : line.ending ≡ line_end spelt.ending
  pub replies : replies_of line ≡ spelt.replies
  pub calls : calls_along line ≡ spelt.calls
  pub only : (other : Line) → IsLineHere plan worker list other → HasEnded other.ending
      → (with_calls line other.spelt ≡ other) × ((told : List SpeltCall) × SettlesEach (settles_by plan) told line.spelt × SettlesEach (settles_by plan) told other.spelt)
  pub along : (other : Line) → IsLineHere plan worker list other → calls_along other ≡ calls_along line

-- No line of the list has ended. Where the workload has no plain variable, the list has no line at all
pub record HasNoLine (plan : Plan) (worker : ℕ) (list : List Made) : Type 0 where
  pub ended : (line : Line) → IsLineHere plan worker list line → HasEnded line.ending → ⊥
  pub none : has_variables plan ≡ false → (line : Line) → IsLineHere plan worker list line → ⊥

abbrev pub if_all_read : List Made → Ending → Option Ending
if_all_read [] end = Some end
if_all_read (item ∷ rest) end = None

-- how a list ends whose last call isn't done; not so, where more stands behind that call than may
abbrev pub ended_by : List Made → Stop → Option Ending
ended_by list (stop.Misused end misuse) = cond (list_all (is_halt misuse) (drop end list)) (Some (ending.Misused misuse)) None
ended_by list (stop.Halted end misuse) = if_all_read (drop end list) (ending.Halted misuse)
ended_by list stop.Within = Some ending.Unfinished
ended_by list stop.Wrong = None

-- how a list ends of a worker that was stopped before its script
abbrev pub stays_by : List Made → Stop → Option Ending
stays_by list (stop.Misused end misuse) = None
stays_by list (stop.Halted end misuse) = if_all_read (drop end list) (ending.Stopped misuse)
stays_by list stop.Within = Some ending.Waits
stays_by list stop.Wrong = None

-- how a list ends that is to end here
abbrev pub ended_at : List Made → ℕ → Ending → Option Ending
ended_at list end ending = if_all_read (drop end list) ending

-- these replies, these calls and this end
abbrev pub line_told : List (Reply ℕ) → List (Option ℕ) → Option Ending → Option SpeltLine
line_told replies calls None = None
line_told replies calls (Some end) = Some (record { replies = replies; calls = calls; ending = end })

-- whether an item is a call on a map or an atomic
abbrev pub is_shared : Made → Bool
is_shared (Shared x) = true
is_shared (Entered object entry) = false
