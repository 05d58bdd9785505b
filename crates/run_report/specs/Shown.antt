-- What a report shows, line by line. Laws alone speak of it.
use Rattle.std.specs.Prelude.{◌≡◌, ℕ, ◌+◌, List, [], length, get_or, take, sum_by, Some, slice_get}
use Rattle.std.specs.List.{flat_map}
use Rattle.script_calls.specs.declared.call.Call.{Call}
use Rattle.script_calls.specs.declared.call.Reply.{Reply}
use Rattle.script_calls.specs.Runs.{made_of, places_from}
use Rattle.sync_types.specs.declared.end.End.{End}
use Rattle.workload.specs.Plan.{Plan}
use Rattle.workload_text.specs.ReportLines.{completed_line, end_line}

-- each reply of a worker is that of a call which it made of its script
abbrev pub AreReplies : List (List Call) → List (List (Reply ℕ)) → Type 0
AreReplies scripts replies = (worker : ℕ) → length (made_of (get_or scripts worker []) (get_or replies worker [])) ≡ length (get_or replies worker [])

-- how many calls the workers before this one completed
abbrev pub completed_before : ℕ → List (List (Reply ℕ)) → ℕ
completed_before worker replies = sum_by length (take worker replies)

-- The call stands at a place of the script, and this reply is the one that the worker's replies have at a number: so many calls
-- completed before it, and those that they passed over have no reply
pub record IsCompleted (script : List Call) (replies : List (Reply ℕ)) (number place : ℕ) (call : Call) (reply : Reply ℕ) : Type 0 where
  pub at : slice_get (places_from 0 script replies) number ≡ Some place
  pub is : slice_get script place ≡ Some call
  pub answered : slice_get replies number ≡ Some reply

-- a text is a line for each completed call with its place, worker by worker and in the order of its script, and behind them one for each end
pub record Shows (plan : Plan) (replies : List (List (Reply ℕ))) (ends : List End) (text : List ℕ) : Type 0 where
  pub lines : List (List ℕ)
  pub whole : text ≡ flat_map (λ line. line) lines
  pub count : length lines ≡ sum_by length replies + length ends
  pub call_lines : (worker number : ℕ) (completed : List (Reply ℕ)) (reply : Reply ℕ) → slice_get replies worker ≡ Some completed → slice_get completed number ≡ Some reply
      → (place : ℕ) × (call : Call) × IsCompleted (get_or plan.scripts worker []) completed number place call reply
      × (slice_get lines (completed_before worker replies + number) ≡ Some (completed_line plan worker place call reply))
  pub end_lines : (place : ℕ) (end : End) → slice_get ends place ≡ Some end → slice_get lines (sum_by length replies + place) ≡ Some (end_line plan end)
