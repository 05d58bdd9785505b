-- The report: a line for each completed call, worker by worker, and then, where every script has ended, a line for each value that an object holds.
use Rattle.std.specs.Prelude.{ℕ, ◌+◌, List, [], ◌∷◌, ◌++◌, length, drop}
use Rattle.std.specs.List.{flat_map}
use Rattle.script_calls.specs.declared.call.Call.{Call}
use Rattle.script_calls.specs.declared.call.Reply.{Reply}
use Rattle.script_calls.specs.Runs.{made_of, passed_over}
use Rattle.workload.specs.Plan.{Plan}
use Rattle.sync_types.specs.declared.end.End.{End}
use Rattle.script_calls.specs.Outcome.{left_by}
use Rattle.script_calls.specs.declared.outcome.Outcome.{Outcome}
use Rattle.script_calls.specs.declared.outcome.Outcome.TheVariants as outcomes
use Rattle.workload_text.specs.ReportLines.{completed_line, end_line}

-- a worker's completed calls, of its script from a place on: as many as there are replies, each with its own place, and none of those that were passed over
abbrev pub calls_text : Plan → ℕ → ℕ → List Call → List (Reply ℕ) → List ℕ
calls_text plan worker place script [] = []
calls_text plan worker place [] (reply ∷ replies) = []
calls_text plan worker place (call ∷ script) (reply ∷ replies) =
    completed_line plan worker place call reply ++ calls_text plan worker (place + 1 + passed_over call reply) (drop (passed_over call reply) script) replies

-- the completed calls of the workers, from a worker on
abbrev pub workers_text : Plan → ℕ → List (List Call) → List (List (Reply ℕ)) → List ℕ
workers_text plan worker (script ∷ scripts) (replies ∷ rest) = calls_text plan worker 0 script replies ++ workers_text plan (worker + 1) scripts rest
workers_text plan worker [] replies = []
workers_text plan worker (script ∷ scripts) [] = []

abbrev pub ends_text : Plan → List End → List ℕ
ends_text plan ends = flat_map (end_line plan) ends

-- the end lines come only where every script has ended
abbrev pub outcome_ends : Outcome → List End
outcome_ends (outcomes.Done left) = left.ends
outcome_ends (outcomes.Misused left misuse) = []
outcome_ends (outcomes.Deadlocked left) = []

-- the report of what a run of a workload came to
abbrev pub report_text : Plan → Outcome → List ℕ
report_text plan outcome = workers_text plan 0 plan.scripts (left_by outcome).replies ++ ends_text plan (outcome_ends outcome)

-- how many calls of a script completed: those that were made with these replies
abbrev pub completed_in : List Call → List (Reply ℕ) → ℕ
completed_in script replies = length (made_of script replies)

-- and of all scripts
abbrev pub completed_in_all : List (List Call) → List (List (Reply ℕ)) → ℕ
completed_in_all (script ∷ scripts) (replies ∷ rest) = completed_in script replies + completed_in_all scripts rest
completed_in_all [] replies = 0
completed_in_all (script ∷ scripts) [] = 0

-- how many lines the report has: one for each of these, and for each value that an object holds at the end
abbrev pub report_lines : Plan → Outcome → ℕ
report_lines plan outcome = completed_in_all plan.scripts (left_by outcome).replies + length (outcome_ends outcome)
