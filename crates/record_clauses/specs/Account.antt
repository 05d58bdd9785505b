-- What is told of a run, and an account of it: what a checker has to find in order to believe it.
use Rattle.std.specs.Prelude.{ℕ, Bool, List, map, Option, Some, None}
use Rattle.std.specs.List.{list_all}
use Rattle.script_calls.specs.declared.outcome.Outcome.{Outcome}
use Rattle.script_calls.specs.declared.outcome.Outcome.TheVariants.{Done, Misused}
use Rattle.script_calls.specs.declared.outcome.Report.{Report}
use Rattle.sync_model.specs.declared.item.SharedEntry.{SharedEntry}
use Rattle.sync_types.specs.declared.misuse.Misuse.{Misuse}
use Rattle.workload.specs.Plan.{Plan}
use Rattle.run_cuts.specs.CallCuts.{is_told}
use Rattle.run_record.specs.declared.made.Made.{Made}
use Rattle.run_record.specs.Lines.{Line}
use Rattle.run_record.specs.Record.{Record, ObjectEntry}

-- an item of a worker's list, as it is told
pub record ToldItem : Type 0 where
  pub made : Made
  pub call : Option ℕ  -- the place in the script of the call that it is of, if it is of one
  pub number : ℕ  -- the number of an entry in the journal of its object

-- what is told of a run
pub record Claim : Type 0 where
  pub plan : Plan
  pub misused : Option Misuse  -- the misuse that ended the run; none, where it is done
  pub lists : List (List ToldItem)  -- one for each worker
  pub report : List ℕ  -- the bytes of the report

-- an account of a run of which this is told: the history and the journals in which the items stand, the lines that the lists are, and what the run left behind
pub record Account : Type 0 where
  pub history : List SharedEntry
  pub journals : List (List ObjectEntry)
  pub lines : List Line
  pub left : Report

abbrev pub made_in : List ToldItem → List Made
made_in list = map (λ x. x.made) list

-- the record of the run, by an account
abbrev pub record_of : Claim → Account → Record
record_of claim account = record { history = account.history; journals = account.journals; lists = map made_in claim.lists }

-- what a run came to that left this behind
abbrev pub outcome_by : Option Misuse → Report → Outcome
outcome_by None left = Done left
outcome_by (Some misuse) left = Misused left misuse

-- the outcome of the run, by an account
abbrev pub outcome_of : Claim → Account → Outcome
outcome_of claim account = outcome_by claim.misused account.left

-- no script has a `range`. The items of one leave open in which order it replies the pairs of two keys with one name
abbrev pub has_no_range : Plan → Bool
has_no_range plan = list_all (λ script. list_all (λ call. is_told call.operation) script) plan.scripts
