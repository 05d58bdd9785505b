-- What was found of an account, clause by clause.
use Rattle.std.specs.Prelude.{◌≡◌, ℕ, Bool, true, not, List, [], ◌∷◌, ◌++◌, map, All, Option, Some, None, slice_get}
use Rattle.std.specs.List.{list_all}
use Rattle.script_calls.specs.declared.outcome.Outcome.{Outcome}
use Rattle.sync_model.specs.declared.item.Item.{Item}
use Rattle.sync_model.specs.declared.item.SharedEntry.{SharedEntry}
use Rattle.sync_model.specs.SharedHistory.{contents_after}
use Rattle.sync_types.specs.declared.end.End.{End}
use Rattle.sync_types.specs.declared.misuse.Misuse.{Misuse}
use Rattle.workload.specs.Plan.{Plan}
use Rattle.workload.specs.Readable.{IsReadable}
use Rattle.run_record.specs.declared.made.Made.{Made}
use Rattle.run_record.specs.Explains.{HasEnded}
use Rattle.run_record.specs.Lines.{AreHalts, LineEnd}
use Rattle.run_record.specs.Objects.{contents_of, ends_in}
use Rattle.run_record.specs.Record.{calls_of}
use Rattle.shared_checks.specs.Calls.{calls_in}
use Rattle.shared_checks.specs.Parts.{LawfulHistory}
use Rattle.list_checks.specs.declared.spell.line.SpeltLine.{SpeltLine}
use Rattle.list_checks.specs.SpellLines.{line_end}
use Rattle.record_text.specs.Told.{Told}
use Rattle.record_clauses.specs.Account.{Account, Claim, outcome_by, record_of}
use Rattle.record_clauses.specs.declared.clause.Clause.TheVariants.{Stop}
use Rattle.record_clauses.specs.Lists.{is_halt, without_halts}
use Rattle.record_clauses.specs.Verdicts as claims
use Rattle.run_check.specs.declared.spelling.Spelling.{Spelling}
use Rattle.run_check.specs.Lists.{AreSpeltTo}
use Rattle.run_check.specs.Tells.{Tells}

-- a claim that the text tells, whose workers' lists spell this
pub record IsFoundOf (told : Told) (found : Spelling) (claim : Claim) : Type 0 where
  pub readable : IsReadable told.plan
  pub spelt : AreSpeltTo told.plan told.items told.plan.workers found
  pub tells : Tells told claim

-- such a claim, of which the clauses up to `stop` hold, with this history of its calls
pub record IsStoppedOf (told : Told) (found : Spelling) (marked : List (List Item)) (history : List SharedEntry) (claim : Claim) : Type 0 where
  pub is : IsFoundOf told found claim
  pub calls : (account : Account) (worker : ℕ) → calls_of (record_of claim account) worker ≡ calls_in marked worker
  pub legal : LawfulHistory (contents_of told.plan) history (calls_in marked)
  pub stopped : claims.UpTo claim Stop

-- what a run that ended so leaves in its maps and atomics, where this is their history
abbrev pub ends_after : Plan → List SharedEntry → Option Misuse → List End
ends_after plan history None = ends_in plan (contents_after (contents_of plan) history)
ends_after plan history (Some misuse) = []

-- what a run came to that ended so, whose lists spell these lines, with this history of its calls
abbrev pub found_outcome : Plan → Option Misuse → List SpeltLine → List SharedEntry → Outcome
found_outcome plan misused lines history = outcome_by misused (record { replies = map (λ (line : SpeltLine). line.replies) lines; ends = ends_after plan history misused })

-- a list whose halts stand behind all else, and may stand there where the list ends so
abbrev pub HaltsBehind : List Made → LineEnd → Type 0
HaltsBehind list ending = (halts : List Made) × (list ≡ without_halts list ++ halts) × AreHalts ending halts

-- each of the lists
abbrev pub AllHaltsBehind : List (List Made) → List SpeltLine → Type 0
AllHaltsBehind lists found = (worker : ℕ) (list : List Made) (line : SpeltLine) → slice_get lists worker ≡ Some list → slice_get found worker ≡ Some line → HaltsBehind list (line_end line.ending)

-- no item is a halt, and the first is one
abbrev pub are_no_halts : List Made → Bool
are_no_halts list = list_all (λ item. not (is_halt item)) list

abbrev pub begins_with_halt : List Made → Bool
begins_with_halt [] = true
begins_with_halt (item ∷ list) = is_halt item

-- a run that isn't done ended by the first halt of Stop, which is this one, and each worker has ended
abbrev pub IsStoppedSo : List SpeltLine → Option Misuse → Option Misuse → Type 0
IsStoppedSo found first None = Unit {0}
IsStoppedSo found first (Some misuse) = All (λ (line : SpeltLine). HasEnded (line_end line.ending)) found × (first ≡ Some misuse)
