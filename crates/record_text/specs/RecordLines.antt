-- What the reading of the lines of a text answers.
use Rattle.std.specs.Prelude.{◌≡◌, ℕ, true, ◌+◌, ◌≤◌, ◌<◌, List, ◌∷◌, ◌++◌, length}
use Rattle.workload.specs.Lines.{lines_of}
use Rattle.workload.specs.Plan.{Plan}
use Rattle.record_text.specs.declared.fault.CheckFault.{CheckFault}
use Rattle.record_text.specs.declared.fault.CheckFault.TheVariants as faults
use Rattle.record_text.specs.declared.fault.CheckReason.TheVariants.{BadRecordLine}
use Rattle.record_text.specs.declared.item_line.ItemLine.{ItemLine}
use Rattle.record_text.specs.declared.limits.TheConstants.{MAX_ITEMS}
use Rattle.record_text.specs.declared.line_reading.RecordLine.{RecordLine}
use Rattle.record_text.specs.declared.line_reading.RecordLine.TheVariants.{Item, Outcome}
use Rattle.record_text.specs.ItemLines.{IsItemLine}
use Rattle.record_text.specs.Refused.{FirstBad, IsNoOutcome}
use Rattle.record_text.specs.Told.{are_before, joined, outcome_line, record_line}

-- an item's line, or the outcome's, behind so many item lines
abbrev pub IsRecordLine : Plan → List ℕ → ℕ → RecordLine → Type 0
IsRecordLine plan text taken (Item item) = IsItemLine plan text item × (taken < MAX_ITEMS)
IsRecordLine plan text taken (Outcome misused) = outcome_line misused ≡ text

-- neither
abbrev pub IsNoRecordLine : Plan → List ℕ → ℕ → Type 0
IsNoRecordLine plan text taken = IsNoOutcome text × ((item : ItemLine) → IsItemLine plan text item → MAX_ITEMS ≤ taken)

-- the first fault of the lines behind the line `record`, of which the first has this number, unless memory ran out
abbrev pub IsBadFrom : Plan → List (List ℕ) → ℕ → CheckFault → Type 0
IsBadFrom plan lines first faults.Memory = Unit {0}
IsBadFrom plan lines first (faults.Refused line reason) = FirstBad plan lines 0 first line × (reason ≡ BadRecordLine)

-- what stands before the first line `record`, as bytes, and behind it, and the number of the line behind it
pub record IsFound (bytes before behind : List ℕ) (next : ℕ) : Type 0 where
  pub lines : List (List ℕ)
  pub are : lines_of bytes ≡ lines ++ record_line ∷ lines_of behind
  pub first : are_before lines ≡ true
  pub joins : before ≡ joined lines
  pub number : next ≡ length lines + 2
  pub few : next + length behind ≤ length bytes + 2
