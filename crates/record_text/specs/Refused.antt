-- Where and why a text is refused as one of a record.
use Rattle.std.specs.Prelude.{◌≡◌, ℕ, true, false, ◌+◌, ◌-◌, ◌≤◌, ◌<◌, ◌⊎◌, List, [], ◌∷◌, ◌++◌, length, Option}
use Rattle.sync_types.specs.declared.misuse.Misuse.{Misuse}
use Rattle.workload.specs.declared.fault.ParseFault.{ParseFault}
use Rattle.workload.specs.declared.fault.ParseFault.TheVariants as parse_faults
use Rattle.workload.specs.declared.reason.Reason.{Reason}
use Rattle.workload.specs.declared.reason.Reason.TheVariants.{InputTooLong}
use Rattle.workload.specs.Lines.{lines_of}
use Rattle.workload.specs.Plan.{Plan}
use Rattle.workload.specs.Reads.{Reads, IsRefused}
use Rattle.record_text.specs.declared.fault.CheckFault.{CheckFault}
use Rattle.record_text.specs.declared.fault.CheckFault.TheVariants as faults
use Rattle.record_text.specs.declared.fault.CheckReason.{CheckReason}
use Rattle.record_text.specs.declared.fault.CheckReason.TheVariants.{Workload, BadRecordLine}
use Rattle.record_text.specs.declared.item_line.ItemLine.{ItemLine}
use Rattle.record_text.specs.declared.limits.TheConstants.{MAX_ITEMS, MAX_RECORD}
use Rattle.record_text.specs.ItemLines.{IsItemLine}
use Rattle.record_text.specs.Told.{are_before, is_short_line, joined, outcome_line, record_line}

-- the fault of a workload's text as one of the record's
abbrev pub fault_of : ParseFault → CheckFault
fault_of parse_faults.Memory = faults.Memory
fault_of (parse_faults.Refused line reason) = faults.Refused line (Workload reason)

-- a line that is no outcome
abbrev pub IsNoOutcome : List ℕ → Type 0
IsNoOutcome text = (misused : Option Misuse) → outcome_line misused ≡ text → ⊥

-- the first of the report's lines that is too long, of which the next has the number `next`
abbrev pub FirstLong : List (List ℕ) → (next line : ℕ) → Type 0
FirstLong [] next line = ⊥
FirstLong (text ∷ texts) next line =
    ((is_short_line text ≡ false) × (line ≡ next))
    ⊎ ((is_short_line text ≡ true) × FirstLong texts (next + 1) line)

-- The first of the lines behind the line `record` that is refused, where so many items came before and the next line has the number `next`: a line that is neither an item's nor the outcome's; one of an item too many; of the
-- report's lines one that is too long; and the last line, where none is the outcome's
abbrev pub FirstBad : Plan → List (List ℕ) → (taken next line : ℕ) → Type 0
FirstBad plan [] taken next line = line ≡ next - 1
FirstBad plan (text ∷ texts) taken next line =
    (IsNoOutcome text × ((item : ItemLine) → IsItemLine plan text item → MAX_ITEMS ≤ taken) × (line ≡ next))
    ⊎ ((item : ItemLine) × IsItemLine plan text item × (taken < MAX_ITEMS) × FirstBad plan texts (taken + 1) (next + 1) line)
    ⊎ ((misused : Option Misuse) × (outcome_line misused ≡ text) × FirstLong texts (next + 1) line)

-- the workload's text is refused, for its own reason
abbrev pub IsWorkloadFault : List ℕ → ℕ → CheckReason → Type 0
IsWorkloadFault bytes line reason = (why : Reason) × IsRefused bytes line why × (reason ≡ Workload why)

-- without a line `record` all is read as the workload's text, and where it is one, the last line is the fault
abbrev pub IsUnended : List ℕ → ℕ → CheckReason → Type 0
IsUnended bytes line reason =
    IsWorkloadFault bytes line reason
    ⊎ ((plan : Plan) × Reads bytes plan × (line ≡ length (lines_of bytes)) × (reason ≡ BadRecordLine))

-- with one, what stands before it is read as the workload's text first
abbrev pub IsBadBehind : (before behind : List (List ℕ)) → ℕ → CheckReason → Type 0
IsBadBehind before behind line reason =
    IsWorkloadFault (joined before) line reason
    ⊎ ((plan : Plan) × Reads (joined before) plan × FirstBad plan behind 0 (length before + 2) line × (reason ≡ BadRecordLine))

-- where and why a text is refused: line 0 where it is too long, else the first line with a fault, counted from 1
abbrev pub IsRecordRefused : List ℕ → ℕ → CheckReason → Type 0
IsRecordRefused bytes line reason =
    ((MAX_RECORD < length bytes) × (line ≡ 0) × (reason ≡ Workload InputTooLong))
    ⊎ ((length bytes ≤ MAX_RECORD) × (are_before (lines_of bytes) ≡ true) × IsUnended bytes line reason)
    ⊎ ((length bytes ≤ MAX_RECORD) × (before : List (List ℕ)) × (behind : List (List ℕ)) × (lines_of bytes ≡ before ++ record_line ∷ behind) × (are_before before ≡ true) × IsBadBehind before behind line reason)

-- the fault of a text that is none of a record, unless memory ran out
abbrev pub IsCheckFault : List ℕ → CheckFault → Type 0
IsCheckFault bytes faults.Memory = Unit {0}
IsCheckFault bytes (faults.Refused line reason) = IsRecordRefused bytes line reason
