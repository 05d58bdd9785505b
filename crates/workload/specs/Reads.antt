-- Which workload a text is read as, and where and why one is refused.
use Rattle.std.specs.Prelude.{◌≡◌, ℕ, true, false, ◌+◌, ◌-◌, ◌≤◌, ◌<◌, ◌⊎◌, max, List, [], ◌∷◌, length, Option, Some, None}
use Rattle.workload.specs.declared.limits.TheConstants.{MAX_INPUT, MAX_WORKERS}
use Rattle.workload.specs.declared.fault.ParseFault.{ParseFault}
use Rattle.workload.specs.declared.fault.ParseFault.TheVariants as faults
use Rattle.workload.specs.declared.fault.LineFault.{LineFault}
use Rattle.workload.specs.declared.fault.LineFault.TheVariants as line_faults
use Rattle.workload.specs.declared.keyword.Dialect.{Dialect}
use Rattle.workload.specs.declared.keyword.Dialect.TheVariants.{Plain}
use Rattle.workload.specs.declared.line.Line.{Line}
use Rattle.workload.specs.declared.reason.Reason.{Reason}
use Rattle.workload.specs.declared.reason.Reason.TheVariants.{NoWorkersLine, InputTooLong}
use Rattle.workload.specs.Lines.{lines_of, words_of, is_short, is_clean, is_significant}
use Rattle.workload.specs.Plan.{Plan}
use Rattle.workload.specs.Words.{spelled, first_spelled, keyword_of}
use Rattle.workload.specs.Dialect.{knows}
use Rattle.workload.specs.Draft.{Draft, started, with_line, may_follow}
use Rattle.workload.specs.Checks.{reason_of}

-- what words that say something make, in a text of this dialect, of the draft so far, of which there is none before the first line
abbrev pub Continues : Dialect → Option Draft → List (List ℕ) → Option Draft → Type 0
Continues dialect None words after = (workers : ℕ) × (0 < workers) × (workers ≤ MAX_WORKERS) × (words ≡ first_spelled workers) × (after ≡ Some (started workers))
Continues dialect (Some draft) words after = (line : Line) × (may_follow draft line ≡ true) × (words ≡ spelled line) × (after ≡ Some (with_line draft line)) × (knows dialect (keyword_of line) ≡ true)

-- what a line makes of the draft: one that says nothing leaves it
pub record IsRead (dialect : Dialect) (before : Option Draft) (line : List ℕ) (after : Option Draft) : Type 0 where
  pub short : is_short line ≡ true
  pub clean : is_clean line ≡ true
  pub silent : is_significant (words_of line) ≡ false → after ≡ before
  pub continues : is_significant (words_of line) ≡ true → Continues dialect before (words_of line) after

-- the lines, one after the other, make the plan of the draft so far
abbrev pub ReadsOn : Dialect → List (List ℕ) → Option Draft → Plan → Type 0
ReadsOn dialect [] None plan = ⊥
ReadsOn dialect [] (Some draft) plan = plan ≡ draft.plan
ReadsOn dialect (line ∷ lines) before plan = (after : Option Draft) × IsRead dialect before line after × ReadsOn dialect lines after plan

-- the workload that a text of this dialect is read as
pub record ReadsIn (dialect : Dialect) (bytes : List ℕ) (plan : Plan) : Type 0 where
  pub fits : length bytes ≤ MAX_INPUT
  pub lines : ReadsOn dialect (lines_of bytes) None plan

-- the workload that a text is read as
abbrev pub Reads : List ℕ → Plan → Type 0
Reads bytes plan = ReadsIn Plain bytes plan

-- the first of the lines, of which the next has the number `next`, that is refused
abbrev pub FirstFault : Dialect → List (List ℕ) → Option Draft → ℕ → ℕ → Reason → Type 0
FirstFault dialect [] None next line reason = (line ≡ max 1 (next - 1)) × (reason ≡ NoWorkersLine)
FirstFault dialect [] (Some draft) next line reason = ⊥
FirstFault dialect (text ∷ texts) before next line reason =
    ((line ≡ next) × (reason_of dialect before text ≡ Some reason))
    ⊎ ((after : Option Draft) × IsRead dialect before text after × FirstFault dialect texts after (next + 1) line reason)

-- where and why a text is refused: line 0 where it is too long, else the first line with a fault, counted from 1
abbrev pub IsRefusedIn : Dialect → List ℕ → ℕ → Reason → Type 0
IsRefusedIn dialect bytes line reason =
    ((MAX_INPUT < length bytes) × (line ≡ 0) × (reason ≡ InputTooLong))
    ⊎ ((length bytes ≤ MAX_INPUT) × FirstFault dialect (lines_of bytes) None 1 line reason)

abbrev pub IsRefused : List ℕ → ℕ → Reason → Type 0
IsRefused bytes line reason = IsRefusedIn Plain bytes line reason

-- the fault of a line as one of the text
abbrev pub fault_at : ℕ → LineFault → ParseFault
fault_at line line_faults.Memory = faults.Memory
fault_at line (line_faults.Refused reason) = faults.Refused line reason

-- the first fault of the lines, unless memory ran out
abbrev pub IsFirstFault : Dialect → List (List ℕ) → ParseFault → Type 0
IsFirstFault dialect lines faults.Memory = Unit {0}
IsFirstFault dialect lines (faults.Refused line reason) = FirstFault dialect lines None 1 line reason

-- the fault of a text that isn't read, unless memory ran out
abbrev pub IsFaultIn : Dialect → List ℕ → ParseFault → Type 0
IsFaultIn dialect bytes faults.Memory = Unit {0}
IsFaultIn dialect bytes (faults.Refused line reason) = IsRefusedIn dialect bytes line reason

abbrev pub IsFaultOf : List ℕ → ParseFault → Type 0
IsFaultOf bytes fault = IsFaultIn Plain bytes fault
