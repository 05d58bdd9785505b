-- What the text of a record comes to: the line of its verdict, or why it is the text of none.
use Rattle.std.specs.Prelude.{◌≡◌, ℕ, List, ◌++◌, Option, codes}
use Rattle.sync_outside.specs.Bytes.{Appends, AppendsFront}
use Rattle.record_clauses.specs.declared.clause.Clause.{Clause}
use Rattle.record_clauses.specs.declared.clause.Clause.TheVariants as clauses
use Rattle.record_clauses.specs.declared.clause.Verdict.{Verdict}
use Rattle.record_clauses.specs.declared.clause.Verdict.TheVariants.{Yes, No}
use Rattle.record_text.specs.Refused.{IsRecordRefused}
use Rattle.record_text.specs.Told.{IsTold, Told}
use Rattle.run_check.specs.Completeness.{HasVerdict}
use Rattle.gosync_call.specs.Input.{AreBytesOf}
use Rattle.gosync_call.specs.declared.status.Fault.TheVariants as faults
use Rattle.gosync_call.specs.declared.status.Status.{Status}
use Rattle.gosync_call.specs.declared.status.Status.TheVariants as statuses
use Rattle.gosync_call.specs.declared.status.Unread.{Unread}
use Rattle.gosync_call.specs.declared.status.Unread.TheVariants as unreads

-- the name of a clause
abbrev pub clause_word : Clause → List ℕ
clause_word clauses.Spell = codes "spell"
clause_word clauses.Legal = codes "legal"
clause_word clauses.Front = codes "front"
clause_word clauses.Range = codes "range"
clause_word clauses.Machine = codes "machine"
clause_word clauses.Edge = codes "edge"
clause_word clauses.End = codes "end"
clause_word clauses.Stop = codes "stop"
clause_word clauses.Report = codes "report"

-- the line of a verdict
abbrev pub verdict_line : Verdict → List ℕ
verdict_line Yes = codes "yes\n"
verdict_line (No clause) = codes "no " ++ clause_word clause ++ codes "\n"

-- all bytes of the file, where they are told, are the text of a record, and it comes to this verdict
abbrev pub IsJudged : Option (List ℕ) → Verdict → Type 0
IsJudged told verdict = (bytes : List ℕ) × AreBytesOf told bytes × HasVerdict bytes verdict

-- why no record is read from a file: its text is none of a record, it can't be read, or memory is out
abbrev pub IsNoRecord : Option (List ℕ) → Unread → Type 0
IsNoRecord told (unreads.NotAccepted line reason) = ⊥
IsNoRecord told (unreads.NoRecord line reason) = (bytes : List ℕ) × AreBytesOf told bytes × IsRecordRefused bytes line reason × ((text : Told) → IsTold bytes text → ⊥)
IsNoRecord told unreads.CannotRead = Unit {0}
IsNoRecord told unreads.Memory = Unit {0}

-- What the bytes of a file come to, where they are told, with what was written before and after: its record is judged, and the line of the verdict is written, or a first part of it; or no record is read, and nothing is
abbrev pub JudgesTo : Option (List ℕ) → Option (List ℕ) → Option (List ℕ) → Status → Type 0
JudgesTo told old new (statuses.Ended ending) = ⊥
JudgesTo told old new (statuses.Judged verdict) = IsJudged told verdict × Appends old new (verdict_line verdict)
JudgesTo told old new (statuses.Unread why) = IsNoRecord told why × (new ≡ old)
JudgesTo told old new (statuses.Failed faults.CannotWrite) = (verdict : Verdict) × IsJudged told verdict × AppendsFront old new (verdict_line verdict)
JudgesTo told old new (statuses.Failed faults.CannotStart) = ⊥
JudgesTo told old new (statuses.Failed faults.Memory) = ⊥
JudgesTo told old new (statuses.Failed faults.TooLong) = ⊥
JudgesTo told old new statuses.Usage = ⊥
