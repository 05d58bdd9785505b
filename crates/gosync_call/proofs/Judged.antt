-- From the verdict on the bytes that were taken to what the program's status says of all bytes of a file.
use Rattle.std.proofs.Common.{◌≡◌, ◌⊎◌, ◌∙◌, ℕ, ◌+◌, ◌≤◌, List, take, length, Option, Some, None, inl, inr, refl, sym, ap, subst, arith}
use Rattle.std.proofs.lemmas.List.{length-take}
use Rattle.record_clauses.specs.declared.clause.Clause.{Clause}
use Rattle.record_clauses.specs.declared.clause.Verdict.{Verdict}
use Rattle.record_clauses.specs.declared.clause.Verdict.TheVariants as verdicts
use Rattle.record_text.specs.declared.fault.CheckReason.{CheckReason}
use Rattle.record_text.specs.declared.limits.TheConstants.{MAX_RECORD}
use Rattle.record_text.specs.Refused.{IsRecordRefused}
use Rattle.record_text.specs.Told.{IsTold, Told}
use Rattle.run_check.specs.Completeness.{HasVerdict}
use Rattle.run_check.specs.Tells.{ComesTo}
use Rattle.gosync_call.specs.Checks.{IsJudged, IsNoRecord, JudgesTo}
use Rattle.gosync_call.specs.Front.{IsLeftOfAllBytes, IsOfAllBytes}
use Rattle.gosync_call.specs.Input.{IsInputTo}
use Rattle.gosync_call.specs.Messages.{code_of, IsOutOfMemory}
use Rattle.gosync_call.specs.declared.status.Fault.TheVariants as faults
use Rattle.gosync_call.specs.declared.status.Front.TheVariants as fronts
use Rattle.gosync_call.specs.declared.status.Status.{Status}
use Rattle.gosync_call.specs.declared.status.Status.TheVariants as statuses
use Rattle.gosync_call.specs.declared.status.Unread.{Unread}
use Rattle.gosync_call.specs.declared.status.Unread.TheVariants as unreads
use Rattle.gosync_call.proofs.Reading.{fits_whole}
use Rattle.gosync_call.proofs.Runs.{told_so}

-- the text of a record was taken whole
pub whole_judged : (told : Option (List ℕ)) (bytes : List ℕ) (verdict : Verdict) → IsInputTo MAX_RECORD told bytes → HasVerdict bytes verdict → IsJudged told verdict
whole_judged None bytes verdict h judged = (bytes, tt, judged)
whole_judged (Some held) bytes verdict h judged =
    (held, refl, (judged.0, subst (λ (b : List ℕ). IsTold b judged.0) (fits_whole MAX_RECORD held bytes h judged.1.fits) judged.1, judged.2, judged.3))

refused_whole : (held bytes : List ℕ) (line : ℕ) (reason : CheckReason) → bytes ≡ take (MAX_RECORD + 1) held → IsRecordRefused bytes line reason → IsRecordRefused held line reason
refused_whole held bytes line reason e (inl long) = inl (omega (arith, long.0, ap length e, length-take (MAX_RECORD + 1) held), long.1, long.2)
refused_whole held bytes line reason e (inr (inl fault)) = subst (λ (b : List ℕ). IsRecordRefused b line reason) (fits_whole MAX_RECORD held bytes e fault.0) (inr (inl fault))
refused_whole held bytes line reason e (inr (inr fault)) = subst (λ (b : List ℕ). IsRecordRefused b line reason) (fits_whole MAX_RECORD held bytes e fault.0) (inr (inr fault))

-- no text is both one of a record and refused
abbrev pub ToldOrRefused : Type 0
ToldOrRefused = (bytes : List ℕ) (told : Told) (line : ℕ) (reason : CheckReason) → IsTold bytes told → IsRecordRefused bytes line reason → ⊥

pub whole_refused : (told : Option (List ℕ)) (bytes : List ℕ) (line : ℕ) (reason : CheckReason) → ToldOrRefused → IsInputTo MAX_RECORD told bytes → IsRecordRefused bytes line reason → IsNoRecord told (unreads.NoRecord line reason)
whole_refused None bytes line reason never h refused = (bytes, tt, refused, λ text is. never bytes text line reason is refused)
whole_refused (Some held) bytes line reason never h refused =
    let all = refused_whole held bytes line reason h refused in
    (held, refl, all, λ text is. never held text line reason is all)

status_is : (x y : Status) → fronts.Ended x ≡ fronts.Ended y → x ≡ y
status_is x y is = cc

-- what a front's status comes to
pub front_judges : (told old new : Option (List ℕ)) (status : Status) → ((s : Status) × (fronts.Ended status ≡ fronts.Ended s) × JudgesTo told old new s) → JudgesTo told old new status
front_judges told old new status judges = subst (λ (s : Status). JudgesTo told old new s) (sym (status_is status judges.0 judges.1)) judges.2

-- a text comes to one verdict
abbrev pub OneVerdict : Type 0
OneVerdict = (bytes : List ℕ) (told other : Told) (first second : Verdict) → IsTold bytes told → IsTold bytes other → ComesTo told first → ComesTo other second → first ≡ second

module _ (told old new : Option (List ℕ)) (bytes : List ℕ) (Read Write : Type 0) where
  -- without a fault the text of a record comes to its verdict, unless memory is out
  pub completes_check : (text : Told) (verdict : Verdict) → OneVerdict → (status : Status) → JudgesTo told old new status → told ≡ Some bytes → IsTold bytes text → ComesTo text verdict
      → (status ≡ statuses.Unread unreads.CannotRead → Read) → (status ≡ statuses.Failed faults.CannotWrite → Write) → (Read → ⊥) → (Write → ⊥) → (status ≡ statuses.Judged verdict) ⊎ IsOutOfMemory status
  completes_check text verdict one (statuses.Ended ending) judges is tells comes read write no_read no_write = absurd judges
  completes_check text verdict one (statuses.Judged other) judges is tells comes read write no_read no_write =
      let read_so = told_so bytes judges.0.0 told is judges.0.1 in
      let found = judges.0.2 in
      inl (ap (λ (v : Verdict). statuses.Judged v) (one bytes found.0 text other verdict (subst (λ (b : List ℕ). IsTold b found.0) read_so found.1) tells found.3 comes))
  completes_check text verdict one (statuses.Unread (unreads.NotAccepted line reason)) judges is tells comes read write no_read no_write = absurd judges.0
  completes_check text verdict one (statuses.Unread (unreads.NoRecord line reason)) judges is tells comes read write no_read no_write =
      absurd (judges.0.3 text (subst (λ (b : List ℕ). IsTold b text) (sym (told_so bytes judges.0.0 told is judges.0.1)) tells))
  completes_check text verdict one (statuses.Unread unreads.CannotRead) judges is tells comes read write no_read no_write = absurd (no_read (read refl))
  completes_check text verdict one (statuses.Unread unreads.Memory) judges is tells comes read write no_read no_write = inr refl
  completes_check text verdict one (statuses.Failed faults.CannotWrite) judges is tells comes read write no_read no_write = absurd (no_write (write refl))
  completes_check text verdict one (statuses.Failed faults.CannotStart) judges is tells comes read write no_read no_write = absurd judges
  completes_check text verdict one (statuses.Failed faults.Memory) judges is tells comes read write no_read no_write = absurd judges
  completes_check text verdict one (statuses.Failed faults.TooLong) judges is tells comes read write no_read no_write = absurd judges
  completes_check text verdict one statuses.Usage judges is tells comes read write no_read no_write = absurd judges

  -- and one that is none of a record is refused
  pub refuses_check : (status : Status) → JudgesTo told old new status → told ≡ Some bytes → ((text : Told) → IsTold bytes text → ⊥)
      → (status ≡ statuses.Unread unreads.CannotRead → Read) → (Read → ⊥) → (code_of status ≡ 1) ⊎ IsOutOfMemory status
  refuses_check (statuses.Ended ending) judges is none read no_read = absurd judges
  refuses_check (statuses.Judged verdict) judges is none read no_read =
      let found = judges.0.2 in
      absurd (none found.0 (subst (λ (b : List ℕ). IsTold b found.0) (told_so bytes judges.0.0 told is judges.0.1) found.1))
  refuses_check (statuses.Unread (unreads.NotAccepted line reason)) judges is none read no_read = absurd judges.0
  refuses_check (statuses.Unread (unreads.NoRecord line reason)) judges is none read no_read = inl refl
  refuses_check (statuses.Unread unreads.CannotRead) judges is none read no_read = absurd (no_read (read refl))
  refuses_check (statuses.Unread unreads.Memory) judges is none read no_read = inr refl
  refuses_check (statuses.Failed faults.CannotWrite) judges is none read no_read =
      let found = judges.1.2 in
      absurd (none found.0 (subst (λ (b : List ℕ). IsTold b found.0) (told_so bytes judges.1.0 told is judges.1.1) found.1))
  refuses_check (statuses.Failed faults.CannotStart) judges is none read no_read = absurd judges
  refuses_check (statuses.Failed faults.Memory) judges is none read no_read = absurd judges
  refuses_check (statuses.Failed faults.TooLong) judges is none read no_read = absurd judges
  refuses_check statuses.Usage judges is none read no_read = absurd judges

-- the status with number 0 is a yes, where it is a verdict, and that with number 7 is a no
module _ (told old new : Option (List ℕ)) where
  pub is_yes : (status : Status) → JudgesTo told old new status → code_of status ≡ 0 → JudgesTo told old new (statuses.Judged verdicts.Yes)
  is_yes (statuses.Ended ending) judges is = absurd judges
  is_yes (statuses.Judged verdicts.Yes) judges is = judges
  is_yes (statuses.Judged (verdicts.No clause)) judges is = absurd cc
  is_yes (statuses.Unread (unreads.NotAccepted line reason)) judges is = absurd cc
  is_yes (statuses.Unread (unreads.NoRecord line reason)) judges is = absurd cc
  is_yes (statuses.Unread unreads.CannotRead) judges is = absurd cc
  is_yes (statuses.Unread unreads.Memory) judges is = absurd cc
  is_yes (statuses.Failed faults.CannotWrite) judges is = absurd cc
  is_yes (statuses.Failed faults.CannotStart) judges is = absurd cc
  is_yes (statuses.Failed faults.Memory) judges is = absurd cc
  is_yes (statuses.Failed faults.TooLong) judges is = absurd judges
  is_yes statuses.Usage judges is = absurd judges

  pub is_no : (status : Status) → JudgesTo told old new status → code_of status ≡ 7 → (clause : Clause) × JudgesTo told old new (statuses.Judged (verdicts.No clause))
  is_no (statuses.Ended ending) judges is = absurd judges
  is_no (statuses.Judged verdicts.Yes) judges is = absurd cc
  is_no (statuses.Judged (verdicts.No clause)) judges is = (clause, judges)
  is_no (statuses.Unread (unreads.NotAccepted line reason)) judges is = absurd cc
  is_no (statuses.Unread (unreads.NoRecord line reason)) judges is = absurd cc
  is_no (statuses.Unread unreads.CannotRead) judges is = absurd cc
  is_no (statuses.Unread unreads.Memory) judges is = absurd cc
  is_no (statuses.Failed faults.CannotWrite) judges is = absurd cc
  is_no (statuses.Failed faults.CannotStart) judges is = absurd cc
  is_no (statuses.Failed faults.Memory) judges is = absurd cc
  is_no (statuses.Failed faults.TooLong) judges is = absurd judges
  is_no statuses.Usage judges is = absurd judges

-- where the bytes are told, the verdict is on what they tell
pub judged_so : (bytes : List ℕ) (text : Told) (verdict : Verdict) → ((b : List ℕ) (t other : Told) → IsTold b t → IsTold b other → t ≡ other) → IsTold bytes text → IsJudged (Some bytes) verdict → ComesTo text verdict
judged_so bytes text verdict one tells judged =
    let found = judged.2 in
    subst (λ (t : Told). ComesTo t verdict) (one bytes found.0 text (subst (λ (b : List ℕ). IsTold b found.0) judged.1 found.1) tells) found.3

-- the bytes that are told come to the verdict
pub come_so : (bytes : List ℕ) (verdict : Verdict) → IsJudged (Some bytes) verdict → HasVerdict bytes verdict
come_so bytes verdict judged = subst (λ (b : List ℕ). HasVerdict b verdict) judged.1 judged.2

-- what is left of a front that ended
pub left_judged : (Whole : Type 0) (status other : Status) → fronts.Ended status ≡ fronts.Ended other → (IsOfAllBytes other → Whole) → IsOfAllBytes status → Whole
left_judged Whole status other is whole left = whole (subst (λ (s : Status). IsOfAllBytes s) (status_is status other is) left)
