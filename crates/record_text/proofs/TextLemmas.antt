-- What a whole text tells, and why one is refused.
use Rattle.std.proofs.Common.{◌≡◌, ℕ, ◌≤◌, ◌<◌, true, List, length, refl, subst, inl, inr}
use Rattle.workload.specs.declared.fault.ParseFault.{ParseFault}
use Rattle.workload.specs.declared.fault.ParseFault.TheVariants as parse_faults
use Rattle.workload.specs.declared.reason.Reason.TheVariants.{InputTooLong}
use Rattle.workload.specs.Lines.{lines_of}
use Rattle.workload.specs.Plan.{Plan}
use Rattle.workload.specs.Reads.{Reads, IsFaultOf, IsRefused}
use Rattle.record_text.specs.declared.fault.CheckFault.{CheckFault}
use Rattle.record_text.specs.declared.fault.CheckFault.TheVariants as faults
use Rattle.record_text.specs.declared.fault.CheckReason.TheVariants.{Workload, BadRecordLine}
use Rattle.record_text.specs.declared.limits.TheConstants.{MAX_RECORD}
use Rattle.record_text.specs.RecordLines.{IsBadFrom, IsFound}
use Rattle.record_text.specs.Refused.{FirstBad, IsCheckFault, fault_of}
use Rattle.record_text.specs.Told.{Told, IsBehind, IsTold, are_before}

pub past_the_limit : (bytes : List ℕ) → MAX_RECORD < length bytes → IsCheckFault bytes (faults.Refused 0 (Workload InputTooLong))
past_the_limit bytes past = inl (past, refl, refl)

-- without a line `record`
pub unended_fault : (bytes : List ℕ) (fault : ParseFault) → length bytes ≤ MAX_RECORD → are_before (lines_of bytes) ≡ true → IsFaultOf bytes fault → IsCheckFault bytes (fault_of fault)
unended_fault bytes parse_faults.Memory fits none is = tt
unended_fault bytes (parse_faults.Refused line why) fits none is = inr (inl (fits, none, inl (why, is, refl)))

pub unended : (bytes : List ℕ) (plan : Plan) (line : ℕ) → length bytes ≤ MAX_RECORD → are_before (lines_of bytes) ≡ true → Reads bytes plan → line ≡ length (lines_of bytes) → IsCheckFault bytes (faults.Refused line BadRecordLine)
unended bytes plan line fits none reads is = inr (inl (fits, none, inr (plan, reads, is, refl)))

-- with one
pub before_fault : (bytes before behind : List ℕ) (next : ℕ) (fault : ParseFault) → length bytes ≤ MAX_RECORD → IsFound bytes before behind next → IsFaultOf before fault → IsCheckFault bytes (fault_of fault)
before_fault bytes before behind next parse_faults.Memory fits found is = tt
before_fault bytes before behind next (parse_faults.Refused line why) fits found is =
    inr (inr (fits, found.lines, lines_of behind, found.are, found.first, inl (why, subst (λ (bs : List ℕ). IsRefused bs line why) found.joins is, refl)))

pub behind_fault : (bytes before behind : List ℕ) (next : ℕ) (plan : Plan) (fault : CheckFault) → length bytes ≤ MAX_RECORD → IsFound bytes before behind next → Reads before plan → IsBadFrom plan (lines_of behind) next fault → IsCheckFault bytes fault
behind_fault bytes before behind next plan faults.Memory fits found reads bad = tt
behind_fault bytes before behind next plan (faults.Refused line reason) fits found reads bad =
    inr (inr (fits, found.lines, lines_of behind, found.are, found.first, inr (plan, subst (λ (bs : List ℕ). Reads bs plan) found.joins reads, subst (λ (n : ℕ). FirstBad plan (lines_of behind) 0 n line) found.number bad.0, bad.1)))

pub told : (bytes before behind : List ℕ) (next : ℕ) (said : Told) → length bytes ≤ MAX_RECORD → IsFound bytes before behind next → Reads before said.plan → IsBehind said (lines_of behind) → IsTold bytes said
told bytes before behind next said fits found reads says = record {
  fits = fits;
  before = found.lines;
  behind = lines_of behind;
  lines = found.are;
  first = found.first;
  workload = subst (λ (bs : List ℕ). Reads bs said.plan) found.joins reads;
  says = says;
}
