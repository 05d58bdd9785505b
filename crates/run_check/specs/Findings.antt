-- What a check found of a text, clause by clause.
use Rattle.std.specs.Prelude.{◌≡◌, ℕ, List}
use Rattle.run_record.specs.Record.{ObjectEntry}
use Rattle.record_text.specs.Told.{IsTold, Told}
use Rattle.record_clauses.specs.declared.clause.Clause.{Clause}
use Rattle.record_clauses.specs.Account.{Claim}
use Rattle.record_clauses.specs.Verdicts as claims
use Rattle.run_check.specs.declared.spelling.Spelling.{Spelling}
use Rattle.run_check.specs.declared.verdict.Findings.{Findings}
use Rattle.run_check.specs.Journals.{AreJournalsOf}
use Rattle.run_check.specs.Lists.{AreSpeltTo}
use Rattle.run_check.specs.Placed.{IsPlaced}

-- this was found of the claim: what its lists spell, and its marked calls with their history
pub record IsFound (told : Told) (findings : Findings) (claim : Claim) : Type 0 where
  pub bytes : List ℕ
  pub text : IsTold bytes told
  pub found : Spelling
  pub spelt : AreSpeltTo told.plan told.items told.plan.workers found
  pub lines : found.lines ≡ findings.lines
  pub all : found.all ≡ findings.all
  pub entries : found.entries ≡ findings.entries
  pub placed : IsPlaced told findings.marked.items findings.history.items claim

-- and all clauses up to this one hold of the claim
abbrev pub HoldsTo : Told → Findings → Clause → Type 0
HoldsTo told findings clause = (claim : Claim) × IsFound told findings claim × claims.UpTo claim clause

-- so it is, and each account of which `machine` holds has these journals
abbrev pub HoldsWith : Told → Findings → List (List ObjectEntry) → Clause → Type 0
HoldsWith told findings journals clause = (claim : Claim) × IsFound told findings claim × AreJournalsOf claim journals × claims.UpTo claim clause
