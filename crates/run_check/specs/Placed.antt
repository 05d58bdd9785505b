-- The one claim that a text tells, behind the clause `legal`.
use Rattle.std.specs.Prelude.{◌≡◌, ℕ, List}
use Rattle.sync_model.specs.declared.item.Item.{Item}
use Rattle.sync_model.specs.declared.item.SharedEntry.{SharedEntry}
use Rattle.run_record.specs.Objects.{contents_of}
use Rattle.run_record.specs.Record.{calls_of}
use Rattle.shared_checks.specs.Calls.{calls_in}
use Rattle.shared_checks.specs.Parts.{LawfulHistory}
use Rattle.record_text.specs.Told.{Told}
use Rattle.record_clauses.specs.declared.clause.Clause.TheVariants.{Legal}
use Rattle.record_clauses.specs.Account.{Account, Claim, record_of}
use Rattle.record_clauses.specs.Clauses.{IsLegallyPlaced}
use Rattle.record_clauses.specs.Verdicts as claims
use Rattle.run_check.specs.Tells.{Tells}

-- The claim whose calls have these marks, and so this lawful history. Of no other claim that the text tells `legal` holds
pub record IsPlaced (told : Told) (marked : List (List Item)) (history : List SharedEntry) (claim : Claim) : Type 0 where
  pub tells : Tells told claim
  pub only : (other : Claim) (account : Account) → Tells told other → IsLegallyPlaced other account → other ≡ claim
  pub calls : (account : Account) (c : ℕ) → calls_of (record_of claim account) c ≡ calls_in marked c
  pub legal : LawfulHistory (contents_of told.plan) history (calls_in marked)
  pub holds : claims.UpTo claim Legal
