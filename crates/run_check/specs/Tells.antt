-- What ties the text of a record to the claims that it tells, and the verdict on a text.
use Rattle.std.specs.Prelude.{◌≡◌, ℕ, ◌+◌, List, map, length, Some, slice_get}
use Rattle.record_text.specs.Told.{Told, joined}
use Rattle.record_clauses.specs.declared.clause.Clause.{Clause}
use Rattle.record_clauses.specs.declared.clause.Verdict.{Verdict}
use Rattle.record_clauses.specs.declared.clause.Verdict.TheVariants.{Yes, No}
use Rattle.record_clauses.specs.Account.{Claim, ToldItem}
use Rattle.record_clauses.specs.Verdicts as claims
use Rattle.run_check.specs.Items.{told_list, unmarked_item}

-- The text tells the claim: the same workload, end and report, and the items of each worker as its lines say them. A line doesn't say which calls are entries of the history, so a text tells more claims than one
pub record Tells (told : Told) (claim : Claim) : Type 0 where
  pub plan : claim.plan ≡ told.plan
  pub misused : claim.misused ≡ told.misused
  pub workers : length claim.lists ≡ told.plan.workers
  pub lists : (worker : ℕ) (list : List ToldItem) → slice_get claim.lists worker ≡ Some list → told_list told worker ≡ Some (map unmarked_item list)
  pub report : claim.report ≡ joined told.report

module _ (told : Told) where
  -- of some claim that the text tells all clauses up to this one hold
  abbrev pub UpTo : Clause → Type 0
  UpTo clause = (claim : Claim) × Tells told claim × claims.UpTo claim clause

  -- and up to the one before it, if there is one
  abbrev pub Before : Clause → Type 0
  Before clause = (earlier : Clause) → claims.place_of earlier + 1 ≡ claims.place_of clause → UpTo earlier

  -- Of some claim that the text tells all clauses hold; or this is the first one that fails: all before it hold of some claim, and of none they hold together with it
  abbrev pub ComesTo : Verdict → Type 0
  ComesTo Yes = (claim : Claim) × Tells told claim × claims.ComesTo claim Yes
  ComesTo (No clause) = Before clause × (UpTo clause → ⊥)
