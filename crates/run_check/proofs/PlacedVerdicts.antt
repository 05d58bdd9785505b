-- Behind `legal` the clauses of a text are those of the one claim that it tells.
use Rattle.std.proofs.Common.{◌≡◌, ◌+◌, ◌≤◌, subst, arith}
use Rattle.sync_model.specs.declared.item.Item.{Item}
use Rattle.sync_model.specs.declared.item.SharedEntry.{SharedEntry}
use Rattle.std.specs.Prelude.{List}
use Rattle.record_text.specs.Told.{Told}
use Rattle.record_clauses.specs.declared.clause.Clause.{Clause}
use Rattle.record_clauses.specs.declared.clause.Clause.TheVariants.{Legal, Report}
use Rattle.record_clauses.specs.declared.clause.Verdict.TheVariants.{Yes, No}
use Rattle.record_clauses.specs.Account.{Claim}
use Rattle.record_clauses.specs.Verdicts as claims
use Rattle.run_check.specs.Placed.{IsPlaced}
use Rattle.run_check.specs.Tells.{ComesTo, UpTo}
use Rattle.run_check.proofs.FirstClause.{same_place, up_to_last}

module _ (told : Told) (marked : List (List Item)) (history : List SharedEntry) (claim : Claim) (placed : IsPlaced told marked history claim) where
  pub of_claim : (clause : Clause) → 1 ≤ claims.place_of clause → UpTo told clause → claims.UpTo claim clause
  of_claim clause behind (other, tells, (account, holds)) =
      subst (λ (c : Claim). claims.UpTo c clause) (placed.only other account tells (holds Legal behind)) (account, holds)

  pub of_told : (clause : Clause) → claims.UpTo claim clause → UpTo told clause
  of_told clause up = (claim, placed.tells, up)

  -- the first clause that fails of the claim is the first that fails of the text
  pub comes_to_no : (before clause : Clause) → 1 ≤ claims.place_of before → claims.place_of before + 1 ≡ claims.place_of clause → claims.UpTo claim before → (claims.UpTo claim clause → ⊥) → ComesTo told (No clause)
  comes_to_no before clause behind next up fails = (
    λ earlier is. of_told earlier (subst (λ (c : Clause). claims.UpTo claim c) (same_place before earlier (omega (arith, next, is))) up),
    λ some. fails (of_claim clause (omega (arith, behind, next)) some),
  )

  pub comes_to_yes : claims.UpTo claim Report → ComesTo told Yes
  comes_to_yes (account, holds) = (claim, placed.tells, (account, λ clause. holds clause (up_to_last clause)))
