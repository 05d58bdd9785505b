-- The stages of `machine` and `edge`: what holds of each account, by the journals that were found.
use Rattle.std.proofs.Common.{◌≡◌, ◌↔◌, List, sym, subst, arith}
use Rattle.workload.specs.Plan.{Plan}
use Rattle.run_record.specs.Objects.{object_count}
use Rattle.run_record.specs.Record.{ObjectEntry}
use Rattle.object_checks.specs.declared.journals.item.JournalItem.{JournalItem}
use Rattle.object_checks.specs.JournalItems.{AreJournals}
use Rattle.object_checks.specs.JournalParts.{FollowMachines}
use Rattle.record_clauses.specs.declared.clause.Clause.TheVariants.{Machine, Range}
use Rattle.record_clauses.specs.Account.{Account, Claim}
use Rattle.record_clauses.specs.Clauses.{HasJournals}
use Rattle.record_clauses.specs.Verdicts.{UpTo}
use Rattle.run_check.specs.Journals.{AreJournalsOf}
use Rattle.run_check.proofs.JournalParts.{up_to_machine}

module _ (claim : Claim) (plan : Plan) (same : claim.plan ≡ plan) (entries : List (List JournalItem))
    (two : (account : Account) → (HasJournals claim account ↔ AreJournals entries (object_count claim.plan) account.journals × FollowMachines claim.plan account.journals)) where
  -- the two parts of `machine`, in the words of this plan
  parts_here : (account : Account) → HasJournals claim account → AreJournals entries (object_count plan) account.journals × FollowMachines plan account.journals
  parts_here account has = subst (λ (p : Plan). AreJournals entries (object_count p) account.journals × FollowMachines p account.journals) same ((two account).0 has)

  has_here : (account : Account) → AreJournals entries (object_count plan) account.journals × FollowMachines plan account.journals → HasJournals claim account
  has_here account parts = (two account).1 (subst (λ (p : Plan). AreJournals entries (object_count p) account.journals × FollowMachines p account.journals) (sym same) parts)

  -- entries that are no journals
  pub none_holds : ((journals : List (List ObjectEntry)) → AreJournals entries (object_count plan) journals → ⊥) → UpTo claim Machine → ⊥
  none_holds none (account, holds) = none account.journals (parts_here account (holds Machine (omega arith))).0

  -- entries that are these journals
  module _ (one : (journals others : List (List ObjectEntry)) → AreJournals entries (object_count plan) journals → AreJournals entries (object_count plan) others → journals ≡ others)
      (journals : List (List ObjectEntry)) (are : AreJournals entries (object_count plan) journals) where
    pub others_fail : (FollowMachines plan journals → ⊥) → UpTo claim Machine → ⊥
    others_fail fails (account, holds) =
        let parts = parts_here account (holds Machine (omega arith)) in
        fails (subst (FollowMachines plan) (one account.journals journals parts.0 are) parts.1)

    pub machine_holds : FollowMachines plan journals → UpTo claim Range → UpTo claim Machine × AreJournalsOf claim journals
    machine_holds follow up = (
      up_to_machine claim journals up (λ account is. has_here account (subst (AreJournals entries (object_count plan)) (sym is) are, subst (FollowMachines plan) (sym is) follow)),
      λ account has. one account.journals journals (parts_here account has).0 are,
    )
