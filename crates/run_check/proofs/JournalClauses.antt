-- The clauses `machine` and `edge`, by the journals that the entries in the workers' lists are.
use Rattle.std.proofs.Common.{◌≡◌, ◌↔◌, ℕ, ◌+◌, ◌==◌, Bool, cond, List, [], ◌∷◌, length, refl, sym, ap, ◌∙◌, subst, arith}
use Rattle.workload.specs.declared.object.ObjectKind.{ObjectKind}
use Rattle.workload.specs.Plan.{Plan}
use Rattle.run_record.specs.Calls.{IsJournalOf}
use Rattle.run_record.specs.Objects.{object_count}
use Rattle.run_record.specs.PoolKind.{IsPartJournal}
use Rattle.run_record.specs.Record.{ObjectEntry, object_number}
use Rattle.run_record.specs.StartsKind.{IsStartsJournal}
use Rattle.object_checks.specs.declared.journals.item.JournalItem.{JournalItem}
use Rattle.object_checks.specs.JournalItems as items
use Rattle.object_checks.specs.JournalItems.{AreJournals}
use Rattle.object_checks.specs.JournalParts.{FollowMachines, IsMachineJournal, IsMachinePart, IsMachineStarts, KeepAllEdges, journal_at}
use Rattle.record_clauses.specs.declared.clause.Clause.TheVariants.{Machine, Edge}
use Rattle.record_clauses.specs.Account.{Account, Claim}
use Rattle.record_clauses.specs.Clauses.{HasJournals, TellsNumbers}
use Rattle.record_clauses.specs.Journals.{numbered_from, without_fronts}
use Rattle.record_clauses.specs.Verdicts.{UpTo}
use Rattle.run_check.specs.Journals.{AreEntries, AreJournalsOf}
use Rattle.run_check.proofs.JournalParts.{with_edge}

-- one worker's entries of a journal with their numbers, in both crates' words
numbers_same : (n worker : ℕ) (journal : List ObjectEntry) → numbered_from n worker journal ≡ items.numbered_by worker n journal
numbers_same n worker [] = refl
numbers_same n worker (x ∷ journal) = ap (λ (later : List (ℕ × ObjectEntry)). cond (x.caller == worker) ((n, x) ∷ later) later) (numbers_same (n + 1) worker journal)

-- ---- `machine`

-- a journal without its fronts is one of its object exactly where it follows the object's machine
pub record AreBlind : Type 0 where
  pub declared : (plan : Plan) (place : ℕ) (kind : ObjectKind) (journal : List ObjectEntry) → (IsJournalOf plan place kind (without_fronts journal) ↔ IsMachineJournal plan.workers kind journal)
  pub part : (room : ℕ) (journal : List ObjectEntry) → (IsPartJournal room (without_fronts journal) ↔ IsMachinePart room journal)
  pub starts : (dormant : List Bool) (journal : List ObjectEntry) → (IsStartsJournal dormant (without_fronts journal) ↔ IsMachineStarts dormant journal)

module _ (claim : Claim) (account : Account) (entries : List (List JournalItem)) (are : AreEntries claim entries) where
  told_numbers : AreJournals entries (object_count claim.plan) account.journals → TellsNumbers claim account
  told_numbers journals worker object = sym (are worker object) ∙ journals.merged object worker ∙ sym (numbers_same 0 worker (journal_at account.journals object))

  merged_as_told : TellsNumbers claim account → length account.journals ≡ object_count claim.plan → AreJournals entries (object_count claim.plan) account.journals
  merged_as_told told count = record {
    count = count;
    merged = λ object worker. are worker object ∙ told worker object ∙ numbers_same 0 worker (journal_at account.journals object);
  }

  pub numbers_are_journals : TellsNumbers claim account × (length account.journals ≡ object_count claim.plan) ↔ AreJournals entries (object_count claim.plan) account.journals
  numbers_are_journals = (λ both. merged_as_told both.0 both.1, λ journals. (told_numbers journals, journals.count))

module _ (blind : AreBlind) (claim : Claim) (account : Account) (entries : List (List JournalItem)) (are : AreEntries claim entries) where
  has_journals : AreJournals entries (object_count claim.plan) account.journals × FollowMachines claim.plan account.journals → HasJournals claim account
  has_journals (journals, follow) = record {
    objects = follow.objects;
    stops = follow.stops;
    each = λ place object at. (blind.declared claim.plan place object.kind (journal_at account.journals (object_number place))).1 (follow.declared place object at);
    parts = λ place part object at pool inside. (blind.part _ _).1 (follow.parts place part object at pool inside);
    starts = λ dormant. (blind.starts _ _).1 (follow.starts dormant);
    told = told_numbers claim account entries are journals;
  }

  has_parts : HasJournals claim account → AreJournals entries (object_count claim.plan) account.journals × FollowMachines claim.plan account.journals
  has_parts has = (
    merged_as_told claim account entries are has.told has.objects,
    record {
      objects = has.objects;
      stops = has.stops;
      declared = λ place object at. (blind.declared claim.plan place object.kind (journal_at account.journals (object_number place))).0 (has.each place object at);
      parts = λ place part object at pool inside. (blind.part _ _).0 (has.parts place part object at pool inside);
      starts = λ dormant. (blind.starts _ _).0 (has.starts dormant);
    },
  )

  pub machine_is_two : HasJournals claim account ↔ AreJournals entries (object_count claim.plan) account.journals × FollowMachines claim.plan account.journals
  machine_is_two = (has_parts, has_journals)

-- ---- `edge`

module _ (claim : Claim) (journals : List (List ObjectEntry)) (only : AreJournalsOf claim journals) where
  pub edges_of : UpTo claim Machine → KeepAllEdges journals → UpTo claim Edge
  edges_of (account, holds) keep = (account, with_edge claim account holds (subst KeepAllEdges (sym (only account (holds Machine (omega arith)))) keep))

  pub edges_kept : UpTo claim Edge → KeepAllEdges journals
  edges_kept (account, holds) = subst KeepAllEdges (only account (holds Machine (omega arith))) (holds Edge (omega arith))
