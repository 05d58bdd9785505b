use Rattle.std.proofs.Common.{◌≡◌, ◌↔◌, ℕ, List, sym, ◌∙◌, subst, arith}
use Rattle.std.proofs.lemmas.Bool.{false≢true}
use Rattle.workload.specs.Readable.{IsReadable}
use Rattle.run_record.specs.Objects.{object_count}
use Rattle.run_record.specs.Record.{ObjectEntry}
use Rattle.object_checks.specs.declared.journals.row.Row.{Row}
use Rattle.object_checks.specs.JournalItems.{AreJournals, journals_in}
use Rattle.object_checks.specs.JournalParts.{FollowMachines}
use Rattle.record_text.specs.Told.{Told}
use Rattle.record_clauses.specs.Account.{Account, Claim}
use Rattle.record_clauses.specs.Clauses.{HasJournals}
use Rattle.run_check.specs.declared.spelling.Spelling.{Spelling}
use Rattle.run_check.specs.Journals.{AreEntries, HaveSmallFronts}
use Rattle.run_check.specs.Lists.{AreSpeltTo}
use Rattle.run_check.specs.Tells.{Tells}
use Rattle.run_check.proofs.JournalStages.{machine_holds, none_holds, others_fail}
use Rattle.run_check.proofs.journals.journals_found.Goals as goal
use Rattle.run_check.proofs.journals.journals_found.Goals.{After-object_count}

module _ (c : After-object_count) where
  -- the two parts of `machine`
  two : (told : Told) (found : Spelling) (claim : Claim) → AreSpeltTo told.plan told.items told.plan.workers found → found.entries ≡ c.args.entries.now → Tells told claim → (account : Account)
      → (HasJournals claim account ↔ AreJournals c.args.entries.now (object_count claim.plan) account.journals × FollowMachines claim.plan account.journals)
  two told found claim are is tells account =
      c.journals_are_what_two_clauses_ask.ensures.machine claim account c.args.entries.now (subst (AreEntries claim) is (c.entries_are_found_as_they_are_told.ensures.entries told found claim are tells))

  -- so many objects as were counted
  counted : (journals : List (List ObjectEntry)) → AreJournals c.args.entries.now c.object_count.result journals → AreJournals c.args.entries.now (object_count c.args.workload.now) journals
  counted journals are = subst (λ (n : ℕ). AreJournals c.args.entries.now n journals) c.object_count.ensures are

  one : (journals others : List (List ObjectEntry)) → AreJournals c.args.entries.now (object_count c.args.workload.now) journals → AreJournals c.args.entries.now (object_count c.args.workload.now) others → journals ≡ others
  one = c.items_determine_their_journals.ensures.one c.args.entries.now (object_count c.args.workload.now)

pub journals_of-requires : goal.journals_of-requires
journals_of-requires c = omega (arith, c.requires, c.workers-workers.ensures.workers, c.workers-workers.type_inv)

pub returns-in_default-clause-machine : goal.returns-in_default-clause-machine
returns-in_default-clause-machine c told found claim same are is tells up =
    let before = (goal.at.returns-in_default-clause-machine c).After-object_count in
    let none = rw c.in_default.is at c.in_ok-journals.ensures in
    none_holds claim c.args.workload.now (tells.plan ∙ same) c.args.entries.now (two before told found claim are is tells)
    (λ journals merged. none journals (subst (λ (n : ℕ). AreJournals c.args.entries.now n journals) (sym c.object_count.ensures) merged))

pub returns-then-not-branch-clause-machine : goal.returns-then-not-branch-clause-machine
returns-then-not-branch-clause-machine c told found claim same are is tells up =
    let before = (goal.at.returns-then-not-branch-clause-machine c).After-object_count in
    let rows = c.in-Some.journals.items in
    let merged = rw c.in-Some.is at c.in_ok-journals.ensures in
    others_fail claim c.args.workload.now (tells.plan ∙ same) c.args.entries.now (two before told found claim are is tells) (one before) (journals_in rows) (counted before (journals_in rows) merged)
    (λ follow. false≢true (sym c.if-not-branch.true ∙ c.in_ok-follow_machines.ensures.1 (subst (λ (rs : List (List Row)). FollowMachines c.args.workload.now (journals_in rs)) (sym c.deref.ensures.value) follow)))

pub returns-clause-machine : goal.returns-clause-machine
returns-clause-machine c told found claim same are is tells up =
    let before = (goal.at.returns-clause-machine c).After-object_count in
    let rows = c.in-Some.journals.items in
    let merged = rw c.in-Some.is at c.in_ok-journals.ensures in
    machine_holds claim c.args.workload.now (tells.plan ∙ same) c.args.entries.now (two before told found claim are is tells) (one before) (journals_in rows) (counted before (journals_in rows) merged)
    (subst (λ (rs : List (List Row)). FollowMachines c.args.workload.now (journals_in rs)) c.deref.ensures.value (c.in_ok-follow_machines.ensures.0 c.if-not-branch.false)) up

pub returns-clause-fronts : goal.returns-clause-fronts
returns-clause-fronts c bytes told found same are is text =
    let before = (goal.at.returns-clause-fronts c).After-object_count in
    let rows = c.in-Some.journals.items in
    let merged = rw c.in-Some.is at c.in_ok-journals.ensures in
    let readable : IsReadable told.plan = subst IsReadable (sym same) c.workers-workers.ensures.readable in
    c.items_determine_their_journals.ensures.fronts c.args.entries.now (object_count c.args.workload.now) rows (counted before (journals_in rows) merged)
    (subst HaveSmallFronts is (c.entries_are_found_as_they_are_told.ensures.fronts bytes told found readable text are))
