use Rattle.std.proofs.Common.{◌≤◌, arith}
use Rattle.workload.specs.declared.limits.TheConstants.{MAX_WORKERS}
use Rattle.run_check.proofs.JournalEntries.{entries_are, fronts_are_small}
use Rattle.run_check.proofs.journals.entries_are_found_as_they_are_told.Goals as goal

pub returns-clause-entries : goal.returns-clause-entries
returns-clause-entries c told found claim are tells = entries_are told found claim are tells

pub returns-clause-fronts : goal.returns-clause-fronts
returns-clause-fronts c bytes told found readable is are =
    let few : told.plan.workers ≤ MAX_WORKERS = readable.few_workers in
    fronts_are_small told found (omega (arith, few, c.limits.ensures.workers.0)) bytes is are
