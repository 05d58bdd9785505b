use Rattle.std.proofs.Common.{refl}
use Rattle.sync_model.specs.Journal.{log_of}
use Rattle.wait_cores.specs.OnceMachine.{start}
use Rattle.workload.specs.declared.object.ObjectKind.TheVariants as kinds
use Rattle.run_record.proofs.ObjectJournals.{journal_at}
use Rattle.run_record.proofs.laws.objects.a_function_runs_once.Goals as goal

pub returns-clause-once : goal.returns-clause-once
returns-clause-once c plan r place atomic delta object lawful some is =
    let j = journal_at plan r place object (kinds.Once atomic delta) lawful some is in
    let follows = (c.journal_is_log.ensures (start plan.workers) j.0 j.2).0 in
    (log_of j.0, (j.0, j.1, refl), c.runs_once.ensures.begun plan.workers (log_of j.0) follows)

pub returns-clause-func : goal.returns-clause-func
returns-clause-func c plan r place code object lawful some is =
    let j = journal_at plan r place object (kinds.OnceFunc code) lawful some is in
    let follows = (c.journal_is_log-2.ensures (start plan.workers) j.0 j.2).0 in
    (log_of j.0, (j.0, j.1, refl), c.runs_once-2.ensures.begun plan.workers (log_of j.0) follows)

pub returns-clause-value : goal.returns-clause-value
returns-clause-value c plan r place value object lawful some is =
    let j = journal_at plan r place object (kinds.OnceValue value) lawful some is in
    let follows = (c.journal_is_log-3.ensures (start plan.workers) j.0 j.2).0 in
    (log_of j.0, (j.0, j.1, refl), c.runs_once-3.ensures.begun plan.workers (log_of j.0) follows)
