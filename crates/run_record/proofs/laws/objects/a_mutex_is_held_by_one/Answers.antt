use Rattle.std.proofs.Common.{refl}
use Rattle.sync_model.specs.Journal.{log_of}
use Rattle.mutex_core.specs.MutexMachine.{start}
use Rattle.workload.specs.declared.object.ObjectKind.TheVariants as kinds
use Rattle.run_record.proofs.ObjectJournals.{journal_at}
use Rattle.run_record.proofs.laws.objects.a_mutex_is_held_by_one.Goals as goal

pub returns : goal.returns
returns c plan r place object lawful some is =
    let j = journal_at plan r place object kinds.Mutex lawful some is in
    let follows = (c.journal_is_log.ensures (start plan.workers) j.0 j.2).0 in
    (log_of j.0, (j.0, j.1, refl), c.mutual_exclusion.ensures.in_turn plan.workers (log_of j.0) follows)
