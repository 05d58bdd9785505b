use Rattle.std.proofs.Common.{refl, subst}
use Rattle.sync_model.specs.Journal.{log_of}
use Rattle.sync_model.specs.Log.{Follows}
use Rattle.rw_core.specs.Edges.{Log}
use Rattle.rw_core.specs.RwMachine.{next, start}
use Rattle.workload.specs.declared.object.ObjectKind.TheVariants as kinds
use Rattle.run_record.proofs.ObjectJournals.{journal_at}
use Rattle.run_record.proofs.laws.locks.a_writer_excludes_all_others.Goals as goal

pub returns : goal.returns
returns c plan r place object lawful some is =
    let j = journal_at plan r place object kinds.RwMutex lawful some is in
    let workers = plan.workers in
    let follows = (c.journal_is_log.ensures (start workers) j.0 j.2).0 in (
      log_of j.0,
      (j.0, j.1, refl),
      record {
        after_writer = λ earlier between later first second parts. c.exclusion.ensures.after_writer workers earlier between later first second (subst (λ (l : Log). Follows next (start workers) l) parts follows);
        after_reader = λ earlier between later first second parts. c.exclusion.ensures.after_reader workers earlier between later first second (subst (λ (l : Log). Follows next (start workers) l) parts follows);
        beside_writer = λ earlier between later second parts. c.announced_writer.ensures workers earlier between later second (subst (λ (l : Log). Follows next (start workers) l) parts follows);
        beside_readers = λ earlier between later second parts. c.exclusion.ensures.beside_readers workers earlier between later second (subst (λ (l : Log). Follows next (start workers) l) parts follows);
        apart = λ earlier later parts. (c.validity.ensures.always workers earlier).exclusive;
      },
    )
