use Rattle.protocols.specs.MutexStages.{mutex_event, mutex_meaning}
use Rattle.run_record.specs.declared.entered.ObjectEvent.TheVariants as event
use Rattle.run_record.specs.declared.entered.ObjectReply.TheVariants as reply
use Rattle.run_record.specs.Parts.{stages}
use Rattle.run_record.specs.Record.{object_number}
use Rattle.thread_objects.proofs.Working.{reads_from}
use Rattle.thread_objects.proofs.kinds.mutex.MutexCoreDeclaredKind.call.Goals as goal

pub returns-clause-works : goal.returns-clause-works
returns-clause-works g c = λ before place.
    rw (c.in-Mutex-Mutex.is-0, c.in-Mutex-Mutex.is-1) (reads_from _ (stages event.Mutex reply.Mutex mutex_event mutex_meaning (object_number place)) _ _ _ _ _ _ c.stage_of.ensures.stage c.lock_reply.ensures (c.part-answer.ensures.works event.Mutex reply.Mutex (object_number place)))
