use Rattle.run_record.specs.declared.entered.ObjectEvent.TheVariants as event
use Rattle.run_record.specs.declared.entered.ObjectReply.TheVariants as reply
use Rattle.run_record.specs.Record.{object_number}
use Rattle.thread_objects.proofs.RwWorking.{reads_call}
use Rattle.thread_objects.proofs.kinds.rw_mutex.RwCoreDeclaredKind.call.Goals as goal

pub returns-clause-works : goal.returns-clause-works
returns-clause-works g c = λ before place.
    rw (c.in-RwMutex-RwMutex.is-0, c.in-RwMutex-RwMutex.is-1) (reads_call (object_number place) _ _ _ _ _ _ c.stage_of.ensures.stage c.lock_reply.ensures (c.part-answer.ensures.works event.RwMutex reply.RwMutex (object_number place)))
