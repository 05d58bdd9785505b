use Rattle.run_record.specs.declared.entered.ObjectEvent.TheVariants as event
use Rattle.run_record.specs.declared.entered.ObjectReply.TheVariants as reply
use Rattle.run_record.specs.Record.{object_number}
use Rattle.run_record.specs.SemaKind.{sema_part}
use Rattle.thread_objects.proofs.Working.{reads_from}
use Rattle.thread_objects.proofs.kinds.sema.SemaCoreDeclaredKind.call.Goals as goal

pub returns-clause-works : goal.returns-clause-works
returns-clause-works g c = λ before place.
    rw (c.in-Sema-Sema.is-0, c.in-Sema-Sema.is-1) (reads_from _ (sema_part (object_number place)) _ _ _ _ _ _ c.stage_of.ensures.stage c.lock_reply.ensures (c.part-answer.ensures.works event.Sema reply.Sema (object_number place)))
