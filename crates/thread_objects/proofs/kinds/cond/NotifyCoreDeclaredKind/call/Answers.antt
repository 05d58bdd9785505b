use Rattle.run_record.specs.declared.entered.ObjectEvent.TheVariants as event
use Rattle.run_record.specs.declared.entered.ObjectReply.TheVariants as reply
use Rattle.run_record.specs.Record.{object_number}
use Rattle.thread_objects.proofs.Working.{reads}
use Rattle.thread_objects.proofs.kinds.cond.NotifyCoreDeclaredKind.call.Goals as goal

pub returns-in-Signal-clause-works : goal.returns-in-Signal-clause-works
returns-in-Signal-clause-works g c = λ before place.
    rw (c.in-Cond-Cond.is-0, c.in-Cond-Cond.is-1, c.in-Signal.is) (reads _ _ _ _ _ _ c.returned.ensures (c.part-answer.ensures.works event.Cond reply.Cond (object_number place)))

pub returns-in-Broadcast-clause-works : goal.returns-in-Broadcast-clause-works
returns-in-Broadcast-clause-works g c = λ before place.
    rw (c.in-Cond-Cond.is-0, c.in-Cond-Cond.is-1, c.in-Broadcast.is) (reads _ _ _ _ _ _ c.returned-in-Broadcast.ensures (c.part-answer-in-Broadcast.ensures.works event.Cond reply.Cond (object_number place)))
