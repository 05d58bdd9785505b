use Rattle.protocols.specs.GroupStages.{group_event, group_meaning}
use Rattle.run_record.specs.declared.entered.ObjectEvent.TheVariants as event
use Rattle.run_record.specs.declared.entered.ObjectReply.TheVariants as reply
use Rattle.run_record.specs.Parts.{stages}
use Rattle.run_record.specs.Record.{object_number}
use Rattle.thread_objects.proofs.Working.{reads_from}
use Rattle.thread_objects.proofs.kinds.wait_group.GroupCoreDeclaredKind.call.Goals as goal

pub returns-clause-works : goal.returns-clause-works
returns-clause-works g c = λ before place.
    rw (c.in-WaitGroup-WaitGroup.is-0, c.in-WaitGroup-WaitGroup.is-1) (reads_from _ (stages event.WaitGroup reply.WaitGroup group_event group_meaning (object_number place)) _ _ _ _ _ _ c.stage_of.ensures.stage c.returned.ensures (c.part-answer.ensures.works event.WaitGroup reply.WaitGroup (object_number place)))
