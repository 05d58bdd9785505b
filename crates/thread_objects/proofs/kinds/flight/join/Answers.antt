use Rattle.run_record.specs.declared.entered.ObjectEvent.TheVariants as event
use Rattle.run_record.specs.declared.entered.ObjectReply.TheVariants as reply
use Rattle.thread_objects.proofs.kinds.flight.join.Goals as goal

pub returns-clause-works : goal.returns-clause-works
returns-clause-works g c = λ number. c.part_from.ensures.works event.Flight reply.Flight number
