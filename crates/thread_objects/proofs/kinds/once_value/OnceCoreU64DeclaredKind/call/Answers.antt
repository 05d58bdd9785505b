use Rattle.run_record.specs.declared.entered.ObjectEvent.TheVariants as event
use Rattle.run_record.specs.declared.entered.ObjectReply.TheVariants as reply
use Rattle.run_record.specs.Record.{object_number}
use Rattle.thread_objects.specs.OnceValueKind.{value_told}
use Rattle.thread_objects.proofs.Working.{answers_as}
use Rattle.thread_objects.proofs.kinds.once_value.OnceCoreU64DeclaredKind.call.Goals as goal

pub returns-clause-works : goal.returns-clause-works
returns-clause-works g c = λ before place.
    rw (c.in-OnceValue-OnceValue.is-0, c.in-OnceValue-OnceValue.is-1) (answers_as _ _ _ _ _ c.value_reply.ensures (c.kept-answer.ensures.works event.OnceValue reply.OnceValue (object_number place) value_told))

pub returns-clause-called : goal.returns-clause-called
returns-clause-called g c = c.kept-answer.ensures.called c.args._catalog.now.workload.now c.requires.caller.1
