use Rattle.run_record.specs.declared.entered.ObjectEvent.TheVariants as event
use Rattle.run_record.specs.declared.entered.ObjectReply.TheVariants as reply
use Rattle.run_record.specs.Record.{object_number}
use Rattle.thread_objects.specs.OnceFuncKind.{func_told}
use Rattle.thread_objects.proofs.Working.{answers_as}
use Rattle.thread_objects.proofs.kinds.once_func.OnceCoreU32DeclaredKind.call.Goals as goal

pub returns-clause-works : goal.returns-clause-works
returns-clause-works g c = λ before place.
    rw (c.in-OnceFunc-OnceFunc.is-0, c.in-OnceFunc-OnceFunc.is-1) (answers_as _ _ _ _ _ c.func_reply.ensures (c.kept-answer.ensures.works event.OnceFunc reply.OnceFunc (object_number place) func_told))

pub returns-clause-called : goal.returns-clause-called
returns-clause-called g c = c.kept-answer.ensures.called c.args._catalog.now.workload.now c.requires.caller.1
