use Rattle.std.proofs.Common.{ap}
use Rattle.ruled_object.specs.Passes.{start_of}
use Rattle.run_record.specs.declared.entered.ObjectEvent.TheVariants as event
use Rattle.run_record.specs.declared.entered.ObjectReply.TheVariants as reply
use Rattle.run_record.specs.WaitGroupKind.{wait_group_part}
use Rattle.thread_objects.specs.declared.pass.AnyPass.{AnyPass}
use Rattle.thread_objects.specs.ByKind.{own_of}
use Rattle.thread_runner.proofs.Working.{same_own}
use Rattle.thread_runner.proofs.desk.part_of_group.Goals as goal

pub part-requires-clause-allowed : goal.part-requires-clause-allowed
part-requires-clause-allowed g c = c.requires.allowed (start_of c.in-WaitGroup.object)

pub returns-clause-works : goal.returns-clause-works
returns-clause-works g c = λ number. same_own (wait_group_part number c.args.stage) g.N.Note.own g.N.Note.front number _ _ _ c.args.note.now c.part.new.note _ (ap (λ (p : AnyPass _). own_of p) c.in-WaitGroup-pass.is) (c.part.ensures.works event.WaitGroup reply.WaitGroup number)
