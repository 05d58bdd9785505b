use Rattle.std.proofs.Common.{ap}
use Rattle.run_record.specs.declared.entered.ObjectEvent.TheVariants as event
use Rattle.run_record.specs.declared.entered.ObjectReply.TheVariants as reply
use Rattle.run_record.specs.PoolKind.{pool_part}
use Rattle.thread_objects.specs.declared.pass.AnyPass.{AnyPass}
use Rattle.thread_objects.specs.ByKind.{own_of}
use Rattle.thread_runner.proofs.Working.{same_own}
use Rattle.thread_runner.proofs.pool.part_of_pool.Goals as goal

pub returns-clause-works : goal.returns-clause-works
returns-clause-works g c = λ number. same_own (pool_part number c.args.stage) g.N.Note.own g.N.Note.front number _ _ _ c.args.note.now c.part.new.note _ (ap (λ (p : AnyPass _). own_of p) c.in-PoolPart-pass.is) (c.part.ensures.works event.Pool reply.Pool number)
