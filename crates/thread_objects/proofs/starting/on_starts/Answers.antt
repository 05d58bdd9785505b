use Rattle.std.proofs.Common.{ap}
use Rattle.run_record.specs.declared.entered.ObjectEvent.TheVariants as event
use Rattle.run_record.specs.declared.entered.ObjectReply.TheVariants as reply
use Rattle.run_record.specs.StartsKind.{starts_part}
use Rattle.thread_objects.specs.declared.pass.AnyPass.{AnyPass}
use Rattle.thread_objects.specs.ByKind.{own_of}
use Rattle.thread_objects.proofs.Working.{same_own}
use Rattle.thread_objects.proofs.starting.on_starts.Goals as goal

pub returns-clause-works : goal.returns-clause-works
returns-clause-works g c = λ number. same_own (starts_part number c.args.stage) g.N.Note.own g.N.Note.front number _ _ _ c.args.note.now c.part.new.note _ (ap (λ (p : AnyPass _). own_of p) c.in-Starts-pass.is) (c.part.ensures.works event.Starts reply.Starts number)
