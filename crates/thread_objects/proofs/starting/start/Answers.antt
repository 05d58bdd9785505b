use Rattle.std.proofs.Common.{refl}
use Rattle.script_calls.specs.declared.call.Reply.TheVariants as replies
use Rattle.starts_core.specs.declared.protocol.StartsStage.TheVariants as stage
use Rattle.starts_core.specs.StartsStages.{starts_gives}
use Rattle.run_record.specs.StartsKind.{starts_part}
use Rattle.thread_objects.proofs.Working.{reads, unmisused}
use Rattle.thread_objects.proofs.starting.start.Goals as goal

pub returns-clause-unmisused : goal.returns-clause-unmisused
returns-clause-unmisused g c = λ misuse. unmisused (λ made. replies.Returned) (starts_gives (stage.Start c.args.started)) _ _ misuse (λ m. refl) c.on_starts.ensures.gives c.made.ensures

pub returns-clause-works : goal.returns-clause-works
returns-clause-works g c = λ number. reads (λ made. replies.Returned) (starts_part number (stage.Start c.args.started)) _ _ _ _ c.made.ensures (c.on_starts.ensures.works number)
