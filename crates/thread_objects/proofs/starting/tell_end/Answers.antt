use Rattle.std.proofs.Common.{refl}
use Rattle.starts_core.specs.declared.protocol.StartsStage.TheVariants as stage
use Rattle.starts_core.specs.StartsStages.{starts_gives}
use Rattle.run_record.specs.StartsKind.{starts_part}
use Rattle.thread_objects.proofs.Working.{reads, unmisused}
use Rattle.thread_objects.proofs.starting.tell_end.Goals as goal

pub returns-clause-unmisused : goal.returns-clause-unmisused
returns-clause-unmisused g c = λ misuse. unmisused (λ ended. tt) (starts_gives stage.End) _ _ misuse (λ m. refl) c.on_starts.ensures.gives c.ended.ensures

pub returns-clause-works : goal.returns-clause-works
returns-clause-works g c = λ number. reads (λ ended. tt) (starts_part number stage.End) _ _ _ _ c.ended.ensures (c.on_starts.ensures.works number)
