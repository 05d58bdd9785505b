use Rattle.std.proofs.Common.{refl}
use Rattle.starts_core.specs.declared.protocol.StartsStage.TheVariants as stage
use Rattle.starts_core.specs.StartsStages.{starts_gives}
use Rattle.run_record.specs.StartsKind.{starts_part, was_started}
use Rattle.thread_objects.proofs.Working.{reads, unmisused}
use Rattle.thread_objects.proofs.starting.wait_start.Goals as goal

pub returns-clause-unmisused : goal.returns-clause-unmisused
returns-clause-unmisused g c = λ misuse. unmisused was_started (starts_gives stage.WaitStart) _ _ misuse (λ m. refl) c.on_starts.ensures.gives c.whether_started.ensures

pub returns-clause-works : goal.returns-clause-works
returns-clause-works g c = λ number. reads was_started (starts_part number stage.WaitStart) _ _ _ _ c.whether_started.ensures (c.on_starts.ensures.works number)
