use Rattle.std.proofs.Common.{refl}
use Rattle.starts_core.specs.declared.protocol.StartsStage.TheVariants as stage
use Rattle.starts_core.specs.declared.starts.StartEvent.TheVariants as event
use Rattle.starts_core.specs.StartsStages.{starts_gains}
use Rattle.go_waits.specs.Startings.{start_of}
use Rattle.go_waits.proofs.Calling.{gains_nothing}
use Rattle.go_waits.proofs.StartsSpelling.{made_by}
use Rattle.go_waits.proofs.starts.Starts.start_within.Goals as goal

pub returns-clause-events : goal.returns-clause-events
returns-clause-events g c =
    let front = g.N.Note.front in
    made_by (start_of c.args.self.now) (g.C.Clock.shows c.args.at.now.clock.now) c.args.pass.now c.call_within.new.pass (front c.args.note.now) (front c.call_within.new.note) c.call_within.result (stage.Start c.args.worker) (event.Start c.args.worker) (λ now. refl) (λ r. refl) c.done.result c.done.ensures c.call_within.ensures.events

pub returns-clause-no_edge : goal.returns-clause-no_edge
returns-clause-no_edge g c = c.call_within.ensures.no_edge (gains_nothing (starts_gains (stage.Start c.args.worker)) c.call_within.result (λ outcome. refl))
