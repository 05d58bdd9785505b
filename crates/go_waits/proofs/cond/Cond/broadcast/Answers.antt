use Rattle.std.proofs.Common.{refl}
use Rattle.wait_cores.specs.declared.notify.NotifyEvent.TheVariants as event
use Rattle.protocols.specs.declared.cond.CondStage.TheVariants as stage
use Rattle.protocols.specs.CondStages.{cond_gains}
use Rattle.go_waits.specs.Conds.{start_of}
use Rattle.go_waits.proofs.Calling.{gains_nothing}
use Rattle.go_waits.proofs.CondSpelling.{made_by}
use Rattle.go_waits.proofs.cond.Cond.broadcast.Goals as goal

pub returns-clause-events : goal.returns-clause-events
returns-clause-events g c =
    let front = g.N.Note.front in
    (made_by (start_of c.args.self.now) (g.C.Clock.shows c.args.at.now.clock.now) c.args.pass.now c.call.new.pass (front c.args.note.now) (front c.call.new.note) c.call.result stage.Broadcast event.Broadcast (λ now. refl) (λ r. refl) (λ outcome. refl) c.done.result c.done.ensures c.call.ensures.events c.call.ensures.no_edge).0

pub returns-clause-no_edge : goal.returns-clause-no_edge
returns-clause-no_edge g c = c.call.ensures.no_edge (gains_nothing (cond_gains stage.Broadcast) c.call.result (λ outcome. refl))
