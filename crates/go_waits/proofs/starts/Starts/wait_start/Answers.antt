use Rattle.go_waits.specs.Startings.{start_of}
use Rattle.go_waits.proofs.StartsSpelling.{waited_by, wait_gains}
use Rattle.go_waits.proofs.starts.Starts.wait_start.Goals as goal

pub returns-clause-events : goal.returns-clause-events
returns-clause-events g c =
    let front = g.N.Note.front in
    waited_by (start_of c.args.self.now) (g.C.Clock.shows c.args.at.now.clock.now) c.args.pass.now c.call.new.pass (front c.args.note.now) (front c.call.new.note) c.call.result c.started.result c.started.ensures c.call.ensures.events

pub returns-clause-no_edge : goal.returns-clause-no_edge
returns-clause-no_edge g c other = c.call.ensures.no_edge (wait_gains c.call.result c.started.result c.started.ensures other)
