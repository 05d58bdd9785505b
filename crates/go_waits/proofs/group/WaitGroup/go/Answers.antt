use Rattle.go_waits.specs.GoCalls.{misused, not_added, started, not_started}
use Rattle.go_waits.proofs.group.WaitGroup.go.Goals as goal

pub returns-in-Halted-clause-events : goal.returns-in-Halted-clause-events
returns-in-Halted-clause-events g c =
    (c.spend_within.new.pass, c.spend_within.ensures.1, not_added c.in-Halted.misuse c.add.new.pass (g.N.Note.front c.add.new.note) (c.in-Halted.ensures.events, c.add.ensures.no_edge))

pub returns-in-Done-Err-clause-events : goal.returns-in-Done-Err-clause-events
returns-in-Done-Err-clause-events g c =
    let did = rw c.in-Done-Err.field-0-is at c.in-Done-Err.ensures.events in
    (c.spend_within.new.pass, c.spend_within.ensures.1, misused c.in-Done-Err.misuse c.add.new.pass (g.N.Note.front c.add.new.note) (did, c.add.ensures.no_edge))

pub returns-in-Halted-start_within-clause-events : goal.returns-in-Halted-start_within-clause-events
returns-in-Halted-start_within-clause-events g c =
    let front = g.N.Note.front in
    let start = c.start_within in
    let halted = c.in-Halted-start_within in
    let did = rw c.in-Done-Ok.field-0-is at c.in-Done-Ok.ensures.events in
    (c.spend_within.new.pass, c.spend_within.ensures.1, not_started halted.misuse c.add.new.pass (front c.add.new.note) start.new.pass (front start.new.note) (did, c.add.ensures.no_edge) (halted.ensures.events, start.ensures.no_edge))

pub returns-in-Done-clause-events : goal.returns-in-Done-clause-events
returns-in-Done-clause-events g c =
    let front = g.N.Note.front in
    let start = c.start_within in
    let did = rw c.in-Done-Ok.field-0-is at c.in-Done-Ok.ensures.events in
    (c.spend_within.new.pass, c.spend_within.ensures.1, started c.add.new.pass (front c.add.new.note) start.new.pass (front start.new.note) (did, c.add.ensures.no_edge) (c.in-Done.ensures.events, start.ensures.no_edge))
