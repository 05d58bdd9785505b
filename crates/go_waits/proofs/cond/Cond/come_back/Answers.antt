use Rattle.std.proofs.Common.{refl}
use Rattle.go_waits.specs.Conds.{start_of}
use Rattle.go_waits.specs.CondCalls.{never_left, locked, not_locked}
use Rattle.go_waits.proofs.CondSpelling.{left_by, halted_gains}
use Rattle.go_waits.proofs.cond.Cond.come_back.Goals as goal

pub returns-in-Halted-clause-events : goal.returns-in-Halted-clause-events
returns-in-Halted-clause-events g c =
    let front = g.N.Note.front in
    let call = c.call_within in
    let is = c.in-Halted.ensures in
    let left = left_by (start_of c.args.self.now) (g.C.Clock.shows c.args.at.now.clock.now) c.args.pass.now call.new.pass (front c.args.note.now) (front call.new.note) call.result _ is call.ensures.events in
    never_left c.in-Halted.misuse call.new.pass (front call.new.note) (left, call.ensures.no_edge (halted_gains call.result c.in-Halted.misuse is))

pub returns-in-Done-lock_within-clause-events : goal.returns-in-Done-lock_within-clause-events
returns-in-Done-lock_within-clause-events g c =
    let front = g.N.Note.front in
    let call = c.call_within in
    let left = left_by (start_of c.args.self.now) (g.C.Clock.shows c.args.at.now.clock.now) c.args.pass.now call.new.pass (front c.args.note.now) (front call.new.note) call.result _ c.in-Done.ensures call.ensures.events in
    locked call.new.pass (front call.new.note) c.lock_within.new.pass (front c.lock_within.new.note) left c.in-Done-lock_within.ensures.events

pub returns-in-Halted-lock_within-clause-events : goal.returns-in-Halted-lock_within-clause-events
returns-in-Halted-lock_within-clause-events g c =
    let front = g.N.Note.front in
    let call = c.call_within in
    let left = left_by (start_of c.args.self.now) (g.C.Clock.shows c.args.at.now.clock.now) c.args.pass.now call.new.pass (front c.args.note.now) (front call.new.note) call.result _ c.in-Done.ensures call.ensures.events in
    let halted = c.in-Halted-lock_within in
    not_locked halted.misuse call.new.pass (front call.new.note) c.lock_within.new.pass (front c.lock_within.new.note) left (halted.ensures.events, halted.ensures.halted halted.misuse refl)
