use Rattle.std.proofs.Common.{ap, ◌∙◌, refl, [], ◌∷◌, Ok, Err, arith}
use Rattle.sync_model.specs.declared.answer.Answer.TheVariants.{Done, Halted}
use Rattle.ruled_object.specs.Passes.{start_of}
use Rattle.protocols.specs.declared.step.Step.TheVariants.{Finished, Misused, Waits, Next}
use Rattle.call_loop.proofs.SoFar.{some_entries}
use Rattle.call_loop.proofs.Timed.{ends_first, went_on_timed}
use Rattle.call_loop.proofs.calls.call_within_timed.Goals as goal

pub returns-in-Done-Waits-clause-events : goal.returns-in-Done-Waits-clause-events
returns-in-Done-Waits-clause-events g c = (went_on_timed g.P.Machine.next g.P.Machine.HALTS (start_of c.args.object.now) g.P.Protocol.event g.P.Protocol.moment g.P.Protocol.meaning g.T.Timing.LAZY (g.C.Clock.shows c.args.at.now.clock.now) g.P.Protocol.gives g.P.Protocol.gains c.args.stage c.args.pass.now c.make.new.pass c.go_on.new.pass (g.N.Note.front c.args.note.now) (g.N.Note.front c.make.new.note) (g.N.Note.front c.go_on.new.note) c.in-Done-Waits.later c.make.result (Waits c.in-Done-Waits.later) c.go_on.result (c.growth.ensures.both (start_of c.args.object.now)) (λ r. c.laws.ensures.gives c.args.stage r) (λ r. (g.P.Machine.takes (g.P.Protocol.event c.args.stage 0) r, c.laws.ensures.gains c.args.stage 0 r)) (c.growth.ensures.nothing (start_of c.args.object.now) c.args.pass.now (g.N.Note.front c.args.note.now)) c.make.ensures.made c.make.ensures.no_edge (c.in-Done-Waits.is ∙ ap Done c.in-Done-Waits.field-0-is) refl c.go_on.ensures.events c.go_on.ensures.no_edge).0

pub returns-in-Done-Waits-clause-no_edge : goal.returns-in-Done-Waits-clause-no_edge
returns-in-Done-Waits-clause-no_edge g c = (went_on_timed g.P.Machine.next g.P.Machine.HALTS (start_of c.args.object.now) g.P.Protocol.event g.P.Protocol.moment g.P.Protocol.meaning g.T.Timing.LAZY (g.C.Clock.shows c.args.at.now.clock.now) g.P.Protocol.gives g.P.Protocol.gains c.args.stage c.args.pass.now c.make.new.pass c.go_on.new.pass (g.N.Note.front c.args.note.now) (g.N.Note.front c.make.new.note) (g.N.Note.front c.go_on.new.note) c.in-Done-Waits.later c.make.result (Waits c.in-Done-Waits.later) c.go_on.result (c.growth.ensures.both (start_of c.args.object.now)) (λ r. c.laws.ensures.gives c.args.stage r) (λ r. (g.P.Machine.takes (g.P.Protocol.event c.args.stage 0) r, c.laws.ensures.gains c.args.stage 0 r)) (c.growth.ensures.nothing (start_of c.args.object.now) c.args.pass.now (g.N.Note.front c.args.note.now)) c.make.ensures.made c.make.ensures.no_edge (c.in-Done-Waits.is ∙ ap Done c.in-Done-Waits.field-0-is) refl c.go_on.ensures.events c.go_on.ensures.no_edge).1

pub returns-in-Done-Next-clause-events : goal.returns-in-Done-Next-clause-events
returns-in-Done-Next-clause-events g c = (went_on_timed g.P.Machine.next g.P.Machine.HALTS (start_of c.args.object.now) g.P.Protocol.event g.P.Protocol.moment g.P.Protocol.meaning g.T.Timing.LAZY (g.C.Clock.shows c.args.at.now.clock.now) g.P.Protocol.gives g.P.Protocol.gains c.args.stage c.args.pass.now c.make.new.pass c.go_on-in-Done-Next.new.pass (g.N.Note.front c.args.note.now) (g.N.Note.front c.make.new.note) (g.N.Note.front c.go_on-in-Done-Next.new.note) c.in-Done-Next.later c.make.result (Next c.in-Done-Next.later) c.go_on-in-Done-Next.result (c.growth.ensures.both (start_of c.args.object.now)) (λ r. c.laws.ensures.gives c.args.stage r) (λ r. (g.P.Machine.takes (g.P.Protocol.event c.args.stage 0) r, c.laws.ensures.gains c.args.stage 0 r)) (c.growth.ensures.nothing (start_of c.args.object.now) c.args.pass.now (g.N.Note.front c.args.note.now)) c.make.ensures.made c.make.ensures.no_edge (c.in-Done-Next.is ∙ ap Done c.in-Done-Next.field-0-is) refl c.go_on-in-Done-Next.ensures.events c.go_on-in-Done-Next.ensures.no_edge).0

pub returns-in-Done-Next-clause-no_edge : goal.returns-in-Done-Next-clause-no_edge
returns-in-Done-Next-clause-no_edge g c = (went_on_timed g.P.Machine.next g.P.Machine.HALTS (start_of c.args.object.now) g.P.Protocol.event g.P.Protocol.moment g.P.Protocol.meaning g.T.Timing.LAZY (g.C.Clock.shows c.args.at.now.clock.now) g.P.Protocol.gives g.P.Protocol.gains c.args.stage c.args.pass.now c.make.new.pass c.go_on-in-Done-Next.new.pass (g.N.Note.front c.args.note.now) (g.N.Note.front c.make.new.note) (g.N.Note.front c.go_on-in-Done-Next.new.note) c.in-Done-Next.later c.make.result (Next c.in-Done-Next.later) c.go_on-in-Done-Next.result (c.growth.ensures.both (start_of c.args.object.now)) (λ r. c.laws.ensures.gives c.args.stage r) (λ r. (g.P.Machine.takes (g.P.Protocol.event c.args.stage 0) r, c.laws.ensures.gains c.args.stage 0 r)) (c.growth.ensures.nothing (start_of c.args.object.now) c.args.pass.now (g.N.Note.front c.args.note.now)) c.make.ensures.made c.make.ensures.no_edge (c.in-Done-Next.is ∙ ap Done c.in-Done-Next.field-0-is) refl c.go_on-in-Done-Next.ensures.events c.go_on-in-Done-Next.ensures.no_edge).1

pub returns-in-Done-Waits-clause-turns : goal.returns-in-Done-Waits-clause-turns
returns-in-Done-Waits-clause-turns g c =
    let start = start_of c.args.object.now in
    let front = g.N.Note.front in
    let made = c.make.ensures.made in
    let did = c.go_on.ensures.events in
    let some = some_entries g.P.Protocol.event g.P.Protocol.meaning c.in-Done-Waits.later c.go_on.result did.entries did.spelt in
    let from = front c.args.note.now in
    let to = front c.go_on.new.note in
    c.turns_needed.ensures.several start c.args.pass.now c.go_on.new.pass (made.one ∷ did.entries) from to from to
    (c.growth.ensures.both start c.args.pass.now c.make.new.pass c.go_on.new.pass (made.one ∷ []) did.entries from (front c.make.new.note) to made.grows did.grows) (omega arith)

pub returns-in-Done-Next-clause-turns : goal.returns-in-Done-Next-clause-turns
returns-in-Done-Next-clause-turns g c =
    let start = start_of c.args.object.now in
    let front = g.N.Note.front in
    let made = c.make.ensures.made in
    let did = c.go_on-in-Done-Next.ensures.events in
    let some = some_entries g.P.Protocol.event g.P.Protocol.meaning c.in-Done-Next.later c.go_on-in-Done-Next.result did.entries did.spelt in
    let from = front c.args.note.now in
    let to = front c.go_on-in-Done-Next.new.note in
    c.turns_needed.ensures.several start c.args.pass.now c.go_on-in-Done-Next.new.pass (made.one ∷ did.entries) from to from to
    (c.growth.ensures.both start c.args.pass.now c.make.new.pass c.go_on-in-Done-Next.new.pass (made.one ∷ []) did.entries from (front c.make.new.note) to made.grows did.grows) (omega arith)

pub returns-in-Halted-clause-events : goal.returns-in-Halted-clause-events
returns-in-Halted-clause-events g c =
    let p = g.P.Protocol in
    let m = g.P.Machine in
    let front = g.N.Note.front in
    ends_first m.next m.HALTS (start_of c.args.object.now) p.event p.moment p.meaning g.T.Timing.LAZY (g.C.Clock.shows c.args.at.now.clock.now) c.args.stage c.args.pass.now c.make.new.pass (front c.args.note.now) (front c.make.new.note) c.make.result (Halted c.in-Halted.misuse) (Halted c.in-Halted.misuse) c.make.ensures.made c.in-Halted.is refl

pub returns-in-Done-Finished-clause-events : goal.returns-in-Done-Finished-clause-events
returns-in-Done-Finished-clause-events g c =
    let p = g.P.Protocol in
    let m = g.P.Machine in
    let front = g.N.Note.front in
    ends_first m.next m.HALTS (start_of c.args.object.now) p.event p.moment p.meaning g.T.Timing.LAZY (g.C.Clock.shows c.args.at.now.clock.now) c.args.stage c.args.pass.now c.make.new.pass (front c.args.note.now) (front c.make.new.note) c.make.result (Done (Finished c.in-Done-Finished.outcome)) (Done (Ok c.in-Done-Finished.outcome)) c.make.ensures.made (c.in-Done-Finished.is ∙ ap Done c.in-Done-Finished.field-0-is) refl

pub returns-in-Done-Misused-clause-events : goal.returns-in-Done-Misused-clause-events
returns-in-Done-Misused-clause-events g c =
    let p = g.P.Protocol in
    let m = g.P.Machine in
    let front = g.N.Note.front in
    ends_first m.next m.HALTS (start_of c.args.object.now) p.event p.moment p.meaning g.T.Timing.LAZY (g.C.Clock.shows c.args.at.now.clock.now) c.args.stage c.args.pass.now c.make.new.pass (front c.args.note.now) (front c.make.new.note) c.make.result (Done (Misused c.in-Done-Misused.misuse)) (Done (Err c.in-Done-Misused.misuse)) c.make.ensures.made (c.in-Done-Misused.is ∙ ap Done c.in-Done-Misused.field-0-is) refl
