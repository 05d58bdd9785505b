use Rattle.std.proofs.Common.{ap, ◌∙◌, refl, Ok, Err, arith, rules}
use Rattle.sync_model.specs.declared.answer.Answer.TheVariants.{Done, Halted}
use Rattle.ruled_object.specs.Passes.{own_by, start_of}
use Rattle.ruled_object.specs.Standing.{stand_by}
use Rattle.protocols.specs.declared.step.Step.TheVariants.{Finished, Misused, Waits, Next}
use Rattle.call_loop.proofs.SoFar.{begun, leads_on, on_by, ends_at}
use Rattle.call_loop.proofs.calls.go_on.Goals as goal

pub loop-init : goal.loop-init
loop-init g c =
    let p = g.P.Protocol in
    let m = g.P.Machine in
    let start = start_of c.args.object.now in
    let from = g.N.Note.front c.args.note.now in
    let nothing = c.growth.ensures.nothing start c.args.pass.now from in (
      (tt, tt),
      c.requires.pass,
      (refl, refl),
      record { home = λ home is. is; kept = refl; rises = ((λ caller. omega arith), omega arith) },
      c.requires.allowed,
      begun m.next m.HALTS start p.event p.moment p.meaning (g.C.Clock.shows c.args.at.now.clock.now) p.gives p.gains c.args.stage c.args.pass.now from nothing,
    )

pub returns-in-Halted-clause-events : goal.returns-in-Halted-clause-events
returns-in-Halted-clause-events g c =
    let p = g.P.Protocol in
    let m = g.P.Machine in
    let front = g.N.Note.front in
    ends_at m.next m.HALTS (start_of c.args.object.now) p.event p.moment p.meaning (g.C.Clock.shows c.args.at.now.clock.now) p.gives p.gains c.args.stage c.args.pass.now c.loop.pass c.make.new.pass (front c.args.note.now) (front c.loop.note) (front c.make.new.note) c.loop.due c.make.result (Halted c.in-Halted.misuse) (Halted c.in-Halted.misuse) (c.growth.ensures.both (start_of c.args.object.now)) c.growth.ensures.halted c.loop.invariant.5 c.make.ensures.made c.in-Halted.is refl

pub returns-in-Done-Finished-clause-events : goal.returns-in-Done-Finished-clause-events
returns-in-Done-Finished-clause-events g c =
    let p = g.P.Protocol in
    let m = g.P.Machine in
    let front = g.N.Note.front in
    ends_at m.next m.HALTS (start_of c.args.object.now) p.event p.moment p.meaning (g.C.Clock.shows c.args.at.now.clock.now) p.gives p.gains c.args.stage c.args.pass.now c.loop.pass c.make.new.pass (front c.args.note.now) (front c.loop.note) (front c.make.new.note) c.loop.due c.make.result (Done (Finished c.in-Done-Finished.outcome)) (Done (Ok c.in-Done-Finished.outcome)) (c.growth.ensures.both (start_of c.args.object.now)) c.growth.ensures.halted c.loop.invariant.5 c.make.ensures.made (c.in-Done-Finished.is ∙ ap Done c.in-Done-Finished.field-0-is) refl

pub returns-in-Done-Misused-clause-events : goal.returns-in-Done-Misused-clause-events
returns-in-Done-Misused-clause-events g c =
    let p = g.P.Protocol in
    let m = g.P.Machine in
    let front = g.N.Note.front in
    ends_at m.next m.HALTS (start_of c.args.object.now) p.event p.moment p.meaning (g.C.Clock.shows c.args.at.now.clock.now) p.gives p.gains c.args.stage c.args.pass.now c.loop.pass c.make.new.pass (front c.args.note.now) (front c.loop.note) (front c.make.new.note) c.loop.due c.make.result (Done (Misused c.in-Done-Misused.misuse)) (Done (Err c.in-Done-Misused.misuse)) (c.growth.ensures.both (start_of c.args.object.now)) c.growth.ensures.halted c.loop.invariant.5 c.make.ensures.made (c.in-Done-Misused.is ∙ ap Done c.in-Done-Misused.field-0-is) refl

pub loop-preserved-in-Done-Waits : goal.loop-preserved-in-Done-Waits
loop-preserved-in-Done-Waits g c =
    let p = g.P.Protocol in
    let m = g.P.Machine in
    let front = g.N.Note.front in
    (search rules, search rules, search rules, search rules, leads_on p.out p.left (p.allows (start_of c.args.object.now)) (stand_by p.out p.stands (own_by c.make.new.pass)) c.make.result (Waits c.in-Done-Waits.later) c.in-Done-Waits.later c.make.ensures.stands (c.in-Done-Waits.is ∙ ap Done c.in-Done-Waits.field-0-is) refl, on_by m.next m.HALTS (start_of c.args.object.now) p.event p.moment p.meaning (g.C.Clock.shows c.args.at.now.clock.now) p.gives p.gains c.args.stage c.args.pass.now c.loop.pass c.make.new.pass (front c.args.note.now) (front c.loop.note) (front c.make.new.note) c.loop.due c.in-Done-Waits.later c.make.result (Waits c.in-Done-Waits.later) (c.growth.ensures.both (start_of c.args.object.now)) (λ r. c.laws.ensures.gives c.loop.due r) (λ r. (m.takes (p.event c.loop.due 0) r, c.laws.ensures.gains c.loop.due 0 r)) c.loop.invariant.5 c.make.ensures.made c.make.ensures.no_edge (c.in-Done-Waits.is ∙ ap Done c.in-Done-Waits.field-0-is) refl)

pub loop-preserved : goal.loop-preserved
loop-preserved g c =
    let p = g.P.Protocol in
    let m = g.P.Machine in
    let front = g.N.Note.front in
    (search rules, search rules, search rules, search rules, leads_on p.out p.left (p.allows (start_of c.args.object.now)) (stand_by p.out p.stands (own_by c.make.new.pass)) c.make.result (Next c.in-Done-Next.later) c.in-Done-Next.later c.make.ensures.stands (c.in-Done-Next.is ∙ ap Done c.in-Done-Next.field-0-is) refl, on_by m.next m.HALTS (start_of c.args.object.now) p.event p.moment p.meaning (g.C.Clock.shows c.args.at.now.clock.now) p.gives p.gains c.args.stage c.args.pass.now c.loop.pass c.make.new.pass (front c.args.note.now) (front c.loop.note) (front c.make.new.note) c.loop.due c.in-Done-Next.later c.make.result (Next c.in-Done-Next.later) (c.growth.ensures.both (start_of c.args.object.now)) (λ r. c.laws.ensures.gives c.loop.due r) (λ r. (m.takes (p.event c.loop.due 0) r, c.laws.ensures.gains c.loop.due 0 r)) c.loop.invariant.5 c.make.ensures.made c.make.ensures.no_edge (c.in-Done-Next.is ∙ ap Done c.in-Done-Next.field-0-is) refl)
