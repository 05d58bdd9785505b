use Rattle.std.proofs.Common.{sym, ap, ◌∙◌, subst}
use Rattle.sync_model.specs.declared.answer.Answer.TheVariants.{Done, Halted}
use Rattle.sync_model.specs.Journal.{is_such}
use Rattle.ruled_object.specs.Cells.{deed_of}
use Rattle.ruled_object.specs.Growth.{Makes, MakesWith}
use Rattle.ruled_object.specs.Passes.{callers_of, number_of, own_by, start_of}
use Rattle.ruled_object.specs.Standing.{stand_by}
use Rattle.protocols.specs.Steps.{IsExpected, LeadsOn}
use Rattle.call_loop.specs.Stages.{acquires_by, IsClocked, IsTimedBy, MadeStage, MayBeAt}
use Rattle.call_loop.proofs.Timed.{made_timed, of_timed, unready}
use Rattle.call_loop.proofs.Stands.{comes, quiet, stand_on}
use Rattle.call_loop.proofs.stage.make.Goals as goal

pub returns-in-Halted-clause-made : goal.returns-in-Halted-clause-made
returns-in-Halted-clause-made g c =
    let p = g.P.Protocol in
    let m = g.P.Machine in
    let front = g.N.Note.front in
    let start = start_of c.args.object.now in
    let shows = g.C.Clock.shows c.args.at.now.clock.now in
    let lazy = g.T.Timing.LAZY in
    let stage = c.args.stage in
    made_timed m.next m.HALTS start p.event p.moment p.meaning lazy shows stage c.args.pass.now c.call_with-did.new.pass (front c.args.note.now) (front c.call_with-did.new.note) c.call_with-did.result.0 (Halted c.in-Halted.misuse)
    (subst (λ answer. MakesWith m.next m.HALTS start (IsTimedBy m.next p.event p.moment p.meaning lazy shows stage) (IsClocked p.event p.moment shows stage) c.args.pass.now (front c.args.note.now) c.call_with-did.result.0 answer c.call_with-did.new.pass (front c.call_with-did.new.note)) c.in-Halted.is (unready g.P.Machine.next g.P.Machine.HALTS (start_of c.args.object.now) g.P.Protocol.event g.P.Protocol.moment g.P.Protocol.meaning g.T.Timing.LAZY (g.C.Clock.shows c.args.at.now.clock.now) c.args.stage c.made_before-ready.result c.made_before-ready.ensures c.args.pass.now c.call_with-did.new.pass (g.N.Note.front c.args.note.now) (g.N.Note.front c.call_with-did.new.note) c.call_with-did.result.0 c.call_with-did.result.1 c.call_with-did.ensures.makes))

pub returns-in-Done-clause-made : goal.returns-in-Done-clause-made
returns-in-Done-clause-made g c =
    let p = g.P.Protocol in
    let m = g.P.Machine in
    let front = g.N.Note.front in
    let start = start_of c.args.object.now in
    let shows = g.C.Clock.shows c.args.at.now.clock.now in
    let lazy = g.T.Timing.LAZY in
    let stage = c.args.stage in
    let old = c.args.pass.now in
    let new = c.call_with-did.new.pass in
    let from = front c.args.note.now in
    let to = front c.call_with-did.new.note in
    let event = c.call_with-did.result.0 in
    let made = subst (λ answer. MakesWith m.next m.HALTS start (IsTimedBy m.next p.event p.moment p.meaning lazy shows stage) (IsClocked p.event p.moment shows stage) old from event answer new to) c.in-Done.is (unready g.P.Machine.next g.P.Machine.HALTS (start_of c.args.object.now) g.P.Protocol.event g.P.Protocol.moment g.P.Protocol.meaning g.T.Timing.LAZY (g.C.Clock.shows c.args.at.now.clock.now) c.args.stage c.made_before-ready.result c.made_before-ready.ensures c.args.pass.now c.call_with-did.new.pass (g.N.Note.front c.args.note.now) (g.N.Note.front c.call_with-did.new.note) c.call_with-did.result.0 c.call_with-did.result.1 c.call_with-did.ensures.makes) in
    let done = made_timed m.next m.HALTS start p.event p.moment p.meaning lazy shows stage old new from to event (Done c.in-Done.reply) made in
    subst (λ step. MadeStage m.next m.HALTS start p.event p.moment p.meaning (MayBeAt lazy shows (Done step)) stage old from (Done step) new to) (sym c.meaning.ensures) done

pub returns-in-Done-clause-expected : goal.returns-in-Done-clause-expected
returns-in-Done-clause-expected g c =
    let p = g.P.Protocol in
    let m = g.P.Machine in
    let front = g.N.Note.front in
    let start = start_of c.args.object.now in
    let old = c.args.pass.now in
    let of = of_timed m.next m.HALTS start p.event p.moment p.meaning g.T.Timing.LAZY (g.C.Clock.shows c.args.at.now.clock.now) c.args.stage c.args.pass.now c.call_with-did.new.pass (g.N.Note.front c.args.note.now) (g.N.Note.front c.call_with-did.new.note) c.call_with-did.result.0 c.call_with-did.result.1 (unready g.P.Machine.next g.P.Machine.HALTS (start_of c.args.object.now) g.P.Protocol.event g.P.Protocol.moment g.P.Protocol.meaning g.T.Timing.LAZY (g.C.Clock.shows c.args.at.now.clock.now) c.args.stage c.made_before-ready.result c.made_before-ready.ensures c.args.pass.now c.call_with-did.new.pass (g.N.Note.front c.args.note.now) (g.N.Note.front c.call_with-did.new.note) c.call_with-did.result.0 c.call_with-did.result.1 c.call_with-did.ensures.makes) in
    let event = c.call_with-did.result.0 in
    let reply = c.in-Done.reply in
    let made = subst (λ answer. Makes m.next m.HALTS start old (front c.args.note.now) event answer c.call_with-did.new.pass (front c.call_with-did.new.note)) c.in-Done.is c.call_with-did.ensures.makes.makes in
    let come = comes m.next m.HALTS start p.event p.meaning p.out p.stands (p.allows start) c.args.stage old c.call_with-did.new.pass (front c.args.note.now) (front c.call_with-did.new.note) event reply made of
    (λ before follows. c.journal_is_log.ensures start before follows)
    (λ entries follows may. c.laws.ensures.expected (callers_of c.args.object.now) (number_of old) of.0 start entries c.args.stage c.requires.begun follows c.requires.pass.caller may) c.requires.allowed in
    subst IsExpected (sym c.meaning.ensures) come

pub returns-in-Done-clause-stands : goal.returns-in-Done-clause-stands
returns-in-Done-clause-stands g c =
    let p = g.P.Protocol in
    let m = g.P.Machine in
    let start = start_of c.args.object.now in
    let old = c.args.pass.now in
    let new = c.call_with-did.new.pass in
    let of = of_timed m.next m.HALTS start p.event p.moment p.meaning g.T.Timing.LAZY (g.C.Clock.shows c.args.at.now.clock.now) c.args.stage c.args.pass.now c.call_with-did.new.pass (g.N.Note.front c.args.note.now) (g.N.Note.front c.call_with-did.new.note) c.call_with-did.result.0 c.call_with-did.result.1 (unready g.P.Machine.next g.P.Machine.HALTS (start_of c.args.object.now) g.P.Protocol.event g.P.Protocol.moment g.P.Protocol.meaning g.T.Timing.LAZY (g.C.Clock.shows c.args.at.now.clock.now) c.args.stage c.made_before-ready.result c.made_before-ready.ensures c.args.pass.now c.call_with-did.new.pass (g.N.Note.front c.args.note.now) (g.N.Note.front c.call_with-did.new.note) c.call_with-did.result.0 c.call_with-did.result.1 c.call_with-did.ensures.makes) in
    let event = c.call_with-did.result.0 in
    let reply = c.in-Done.reply in
    let made = c.call_with-did.ensures.makes.makes in
    let deed = made.deed ∙ ap (λ a. deed_of event a) c.in-Done.is in
    let stand = stand_on m.next m.HALTS p.out p.stands (own_by old) (own_by new) made.one.entry event reply made.grows.mine deed (c.standing.ensures.entry p.out p.stands p.out (own_by old) made.one.entry) in
    let led = c.laws.ensures.leads start (stand_by p.out p.stands (own_by old)) c.args.stage of.0 reply c.requires.allowed in
    let here = subst (λ e. LeadsOn p.out p.left (p.allows start) (p.stands (stand_by p.out p.stands (own_by old)) e reply) (p.meaning c.args.stage reply)) (sym of.1) led in
    subst (λ s. LeadsOn p.out p.left (p.allows start) (stand_by p.out p.stands (own_by new)) s) (sym c.meaning.ensures)
    (subst (λ w. LeadsOn p.out p.left (p.allows start) w (p.meaning c.args.stage reply)) (sym stand) here)

pub returns-in-Done-clause-no_edge : goal.returns-in-Done-clause-no_edge
returns-in-Done-clause-no_edge g c none =
    let p = g.P.Protocol in
    let m = g.P.Machine in
    let start = start_of c.args.object.now in
    let of = of_timed m.next m.HALTS start p.event p.moment p.meaning g.T.Timing.LAZY (g.C.Clock.shows c.args.at.now.clock.now) c.args.stage c.args.pass.now c.call_with-did.new.pass (g.N.Note.front c.args.note.now) (g.N.Note.front c.call_with-did.new.note) c.call_with-did.result.0 c.call_with-did.result.1 (unready g.P.Machine.next g.P.Machine.HALTS (start_of c.args.object.now) g.P.Protocol.event g.P.Protocol.moment g.P.Protocol.meaning g.T.Timing.LAZY (g.C.Clock.shows c.args.at.now.clock.now) c.args.stage c.made_before-ready.result c.made_before-ready.ensures c.args.pass.now c.call_with-did.new.pass (g.N.Note.front c.args.note.now) (g.N.Note.front c.call_with-did.new.note) c.call_with-did.result.0 c.call_with-did.result.1 c.call_with-did.ensures.makes) in
    let event = c.call_with-did.result.0 in
    let reply = c.in-Done.reply in
    let expected = subst IsExpected c.meaning.ensures (returns-in-Done-clause-expected g c) in
    let law = c.laws.ensures.gains c.args.stage of.0 reply in
    let acquired = quiet p.gains c.args.stage (m.takes (p.event c.args.stage of.0) reply) (p.meaning c.args.stage reply) expected law (ap (λ s. acquires_by (p.gains c.args.stage) (Done s)) (sym c.meaning.ensures) ∙ none) in
    c.call_with-did.ensures.no_edge (ap (λ a. is_such m.takes (deed_of event a)) c.in-Done.is ∙ (ap (λ e. m.takes e reply) of.1 ∙ acquired))
