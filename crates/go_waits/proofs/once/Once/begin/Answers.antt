use Rattle.std.proofs.Common.{false, refl, sym, ◌∙◌}
use Rattle.protocols.specs.declared.once.OnceStage.TheVariants as stage
use Rattle.protocols.specs.OnceStages.{once_allows}
use Rattle.go_waits.specs.Onces.{start_of}
use Rattle.go_waits.proofs.Calling.{allowed}
use Rattle.go_waits.proofs.OnceSpelling.{begins_by, begun_meets, begun_gains, stands_as, runs_at_most_once}
use Rattle.go_waits.proofs.once.Once.begin.Goals as goal

pub call-answer-requires-clause-allowed : goal.call-answer-requires-clause-allowed
call-answer-requires-clause-allowed g c = allowed (once_allows (start_of c.args.self.now)) _ (false, false) stage.Begin refl c.requires.pass.0.stands

pub returns-clause-pass : goal.returns-clause-pass
returns-clause-pass g c =
    let less = c.call-answer.ensures.pass.1 in
    (stands_as c.args.self.now c.call-answer.new.pass c.call-answer.result c.number-caller.result c.begun.result c.begun.ensures c.call-answer.ensures.pass.0 (less.0 ∙ sym c.number-caller.ensures) c.call-answer.ensures.stands, less)

pub returns-clause-events : goal.returns-clause-events
returns-clause-events g c =
    let did = c.call-answer.ensures.events in
    let is = c.begun.ensures in
    (did.entries, did.grows, begins_by _ c.call-answer.result _ c.begun.result is did.spelt, begun_meets did.entries c.call-answer.result _ c.begun.result is did.halted)

pub returns-clause-once : goal.returns-clause-once
returns-clause-once g c = runs_at_most_once c.args.self.now c.call-answer.new.pass c.journal_is_log.ensures c.runs_once.ensures.begun c.call-answer.ensures.journal

pub returns-clause-no_edge : goal.returns-clause-no_edge
returns-clause-no_edge g c other = c.call-answer.ensures.no_edge (begun_gains c.call-answer.result _ c.begun.result c.begun.ensures other)
