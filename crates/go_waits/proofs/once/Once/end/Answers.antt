use Rattle.std.proofs.Common.{false, true, refl, sym, subst, ◌∙◌}
use Rattle.ruled_object.specs.Growth.{MeetsHalt, deeds_of}
use Rattle.protocols.specs.declared.once.OnceStage.TheVariants as stage
use Rattle.protocols.specs.OnceStages.{once_allows}
use Rattle.go_waits.specs.OnceCalls.{EndsFunction}
use Rattle.go_waits.specs.Onces.{start_of}
use Rattle.go_waits.proofs.Calling.{allowed, done_meets}
use Rattle.go_waits.proofs.OnceSpelling.{ends_by, ended_out, runs_at_most_once}
use Rattle.go_waits.proofs.once.Once.end.Goals as goal

pub call_within-requires-clause-allowed : goal.call_within-requires-clause-allowed
call_within-requires-clause-allowed g c = allowed (once_allows (start_of c.args.self.now)) _ (false, true) (stage.End c.args.kept) refl c.requires.pass.runs

pub returns-clause-pass : goal.returns-clause-pass
returns-clause-pass g c =
    let call = c.call_within in
    (record { of = call.ensures.pass.0; stands = call.ensures.stands ∙ (ended_out c.args.kept call.result call.ensures.gives).0 }, call.ensures.pass.1)

pub returns-clause-events : goal.returns-clause-events
returns-clause-events g c =
    let did = c.call_within.ensures.events in
    let is = sym c.done.ensures in
    (did.entries, did.grows, subst (EndsFunction c.args.kept (deeds_of did.entries)) is (ends_by c.args.kept _ c.call_within.result did.spelt), subst (MeetsHalt did.entries) is (done_meets did.entries c.call_within.result did.halted))

pub returns-clause-once : goal.returns-clause-once
returns-clause-once g c = runs_at_most_once c.args.self.now c.call_within.new.pass c.journal_is_log.ensures c.runs_once.ensures.begun c.call_within.ensures.journal

pub returns-clause-no_edge : goal.returns-clause-no_edge
returns-clause-no_edge g c = c.call_within.ensures.no_edge (ended_out c.args.kept c.call_within.result c.call_within.ensures.gives).1
