use Rattle.std.proofs.Common.{false, refl, ◌∙◌}
use Rattle.protocols.specs.declared.wait_group.GroupStage.TheVariants as stage
use Rattle.protocols.specs.GroupStages.{group_allows}
use Rattle.call_loop.specs.Calls.{left_out}
use Rattle.go_waits.specs.Groups.{start_of}
use Rattle.go_waits.proofs.Calling.{allowed}
use Rattle.go_waits.proofs.GroupSpelling.{waits_by, wait_gains}
use Rattle.go_waits.proofs.group.WaitGroup.wait.Goals as goal

pub call-requires-clause-allowed : goal.call-requires-clause-allowed
call-requires-clause-allowed g c = allowed (group_allows (start_of c.args.self.now)) _ false (stage.Wait) refl c.requires.pass.0.stands

pub returns-clause-pass : goal.returns-clause-pass
returns-clause-pass g c = (record { of = c.call.ensures.pass.0; stands = c.call.ensures.stands ∙ left_out false c.call.result }, c.call.ensures.pass.1)

pub returns-clause-events : goal.returns-clause-events
returns-clause-events g c = let did = c.call.ensures.events in (did.entries, did.grows, waits_by _ c.call.result did.spelt, did.halted)

pub returns-clause-no_edge : goal.returns-clause-no_edge
returns-clause-no_edge g c other = c.call.ensures.no_edge (wait_gains c.call.result other)
