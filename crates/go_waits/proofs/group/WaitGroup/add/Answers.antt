use Rattle.std.proofs.Common.{ℤ, false, refl, ◌∙◌, subst, w32}
use mir.Val.{to_z, of_z}
use Rattle.std.proofs.lemmas.Int.{to_z-of_z}
use Rattle.ruled_object.specs.Growth.{deeds_of}
use Rattle.protocols.specs.declared.wait_group.GroupStage.TheVariants as stage
use Rattle.protocols.specs.GroupStages.{group_allows, group_gains}
use Rattle.call_loop.specs.Calls.{left_out}
use Rattle.go_waits.specs.GroupCalls.{Adds}
use Rattle.go_waits.specs.Groups.{start_of}
use Rattle.go_waits.proofs.Calling.{allowed, gains_nothing}
use Rattle.go_waits.proofs.GroupSpelling.{adds_by}
use Rattle.go_waits.proofs.group.WaitGroup.add.Goals as goal

pub call-requires-clause-allowed : goal.call-requires-clause-allowed
call-requires-clause-allowed g c = allowed (group_allows (start_of c.args.self.now)) _ false (stage.Add (to_z w32 (of_z w32 c.args.delta))) refl c.requires.pass.0.stands

pub returns-clause-pass : goal.returns-clause-pass
returns-clause-pass g c = (record { of = c.call.ensures.pass.0; stands = c.call.ensures.stands ∙ left_out false c.call.result }, c.call.ensures.pass.1)

pub returns-clause-events : goal.returns-clause-events
returns-clause-events g c =
    let did = c.call.ensures.events in
    (did.entries, did.grows, subst (λ (delta : ℤ). Adds delta (deeds_of did.entries) c.call.result) (to_z-of_z w32 c.args.delta c.ranges.delta) (adds_by _ _ c.call.result did.spelt), did.halted)

pub returns-clause-no_edge : goal.returns-clause-no_edge
returns-clause-no_edge g c = c.call.ensures.no_edge (gains_nothing (group_gains (stage.Add (to_z w32 (of_z w32 c.args.delta)))) c.call.result (λ outcome. refl))
