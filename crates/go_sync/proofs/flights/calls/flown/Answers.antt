use Rattle.std.proofs.Common.{inl, refl, sym, ap, rules, w64, [], ◌∷◌}
use Rattle.std.proofs.lemmas.Int.{to_z-of_z}
use mir.Val.{SFits, of_z, to_z}
use Rattle.sync_model.specs.declared.answer.Answer.TheVariants.{Done, Halted}
use Rattle.sync_model.specs.declared.journal.Deed.TheVariants.{Event, Refused}
use Rattle.flight_core.specs.declared.event.FlightEvent.TheVariants.{Join, Land}
use Rattle.flight_core.specs.declared.event.FlightReply.TheVariants.{Landed, Lead}
use Rattle.go_sync.proofs.Composed.{made_two}
use Rattle.go_sync.proofs.Running.{may_land}
use Rattle.go_sync.proofs.flights.calls.flown.Goals as goal

pub work-value-requires : goal.work-value-requires
work-value-requires g c =
    let is = c.in-Done-Lead.field-0-is in
    let begun = rw is at c.in-Done-Lead.ensures.events in
    let stands = rw is at c.in-Done-Lead.ensures.pass in
    let leader = c.begin.new.pass in
    c.requires.work leader (may_land _ _ _ leader leader _ _ c.new-note.ensures (begun.0, begun.1, begun.2) stands.0.0)

pub returns-in-Done-clause-made : goal.returns-in-Done-clause-made
returns-in-Done-clause-made g c =
    let begun = rw c.in-Done-Lead.field-0-is at c.in-Done-Lead.ensures.events in
    let fits : SFits w64 c.work-value.result = search rules in
    let passed = to_z w64 (of_z w64 c.work-value.result) in
    made_two (c.growth.ensures.both _) c.growth.ensures.halted c.new-note.ensures (begun.0, begun.1, begun.2) (Event (Land passed) (Landed c.in-Done.shared)) (Done (Landed c.in-Done.shared)) c.in-Done.ensures.events (λ es meets. meets)
    (inl (rw (sym (to_z-of_z w64 c.work-value.result fits)) at c.work-value.ensures, refl))

pub returns-in-Halted-land-clause-made : goal.returns-in-Halted-land-clause-made
returns-in-Halted-land-clause-made g c =
    let begun = rw c.in-Done-Lead.field-0-is at c.in-Done-Lead.ensures.events in
    let fits : SFits w64 c.work-value.result = search rules in
    let passed = to_z w64 (of_z w64 c.work-value.result) in
    made_two (c.growth.ensures.both _) c.growth.ensures.halted c.new-note.ensures (begun.0, begun.1, begun.2) (Refused (Land passed) c.in-Halted-land.misuse) (Halted c.in-Halted-land.misuse) c.in-Halted-land.ensures.events (λ es meets. meets)
    (inl (c.work-value.result, c.work-value.ensures, ap (λ value. Event (Join c.args.key) Lead ∷ (Refused (Land value) c.in-Halted-land.misuse ∷ [])) (to_z-of_z w64 c.work-value.result fits)))
