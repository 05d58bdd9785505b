use Rattle.std.proofs.Common.{◌≡◌, ℤ, drop, sym, subst, to_z, of_z, w64, rules}
use Rattle.flight_core.specs.declared.calls.FlightStage.TheVariants.{Join}
use Rattle.run_cuts.specs.FlightCuts.{flight_cut, goes_on_cut}
use Rattle.run_cuts.specs.SharedCuts.{adds_cut}
use Rattle.list_checks.specs.SpellFound.{IsFound, lead_cut}
use Rattle.list_checks.proofs.SpellParts.{then_found}
use Rattle.list_checks.proofs.spell.flight.spell_fly.Goals as goal

pub returns-in-Lead : goal.returns-in-Lead
returns-in-Lead c =
    let part = flight_cut c.args.object in
    let next = goes_on_cut part (adds_cut c.args.atomic c.args.amount) in
    let end = c.in_ok-joined.joined.end in
    let amount_is : to_z w64 (of_z w64 c.args.amount) ≡ c.args.amount = search rules in
    let led = subst (λ (amount : ℤ). IsFound c.args.items.now end (lead_cut c.args.object c.args.atomic amount (drop end c.args.items.now)) c.spell_lead.result) amount_is c.spell_lead.ensures in
    then_found c.args.items.now c.args.from (part (Join c.args.key) (drop c.args.from c.args.items.now)) next c.in_ok-joined.joined c.spell_lead.result c.in_ok-joined.ensures
    (subst (λ outcome. IsFound c.args.items.now end (next outcome (drop end c.args.items.now)) c.spell_lead.result) (sym c.in-Lead.is) led)
