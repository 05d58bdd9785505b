use Rattle.std.proofs.Common.{◌≡◌, ℤ, Ok, drop, subst, to_z, of_z, w64, rules}
use Rattle.run_cuts.specs.SharedCuts.{adds_cut}
use Rattle.list_checks.specs.SpellFound.{IsFound, land_cut}
use Rattle.list_checks.proofs.SpellParts.{then_found}
use Rattle.list_checks.proofs.spell.flight.spell_lead.Goals as goal

pub returns : goal.returns
returns c =
    let list = c.args.items.now in
    let sum = c.in_ok-sum.sum in
    let amount_is : to_z w64 (of_z w64 c.args.amount) ≡ c.args.amount = search rules in
    let sum_is : to_z w64 (of_z w64 sum.outcome) ≡ sum.outcome = search rules in
    let added = subst (λ (amount : ℤ). IsFound list c.args.from (adds_cut c.args.atomic amount (drop c.args.from list)) (Ok sum)) amount_is c.in_ok-sum.ensures in
    let landed = subst (λ (told : ℤ). IsFound list sum.end (land_cut c.args.object told (drop sum.end list)) c.spell_landing.result) sum_is c.spell_landing.ensures in
    then_found list c.args.from (adds_cut c.args.atomic c.args.amount (drop c.args.from list)) (λ told. land_cut c.args.object told) sum c.spell_landing.result added landed
