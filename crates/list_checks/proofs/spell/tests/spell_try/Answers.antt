use Rattle.std.proofs.Common.{◌≡◌, false, drop, sym, subst}
use Rattle.run_cuts.specs.SharedCuts.{tests_cut}
use Rattle.run_cuts.specs.WaitForCuts.{unless_met_cut}
use Rattle.list_checks.specs.SpellFound.{IsFound, waited_cut}
use Rattle.list_checks.proofs.SpellParts.{then_found}
use Rattle.list_checks.proofs.spell.tests.spell_try.Goals as goal

pub returns : goal.returns
returns c =
    let list = c.args.items.now in
    let test = c.in_ok-test.test in
    let unmet : test.outcome ≡ false = cc in
    let next = unless_met_cut (waited_cut c.args.on.cond c.args.on.mutex) in
    then_found list c.args.from (tests_cut c.args.on.atomic c.args.value (drop c.args.from list)) next test c.spell_waited.result c.in_ok-test.ensures
    (subst (λ met. IsFound list test.end (next met (drop test.end list)) c.spell_waited.result) (sym unmet) c.spell_waited.ensures)
