use Rattle.std.proofs.Common.{◌≡◌, ◌+◌, ◌-◌, suc, true, false, drop, arith}
use Rattle.run_cuts.specs.WaitForCuts.{waits_for_cut}
use Rattle.list_checks.proofs.SpellTurns.{last_found, try_fails, try_meets, try_stops}
use Rattle.list_checks.proofs.spell.tests.spell_tests.Goals as goal

pub returns-in-Ok : goal.returns-in-Ok
returns-in-Ok c =
    let left : c.args.tries - c.loop-made._made ≡ suc (c.args.tries - (c.loop-made._made + 1)) = omega arith in
    let met : c.in-Ok.tried.outcome ≡ true = cc in
    try_meets c.args.on.cond c.args.on.mutex c.args.on.atomic c.args.value c.args.items.now c.args.from c.loop-made.at (c.args.tries - c.loop-made._made) (c.args.tries - (c.loop-made._made + 1)) left
    (waits_for_cut c.args.on.cond c.args.on.mutex c.args.on.atomic c.args.value c.args.tries (drop c.args.from c.args.items.now)) c.loop-made.invariant.from c.loop-made.invariant.is c.in-Ok.tried met c.in-Ok.ensures

pub returns-in-Err : goal.returns-in-Err
returns-in-Err c =
    let left : c.args.tries - c.loop-made._made ≡ suc (c.args.tries - (c.loop-made._made + 1)) = omega arith in
    try_stops c.args.on.cond c.args.on.mutex c.args.on.atomic c.args.value c.args.items.now c.args.from c.loop-made.at (c.args.tries - c.loop-made._made) (c.args.tries - (c.loop-made._made + 1)) left
    (waits_for_cut c.args.on.cond c.args.on.mutex c.args.on.atomic c.args.value c.args.tries (drop c.args.from c.args.items.now)) c.loop-made.invariant.from c.loop-made.invariant.is c.in-Err.stop c.in-Err.ensures

pub loop-made-preserved : goal.loop-made-preserved
loop-made-preserved c =
    let left : c.args.tries - c.loop-made._made ≡ suc (c.args.tries - (c.loop-made._made + 1)) = omega arith in
    let unmet : c.in-Ok.tried.outcome ≡ false = cc in
    let ends = c.in-Ok.ensures.ends in
    let along = c.loop-made.invariant.from in
    record {
      inside = ends.1;
      from = omega (arith, ends.0, along);
      is = try_fails c.args.on.cond c.args.on.mutex c.args.on.atomic c.args.value c.args.items.now c.args.from c.loop-made.at (c.args.tries - c.loop-made._made) (c.args.tries - (c.loop-made._made + 1)) left
          (waits_for_cut c.args.on.cond c.args.on.mutex c.args.on.atomic c.args.value c.args.tries (drop c.args.from c.args.items.now)) c.loop-made.invariant.from c.loop-made.invariant.is c.in-Ok.tried unmet c.in-Ok.ensures;
    }

pub returns : goal.returns
returns c =
    let none : c.args.tries - c.loop-made._made ≡ 0 = omega arith in
    last_found c.args.on.cond c.args.on.mutex c.args.on.atomic c.args.value c.args.items.now c.args.from c.loop-made.at (c.args.tries - c.loop-made._made)
    (waits_for_cut c.args.on.cond c.args.on.mutex c.args.on.atomic c.args.value c.args.tries (drop c.args.from c.args.items.now)) c.spell_test.result none c.loop-made.invariant.from c.loop-made.invariant.is c.spell_test.ensures
