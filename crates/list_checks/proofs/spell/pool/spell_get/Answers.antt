use Rattle.std.proofs.Common.{◌≡◌, ◌*◌, ◌<◌, Some, None, drop, arith}
use Rattle.run_cuts.specs.PoolCuts.{found_by_cut}
use Rattle.run_record.specs.PoolKind.{looks_of}
use Rattle.list_checks.proofs.SpellTurns.{look_finds_none, look_stops, look_takes}
use Rattle.list_checks.proofs.spell.pool.spell_get.Goals as goal

pub returns-in-Some : goal.returns-in-Some
returns-in-Some c =
    let less : c.loop-number.number < 2 * c.args.pool.workers = omega arith in
    let taken : c.in-Ok.looked.outcome ≡ Some c.in-Some.item = cc in
    look_takes c.args.pool.workers c.args.pool.worker c.args.pool.first c.args.items.now c.args.from c.loop-number.at c.loop-number.number less
    (found_by_cut c.args.pool.worker c.args.pool.first (looks_of c.args.pool.workers c.args.pool.worker) (drop c.args.from c.args.items.now)) c.loop-number.invariant.from c.loop-number.invariant.is c.in-Ok.looked c.in-Some.item taken c.in-Ok.ensures

pub returns-in-Err : goal.returns-in-Err
returns-in-Err c =
    let less : c.loop-number.number < 2 * c.args.pool.workers = omega arith in
    look_stops c.args.pool.workers c.args.pool.worker c.args.pool.first c.args.items.now c.args.from c.loop-number.at c.loop-number.number less
    (found_by_cut c.args.pool.worker c.args.pool.first (looks_of c.args.pool.workers c.args.pool.worker) (drop c.args.from c.args.items.now)) c.loop-number.invariant.from c.loop-number.invariant.is c.in-Err.stop c.in-Err.ensures

pub loop-number-preserved : goal.loop-number-preserved
loop-number-preserved c =
    let less : c.loop-number.number < 2 * c.args.pool.workers = omega arith in
    let none : c.in-Ok.looked.outcome ≡ None = cc in
    let ends = c.in-Ok.ensures.ends in
    let along = c.loop-number.invariant.from in
    record {
      inside = ends.1;
      from = omega (arith, ends.0, along);
      is = look_finds_none c.args.pool.workers c.args.pool.worker c.args.pool.first c.args.items.now c.args.from c.loop-number.at c.loop-number.number less
          (found_by_cut c.args.pool.worker c.args.pool.first (looks_of c.args.pool.workers c.args.pool.worker) (drop c.args.from c.args.items.now)) c.loop-number.invariant.from c.loop-number.invariant.is c.in-Ok.looked none c.in-Ok.ensures;
    }
