use Rattle.std.proofs.Common.{◌<◌, drop, arith}
use Rattle.std.specs.List.{range_with_len}
use Rattle.run_cuts.specs.PoolCuts.{swept_by_cut}
use Rattle.list_checks.proofs.SpellTurns.{sweep_goes_on, sweep_stops}
use Rattle.list_checks.proofs.spell.pool.spell_sweep.Goals as goal

pub returns-in-Err : goal.returns-in-Err
returns-in-Err c =
    let less : c.loop-part.part < c.args.pool.workers = omega arith in
    sweep_stops c.args.pool.workers c.args.pool.first c.args.items.now c.args.from c.loop-part.at c.loop-part.part less
    (swept_by_cut c.args.pool.first (range_with_len 0 c.args.pool.workers) (drop c.args.from c.args.items.now)) c.loop-part.invariant.from c.loop-part.invariant.is c.in-Err.stop c.in-Err.ensures

pub loop-part-preserved : goal.loop-part-preserved
loop-part-preserved c =
    let less : c.loop-part.part < c.args.pool.workers = omega arith in
    let ends = c.in-Ok.ensures.ends in
    let along = c.loop-part.invariant.from in
    record {
      inside = ends.1;
      from = omega (arith, ends.0, along);
      is = sweep_goes_on c.args.pool.workers c.args.pool.first c.args.items.now c.args.from c.loop-part.at c.loop-part.part less
          (swept_by_cut c.args.pool.first (range_with_len 0 c.args.pool.workers) (drop c.args.from c.args.items.now)) c.loop-part.invariant.from c.loop-part.invariant.is c.in-Ok.swept c.in-Ok.ensures;
    }
