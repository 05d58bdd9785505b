use Rattle.race_clocks.proofs.Told.{told_next}
use Rattle.race_clocks.proofs.telling.tell.Goals as goal

pub loop-race-preserved : goal.loop-race-preserved
loop-race-preserved c =
    told_next c.args.trace.now c.as_slice-turns.result.now c.as_slice-turns.ensures c.args.found.now c.loop-race.race-index _ c.loop-race-test.true c.requires
    c.index-turns-race.result c.index-turns-race-in-loop-race.result c.index-turns-race.is c.index-turns-race-in-loop-race.is c.loop-race.races.items c.race_of_turns.result c.race_of_turns.ensures c.loop-race.invariant c.push.new.self.items c.in_ok-push.ensures.items
