use Rattle.table_tests.proofs.Walkers.{walking}
use Rattle.table_tests.proofs.maps.maps.ranges.begun.Goals as goal

pub returns : goal.returns
returns c = walking c.args.table.now c.at.result.table.now c.at.result.number c.begin.result _ c.begin.new.caller c.at.ensures.0 c.at.ensures.1 c.begin.ensures.caller c.begin.ensures.stands
