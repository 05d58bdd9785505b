use Rattle.table_tests.proofs.Walkers.{walks_on}
use Rattle.table_tests.proofs.maps.maps.ranges.deleted_meanwhile.Goals as goal

pub returns : goal.returns
returns g c = walks_on c.args.table.now c.at.result.table.now c.args.cursor.now _ _ _ c.args.caller.now.note c.delete.new.caller.note c.at.ensures.0 c.requires.walks c.delete.ensures.caller c.delete.ensures.called
