use Rattle.race_clocks.proofs.PoolItems.{its_put, its_item}
use Rattle.race_clocks.proofs.laws.pools.a_look_takes_the_item_that_was_put.Goals as goal

pub returns-clause-put : goal.returns-clause-put
returns-clause-put c = its_put

pub returns-clause-answered : goal.returns-clause-answered
returns-clause-answered c = its_item
