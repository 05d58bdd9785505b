use Rattle.starts_core.proofs.InTurn.{starts-by-live}
use Rattle.starts_core.proofs.laws.starts_in_turn_are_by_the_live.Goals as goal

pub returns : goal.returns
returns c = starts-by-live c.logs_go_on.ensures.after c.logs_go_on.ensures.apart c.a_worker_knows_that_it_is_live.ensures
