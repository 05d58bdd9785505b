use Rattle.starts_core.proofs.Starting.{never-for-good}
use Rattle.starts_core.proofs.InTurn.{never-in-turn}
use Rattle.starts_core.proofs.laws.never_is_for_good.Goals as goal

pub returns-clause-by_the_live : goal.returns-clause-by_the_live
returns-clause-by_the_live c = never-for-good c.logs_go_on.ensures.apart

pub returns-clause-in_turn : goal.returns-clause-in_turn
returns-clause-in_turn c = never-in-turn c.logs_go_on.ensures.apart c.starts_in_turn_are_by_the_live.ensures
