use Rattle.mutex_core.proofs.Moves.{moves, tells_waiters, unmoved}
use Rattle.mutex_core.proofs.laws.moves.Goals as goal

pub returns-clause-moved : goal.returns-clause-moved
returns-clause-moved c state caller by event valid = moves state by event caller valid

pub returns-clause-told : goal.returns-clause-told
returns-clause-told c state caller by event valid told = tells_waiters state by event caller valid told

pub returns-clause-unmoved : goal.returns-clause-unmoved
returns-clause-unmoved c state caller by event valid apart told = unmoved state by event caller valid apart told
