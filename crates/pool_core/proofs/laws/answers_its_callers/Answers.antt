use Rattle.pool_core.proofs.PoolRoom.{knows-answers}
use Rattle.pool_core.proofs.laws.answers_its_callers.Goals as goal

pub returns : goal.returns
returns c = knows-answers
