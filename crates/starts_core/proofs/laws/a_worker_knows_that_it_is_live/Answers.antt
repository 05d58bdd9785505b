use Rattle.starts_core.proofs.InTurn.{live-by-own}
use Rattle.starts_core.proofs.laws.a_worker_knows_that_it_is_live.Goals as goal

pub returns : goal.returns
returns c = live-by-own
