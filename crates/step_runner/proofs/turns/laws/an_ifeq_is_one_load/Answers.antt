use Rattle.step_runner.proofs.PlacedLemmas.{at_tested}
use Rattle.step_runner.proofs.turns.laws.an_ifeq_is_one_load.Goals as goal

pub returns : goal.returns
returns c workers worker moment call objects value passes ready is = at_tested workers worker moment call objects value passes ready is
