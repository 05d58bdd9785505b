use Rattle.step_runner.proofs.CompletesLemmas.{at_completes}
use Rattle.step_runner.proofs.turns.laws.some_calls_take_one_turn.Goals as goal

pub returns : goal.returns
returns c workers worker moment call objects never ready = at_completes workers worker call moment objects never ready
