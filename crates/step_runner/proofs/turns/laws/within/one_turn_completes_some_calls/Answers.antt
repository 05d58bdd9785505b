use Rattle.step_runner.proofs.WithinKeeps.{within_completes}
use Rattle.step_runner.proofs.turns.laws.within.one_turn_completes_some_calls.Goals as goal

pub returns : goal.returns
returns c workers worker moment begun call objects one ready = within_completes c.some_calls_take_one_turn.ensures workers worker moment begun call objects one ready
