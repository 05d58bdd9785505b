use Rattle.step_runner.proofs.PlacedLemmas.{at_answered}
use Rattle.step_runner.proofs.turns.laws.a_placed_call_is_one_item.Goals as goal

pub returns : goal.returns
returns c workers worker moment call objects ready one = at_answered workers worker call moment objects ready one
