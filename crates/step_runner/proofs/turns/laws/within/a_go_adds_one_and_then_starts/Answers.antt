use Rattle.step_runner.proofs.GoMade.{has_gone}
use Rattle.step_runner.proofs.turns.laws.within.a_go_adds_one_and_then_starts.Goals as goal

pub returns : goal.returns
returns c workers worker moment begun started call objects ready is = has_gone workers worker moment begun started call objects ready is
