use Rattle.go_waits.proofs.OnceTold.{runs_tell}
use Rattle.go_waits.proofs.laws.an_end_tells_of_a_return.Goals as goal

pub returns : goal.returns
returns g c = λ function. runs_tell _ _
