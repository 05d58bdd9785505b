use Rattle.go_waits.proofs.OnceTold.{gives_tell}
use Rattle.go_waits.proofs.laws.an_end_keeps_a_result.Goals as goal

pub returns : goal.returns
returns g c = λ function. gives_tell _
