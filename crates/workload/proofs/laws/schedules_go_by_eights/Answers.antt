use Rattle.workload.proofs.Eights.{eights_first}
use Rattle.workload.proofs.laws.schedules_go_by_eights.Goals as goal

pub returns : goal.returns
returns c = λ turns some. eights_first 7 turns some
