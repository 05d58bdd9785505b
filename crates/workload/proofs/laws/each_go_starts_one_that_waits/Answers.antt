use Rattle.workload.proofs.GoCalls.{waits, group}
use Rattle.workload.proofs.laws.each_go_starts_one_that_waits.Goals as goal

pub returns-clause-waits : goal.returns-clause-waits
returns-clause-waits c = waits

pub returns-clause-group : goal.returns-clause-group
returns-clause-group c = group

pub returns-clause-one : goal.returns-clause-one
returns-clause-one c = λ plan at after place other worker script later call another h. c.who_starts_whom.ensures.one worker at after place other plan.scripts script later call another (h.starts worker)
