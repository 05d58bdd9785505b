use Rattle.workload.proofs.DormantLines.{named_by_lines, begun_by_lines, nobody_waits, each_goes}
use Rattle.workload.proofs.laws.dormant_lines_say_who_waits.Goals as goal

pub returns-clause-each : goal.returns-clause-each
returns-clause-each c = named_by_lines

pub returns-clause-any : goal.returns-clause-any
returns-clause-any c = begun_by_lines

pub returns-clause-nobody : goal.returns-clause-nobody
returns-clause-nobody c plan = (λ none worker. nobody_waits plan.dormant worker none, λ each. each_goes plan.dormant each)
