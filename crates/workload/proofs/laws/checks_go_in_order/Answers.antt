use Rattle.workload.proofs.FirstFailing.{fails_first, passes_first}
use Rattle.workload.proofs.laws.checks_go_in_order.Goals as goal

pub returns-clause-fails : goal.returns-clause-fails
returns-clause-fails c = λ xs ys reason fails. fails_first xs ys reason fails

pub returns-clause-passes : goal.returns-clause-passes
returns-clause-passes c = λ xs ys pass. passes_first xs ys pass
