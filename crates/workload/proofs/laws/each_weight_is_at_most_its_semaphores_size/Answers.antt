use Rattle.workload.proofs.XSyncCalls.{sizes, weights}
use Rattle.workload.proofs.laws.each_weight_is_at_most_its_semaphores_size.Goals as goal

pub returns-clause-sizes : goal.returns-clause-sizes
returns-clause-sizes c = sizes

pub returns-clause-weights : goal.returns-clause-weights
returns-clause-weights c = weights
