use Rattle.std.proofs.Common.{refl}
use Rattle.made_workload.specs.Summary.{summary}
use Rattle.made_workload.proofs.Bounds.{keys_few, total_small}
use Rattle.made_workload.proofs.RoundTotals.{total_is}
use Rattle.made_workload.proofs.Union.{union_at, union_without}
use Rattle.made_workload.proofs.laws.summary_of_a_seed.Goals as goal

pub returns-clause-summary : goal.returns-clause-summary
unfolding summary
returns-clause-summary c = λ seed. refl

pub returns-clause-total : goal.returns-clause-total
returns-clause-total c = total_is

pub returns-clause-own : goal.returns-clause-own
returns-clause-own c = union_at

pub returns-clause-others : goal.returns-clause-others
returns-clause-others c = union_without

pub returns-clause-total_small : goal.returns-clause-total_small
returns-clause-total_small c = total_small

pub returns-clause-keys_few : goal.returns-clause-keys_few
returns-clause-keys_few c = keys_few
