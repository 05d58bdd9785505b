use Rattle.wait_cores.proofs.GroupCounts.{counts-additions, stays-in_range}
use Rattle.wait_cores.proofs.laws.group.counts_additions.Goals as goal

pub returns-clause-sum : goal.returns-clause-sum
returns-clause-sum c = counts-additions

pub returns-clause-range : goal.returns-clause-range
returns-clause-range c = stays-in_range
