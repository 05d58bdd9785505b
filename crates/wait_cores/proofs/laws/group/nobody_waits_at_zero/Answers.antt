use Rattle.wait_cores.proofs.GroupLemmas.{nobody_waits_at_zero}
use Rattle.wait_cores.proofs.laws.group.nobody_waits_at_zero.Goals as goal

pub returns : goal.returns
returns c = nobody_waits_at_zero
