use Rattle.wait_cores.proofs.GroupLemmas.{waits_for_zero}
use Rattle.wait_cores.proofs.laws.group.waits_for_zero.Goals as goal

pub returns-clause-queued : goal.returns-clause-queued
returns-clause-queued c = waits_for_zero c.logs_go_on.ensures.apart
