use Rattle.wait_cores.proofs.GroupLeft.{next-uses}
use Rattle.wait_cores.proofs.laws.group.events_are_used_up.Goals as goal

pub returns : goal.returns
returns c = next-uses
