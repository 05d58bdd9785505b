use Rattle.wait_cores.proofs.NotifyLeft.{next-uses}
use Rattle.wait_cores.proofs.laws.notify.events_are_used_up.Goals as goal

pub returns : goal.returns
returns c = next-uses
