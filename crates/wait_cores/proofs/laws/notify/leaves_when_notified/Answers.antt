use Rattle.wait_cores.proofs.NotifyLemmas.{leaves_when_notified}
use Rattle.wait_cores.proofs.laws.notify.leaves_when_notified.Goals as goal

pub returns : goal.returns
returns c = leaves_when_notified c.logs_go_on.ensures.apart
