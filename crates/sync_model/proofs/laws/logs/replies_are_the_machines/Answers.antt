use Rattle.sync_model.proofs.Logs.{reply_is}
use Rattle.sync_model.proofs.laws.logs.replies_are_the_machines.Goals as goal

pub returns : goal.returns
returns g c = reply_is g.M.Machine.next
