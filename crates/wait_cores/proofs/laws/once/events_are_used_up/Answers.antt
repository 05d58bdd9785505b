use Rattle.wait_cores.proofs.OnceLeft.{next-uses}
use Rattle.wait_cores.proofs.laws.once.events_are_used_up.Goals as goal

pub returns : goal.returns
returns g c = next-uses
