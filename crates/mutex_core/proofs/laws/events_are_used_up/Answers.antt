use Rattle.mutex_core.proofs.UsedUp.{next-uses}
use Rattle.mutex_core.proofs.laws.events_are_used_up.Goals as goal

pub returns : goal.returns
returns c = next-uses
