use Rattle.wait_cores.proofs.Stills.{notify-made, notify-unmade}
use Rattle.wait_cores.proofs.laws.notify.still.Goals as goal

pub returns-clause-made : goal.returns-clause-made
returns-clause-made c = notify-made

pub returns-clause-unmade : goal.returns-clause-unmade
returns-clause-unmade c = notify-unmade
