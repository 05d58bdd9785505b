use Rattle.wait_cores.proofs.Stills.{group-made, group-unmade}
use Rattle.wait_cores.proofs.laws.group.still.Goals as goal

pub returns-clause-made : goal.returns-clause-made
returns-clause-made c = group-made

pub returns-clause-unmade : goal.returns-clause-unmade
returns-clause-unmade c = group-unmade
