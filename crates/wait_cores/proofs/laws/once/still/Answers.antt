use Rattle.wait_cores.proofs.Stills.{once-made, once-unmade}
use Rattle.wait_cores.proofs.laws.once.still.Goals as goal

pub returns-clause-made : goal.returns-clause-made
returns-clause-made g c = once-made

pub returns-clause-unmade : goal.returns-clause-unmade
returns-clause-unmade g c = once-unmade
