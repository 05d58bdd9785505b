use Rattle.rw_core.proofs.Answers.{made, stays}
use Rattle.rw_core.proofs.laws.still.Goals as goal

pub returns-clause-made : goal.returns-clause-made
returns-clause-made c = made

pub returns-clause-unmade : goal.returns-clause-unmade
returns-clause-unmade c = stays
