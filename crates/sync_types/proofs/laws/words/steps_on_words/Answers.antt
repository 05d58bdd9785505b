use Rattle.sync_types.proofs.WordSteps.{read, added, both_bits, either_bits, compared}
use Rattle.sync_types.proofs.laws.words.steps_on_words.Goals as goal

pub returns-clause-read : goal.returns-clause-read
returns-clause-read c = read

pub returns-clause-added : goal.returns-clause-added
returns-clause-added c = added

pub returns-clause-both : goal.returns-clause-both
returns-clause-both c = both_bits

pub returns-clause-either : goal.returns-clause-either
returns-clause-either c = either_bits

pub returns-clause-compared : goal.returns-clause-compared
returns-clause-compared c = compared
