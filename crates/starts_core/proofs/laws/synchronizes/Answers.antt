use Rattle.starts_core.proofs.Starting.{start-releases}
use Rattle.starts_core.proofs.laws.synchronizes.Goals as goal

pub returns-clause-starts : goal.returns-clause-starts
returns-clause-starts c worker e = start-releases worker e.event e.reply
