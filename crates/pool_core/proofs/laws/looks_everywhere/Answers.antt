use Rattle.pool_core.proofs.LooksLemmas.{looks-at_others, looks-at_victims}
use Rattle.pool_core.proofs.laws.looks_everywhere.Goals as goal

pub returns-clause-others : goal.returns-clause-others
returns-clause-others c = looks-at_others

pub returns-clause-victims : goal.returns-clause-victims
returns-clause-victims c = looks-at_victims
