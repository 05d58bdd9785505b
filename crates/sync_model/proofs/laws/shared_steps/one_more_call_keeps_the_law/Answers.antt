use Rattle.sync_model.proofs.SharedSteps.{lawful_start, lawful_more, lawful_same}
use Rattle.sync_model.proofs.laws.shared_steps.one_more_call_keeps_the_law.Goals as goal

pub returns-clause-start : goal.returns-clause-start
returns-clause-start c = lawful_start

pub returns-clause-more : goal.returns-clause-more
returns-clause-more c = λ start history calls new c x adds. lawful_more calls new c x adds start history

pub returns-clause-same : goal.returns-clause-same
returns-clause-same c = lawful_same
