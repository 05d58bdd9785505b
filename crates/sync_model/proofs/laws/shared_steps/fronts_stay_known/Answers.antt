use Rattle.sync_model.proofs.SharedSteps.{adds_grow, knows_more}
use Rattle.sync_model.proofs.SharedCallers.{knows_less, knows_both}
use Rattle.sync_model.proofs.laws.shared_steps.fronts_stay_known.Goals as goal

pub returns-clause-grows : goal.returns-clause-grows
returns-clause-grows c = adds_grow

pub returns-clause-more : goal.returns-clause-more
returns-clause-more c = λ calls new front n m grows. knows_more calls new grows front n m

pub returns-clause-less : goal.returns-clause-less
returns-clause-less c = knows_less

pub returns-clause-both : goal.returns-clause-both
returns-clause-both c = knows_both
