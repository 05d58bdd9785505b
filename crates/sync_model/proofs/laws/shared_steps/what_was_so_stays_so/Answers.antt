use Rattle.sync_model.proofs.SharedSteps.{was_more}
use Rattle.sync_model.proofs.laws.shared_steps.what_was_so_stays_so.Goals as goal

pub returns : goal.returns
returns c = λ calls new start history later front reach m key value grows. was_more calls new grows start history later front reach m key value
