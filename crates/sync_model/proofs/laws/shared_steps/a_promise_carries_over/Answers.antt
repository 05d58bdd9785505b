use Rattle.sync_model.proofs.SharedCallers.{called_same}
use Rattle.sync_model.proofs.laws.shared_steps.a_promise_carries_over.Goals as goal

pub returns : goal.returns
returns c = called_same
