use Rattle.sync_model.proofs.SharedCallers.{is_called}
use Rattle.sync_model.proofs.laws.shared_steps.a_lawful_call_is_as_promised.Goals as goal

pub returns : goal.returns
returns c = is_called
