use Rattle.sync_model.proofs.SameHistory.{same_history}
use Rattle.sync_model.proofs.laws.shared.the_calls_determine_the_history.Goals as goal

pub returns : goal.returns
returns c = same_history
