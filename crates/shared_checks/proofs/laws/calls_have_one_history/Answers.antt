use Rattle.shared_checks.proofs.PartLemmas.{one_history}
use Rattle.shared_checks.proofs.laws.calls_have_one_history.Goals as goal

pub returns : goal.returns
returns c = one_history
