use Rattle.shared_checks.proofs.PlayLemmas.{on_at}
use Rattle.shared_checks.proofs.laws.calls_stay_on_objects_that_there_are.Goals as goal

pub returns : goal.returns
returns c = on_at
