use Rattle.flight_core.proofs.Steps.{unblocked}
use Rattle.flight_core.proofs.laws.synchronizes.Goals as goal

pub returns-clause-unblocked : goal.returns-clause-unblocked
returns-clause-unblocked c = unblocked
