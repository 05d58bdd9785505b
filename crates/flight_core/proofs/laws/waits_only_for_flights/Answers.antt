use Rattle.flight_core.proofs.Sharing.{always-awaited}
use Rattle.flight_core.proofs.laws.waits_only_for_flights.Goals as goal

pub returns : goal.returns
returns c = always-awaited
