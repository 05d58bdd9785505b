use Rattle.flight_core.proofs.Sharing.{leads-until}
use Rattle.flight_core.proofs.laws.leads_until_it_lands.Goals as goal

pub returns : goal.returns
returns c = leads-until
