use Rattle.flight_core.proofs.Joining.{joins-one, leads-alone}
use Rattle.flight_core.proofs.laws.joins_one_flight.Goals as goal

pub returns-clause-joined : goal.returns-clause-joined
returns-clause-joined c = joins-one c.logs_go_on.ensures.apart

pub returns-clause-alone : goal.returns-clause-alone
returns-clause-alone c = leads-alone c.logs_go_on.ensures.apart
