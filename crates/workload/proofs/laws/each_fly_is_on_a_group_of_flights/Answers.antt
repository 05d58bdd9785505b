use Rattle.workload.proofs.XSyncCalls.{flights}
use Rattle.workload.proofs.laws.each_fly_is_on_a_group_of_flights.Goals as goal

pub returns : goal.returns
returns c = flights
