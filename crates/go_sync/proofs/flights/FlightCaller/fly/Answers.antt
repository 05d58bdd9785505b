use Rattle.go_sync.proofs.Running.{may_land_so}
use Rattle.go_sync.proofs.flights.FlightCaller.fly.Goals as goal

pub flown-requires-clause-work : goal.flown-requires-clause-work
flown-requires-clause-work g c = λ leader lead. c.requires leader (may_land_so _ _ _ _ leader c.ready.ensures.same lead)
