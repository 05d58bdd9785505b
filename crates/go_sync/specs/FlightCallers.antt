-- What one call of a flight's caller did.
use Rattle.std.specs.Prelude.{◌≡◌, true}
use Rattle.sync_model.specs.declared.answer.Answer.{Answer}
use Rattle.flight_core.specs.FlightMachine.{next}
use Rattle.sync_outside.specs.declared.clock.Clock.{Ghosts}
use Rattle.single_flight.specs.FlightCalls.{FlightDeeds}
use Rattle.single_flight.specs.Flights.{start_of, IsFlightLawful}
use Rattle.go_sync.specs.declared.flights.FlightCaller.{FlightCaller}
use Rattle.go_sync.specs.Made.{Made}

-- The caller made the events of a call that is spelt so, and no others, each the machine's at its place; it is still at its flights, and what it has now seen follows the machine.
pub record Makes {C A : Type 0} {clock : Ghosts C} (spells : FlightDeeds → Answer A → Type 0) (old : FlightCaller C clock) (answer : Answer A) (new : FlightCaller C clock) : Type 0 where
  pub flights : new.flights ≡ old.flights
  pub at : new.clock ≡ old.clock
  pub did : Made next true (start_of old.flights.now) spells old.pass answer new.pass
  pub lawful : IsFlightLawful old.flights.now new.pass
