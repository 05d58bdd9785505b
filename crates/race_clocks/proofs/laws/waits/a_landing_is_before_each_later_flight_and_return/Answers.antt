use Rattle.race_clocks.proofs.Ordered.{flight_row}
use Rattle.race_clocks.proofs.laws.waits.a_landing_is_before_each_later_flight_and_return.Goals as goal

pub returns : goal.returns
returns c plan trace i j o w v value shared d e earlier one two lands known = flight_row plan trace i j o w v d e earlier one two value shared lands known
