use Rattle.std.proofs.lemmas.Option.{slice_get-get_or}
use Rattle.measure.proofs.flight.FlightsMeasured.new.Goals as goal

pub returns : goal.returns
returns g c = λ k d below. (c.in_ok-group.ensures.passes.all.each k _ (slice_get-get_or c.in_ok-group.passes.items k d below)).0
