use Rattle.std.proofs.lemmas.Option.{slice_get-get_or}
use Rattle.go_sync.proofs.flights.new_flights.Goals as goal

pub returns-clause-passes : goal.returns-clause-passes
returns-clause-passes c = λ k d below. (c.in_ok-flights.ensures.passes.all.each k _ (slice_get-get_or _ k d below)).0
