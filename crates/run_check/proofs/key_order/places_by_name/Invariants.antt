use Rattle.run_check.proofs.NameTables.{HasPlaces}
use Rattle.run_check.proofs.key_order.places_by_name.Given as goal

abbrev pub invariant-loop-place : goal.invariant-loop-place
invariant-loop-place l = HasPlaces l.names l.place l.places
