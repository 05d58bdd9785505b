use Rattle.thread_runner.proofs.NameTables.{HasPlaces}
use Rattle.thread_runner.proofs.key_order.places_by_name.Given as goal

abbrev pub invariant-loop-place : goal.invariant-loop-place
invariant-loop-place l = HasPlaces l.names l.place l.places
