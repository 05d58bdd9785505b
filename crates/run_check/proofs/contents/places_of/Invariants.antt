use Rattle.std.proofs.Common.{◌≡◌, take}
use Rattle.run_record.specs.Objects.{is_map, is_atomic, places_from}
use Rattle.run_check.proofs.contents.places_of.Given as goal

abbrev pub invariant-loop-place : goal.invariant-loop-place
invariant-loop-place l = record {
  atomics : l.atomics.items ≡ places_from 0 is_atomic (take l.place l.objects);
  maps : l.maps.items ≡ places_from 0 is_map (take l.place l.objects);
}
