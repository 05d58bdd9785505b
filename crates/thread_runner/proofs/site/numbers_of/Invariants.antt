use Rattle.std.proofs.Common.{◌≡◌, ℕ, ◌<◌, length, Some, slice_get, slice_index}
use Rattle.run_record.specs.Objects.{map_number, atomic_number, pool_number}
use Rattle.workload.specs.declared.object.ObjectLine.{ObjectLine}
use Rattle.thread_runner.specs.Sites.{number_at}
use Rattle.thread_runner.proofs.site.numbers_of.Given as goal

abbrev pub invariant-loop-object : goal.invariant-loop-object
invariant-loop-object l = record {
  maps : l.maps ≡ map_number l.object-items l.object-index;
  atomics : l.atomics ≡ atomic_number l.object-items l.object-index;
  pools : l.pools ≡ pool_number l.object-items l.object-index;
  count : length l.numbers.items ≡ l.object-index;
  each : (place : ℕ) (object : ObjectLine) → place < l.object-index → slice_get l.object-items place ≡ Some object → slice_index l.numbers.items place ≡ number_at l.object-items place object.kind;
}
