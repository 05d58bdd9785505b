use Rattle.std.proofs.Common.{◌≡◌}
use Rattle.run_record.specs.Objects.{first_part}
use Rattle.object_checks.proofs.WalkLemmas.{PoolsTo}
use Rattle.object_checks.proofs.journals.walk.parts_follow.Given as goal

abbrev pub invariant-loop-place : goal.invariant-loop-place
invariant-loop-place l = record {
  first : l.first ≡ first_part l.workload l.place;
  so_far : PoolsTo l.workload l.journals l.place;
}
