use Rattle.std.proofs.Common.{◌≡◌, ◌≤◌, take}
use Rattle.std.specs.List.{count_by}
use Rattle.run_record.specs.Objects.{is_pool}
use Rattle.list_checks.proofs.spell.numbers.pools.Given as goal

abbrev pub invariant-loop-index : goal.invariant-loop-index
invariant-loop-index l = record {
  counts : l.count ≡ count_by (λ object. is_pool object.kind) (take l.index l.objects);
  few : l.count ≤ l.index;
}
