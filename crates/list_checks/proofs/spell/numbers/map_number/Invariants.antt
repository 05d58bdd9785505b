use Rattle.std.proofs.Common.{◌≡◌, ◌≤◌, take}
use Rattle.std.specs.List.{count_by}
use Rattle.run_record.specs.Objects.{is_map}
use Rattle.list_checks.proofs.spell.numbers.map_number.Given as goal

abbrev pub invariant-loop-index : goal.invariant-loop-index
invariant-loop-index l = record {
  counts : l.count ≡ count_by (λ object. is_map object.kind) (take l.index l.lines);
  few : l.count ≤ l.index;
}
