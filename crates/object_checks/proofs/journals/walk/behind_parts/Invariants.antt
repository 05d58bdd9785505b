use Rattle.std.proofs.Common.{◌≡◌, ◌≤◌}
use Rattle.run_record.specs.Objects.{first_part}
use Rattle.object_checks.proofs.journals.walk.behind_parts.Given as goal

abbrev pub invariant-loop-line : goal.invariant-loop-line
invariant-loop-line l = record {
  number : l.number ≡ first_part l.workload l.line-index;
  enough : l.number ≤ l.objects;
}
