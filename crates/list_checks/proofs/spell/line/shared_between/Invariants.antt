use Rattle.std.proofs.Common.{◌≡◌, ◌+◌, ◌≤◌, length}
use Rattle.std.specs.List.{slice_range}
use Rattle.run_record.specs.Record.{shared_in}
use Rattle.list_checks.proofs.spell.line.shared_between.Given as goal

abbrev pub invariant-loop-index : goal.invariant-loop-index
invariant-loop-index l = record {
  from : l.from ≤ l.index;
  count : l.count ≡ length (shared_in (slice_range l.items l.from l.index));
  few : l.count + l.from ≤ l.index;
}
