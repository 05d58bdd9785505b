use Rattle.std.proofs.Common.{◌≡◌}
use Rattle.shared_checks.specs.Marks.{marked_from}
use Rattle.shared_checks.proofs.marking.mark_items.Given as goal

abbrev pub invariant-loop-item : goal.invariant-loop-item
invariant-loop-item l = l.marked ≡ marked_from l.owners l.caller 0 l.yielded
