use Rattle.std.proofs.Common.{◌≡◌}
use Rattle.shared_checks.specs.Marks.{all_marked_from}
use Rattle.shared_checks.proofs.marking.mark_all.Given as goal

abbrev pub invariant-loop-items : goal.invariant-loop-items
invariant-loop-items l = l.marked.items ≡ all_marked_from l.owners 0 l.yielded
