use Rattle.std.proofs.Common.{◌≡◌}
use Rattle.run_check.specs.ToldItems.{kept_by}
use Rattle.run_check.proofs.told.lists.kept_by.Given as goal

abbrev pub invariant-loop-worker : goal.invariant-loop-worker
invariant-loop-worker l = l.kept.items ≡ kept_by l.items l.worker
