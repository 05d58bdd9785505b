use Rattle.std.proofs.Common.{◌≡◌, drop}
use Rattle.run_check.specs.ToldItems.{kept_at}
use Rattle.run_check.proofs.told.placing.kept_at.Given as goal

abbrev pub invariant-loop-of : goal.invariant-loop-of
invariant-loop-of l = kept_at l.kept l.object ≡ kept_at (drop l.of-index l.kept) l.object
