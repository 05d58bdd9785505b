use Rattle.std.proofs.Common.{◌≡◌, ◌++◌}
use Rattle.race_clocks.specs.Handing.{notices}
use Rattle.race_clocks.proofs.conds.push_notices.Given as goal

abbrev pub invariant-loop-worker : goal.invariant-loop-worker
invariant-loop-worker l = l.gives ≡ l.initial.gives ++ notices l.worker l.cond l.before l.core
