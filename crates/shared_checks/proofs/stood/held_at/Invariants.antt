use Rattle.std.proofs.Common.{◌≡◌}
use Rattle.sync_model.specs.SharedHistory.{contents_at, value_at}
use Rattle.shared_checks.specs.Placing.{contents_of}
use Rattle.shared_checks.proofs.stood.held_at.Given as goal

abbrev pub invariant-loop-n : goal.invariant-loop-n
invariant-loop-n l = l.held ≡ value_at (contents_at (contents_of l.objects) l.history l.n) l.map l.key
