use Rattle.std.proofs.Common.{◌≡◌}
use Rattle.sync_model.specs.SharedHistory.{contents_at}
use Rattle.shared_checks.specs.Placing.{contents_of}
use Rattle.run_check.proofs.contents.play_all.Given as goal

abbrev pub invariant-loop-entry : goal.invariant-loop-entry
invariant-loop-entry l = contents_of l.objects ≡ contents_at (contents_of l.initial.objects) l.history l.entry-index
