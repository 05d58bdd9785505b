use Rattle.std.proofs.Common.{ℕ, ◌<◌}
use Rattle.shared_checks.specs.Placing.{contents_of}
use Rattle.shared_checks.specs.Showing.{MayMiss}
use Rattle.shared_checks.proofs.shown.misses_none.Given as goal

abbrev pub invariant-loop-key : goal.invariant-loop-key
invariant-loop-key l = (key : ℕ) → key < l.key → MayMiss (contents_of l.objects) l.history l.items l.step.begin l.step.map l.step.from l.step.index l.step.reach key
