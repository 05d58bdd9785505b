use Rattle.std.proofs.Common.{◌≡◌, map}
use Rattle.run_check.proofs.outcome.replies_of.Given as goal

abbrev pub invariant-loop-line : goal.invariant-loop-line
invariant-loop-line l = l.replies ≡ map (λ line. line.replies) l.yielded
