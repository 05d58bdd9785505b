use Rattle.std.proofs.Common.{◌≡◌, [], replicate}
use Rattle.step_runner.proofs.state.no_replies.Given as goal

abbrev pub invariant-loop : goal.invariant-loop
invariant-loop l = l.replies ≡ replicate l.counter []
