use Rattle.std.proofs.Common.{arith}
use Rattle.shared_checks.proofs.Joins.{joins_of}
use Rattle.shared_checks.proofs.counts.Counts.join.Goals as goal

pub returns : goal.returns
returns c = joins_of c.args.self.now.of c.args.other.now.of c.loop-caller.self.of 64 c.args.other.now.size
    (λ k below. c.loop-caller.invariant.joined k (omega arith)) (λ k above. c.loop-caller.invariant.same k (omega arith))
