use Rattle.vector_clocks.proofs.JoinLemmas.{joins_of}
use Rattle.std.proofs.Common.{arith}
use Rattle.vector_clocks.proofs.clock.Clock.join.Goals as goal

pub returns : goal.returns
returns c = joins_of c.args.self.now.counts c.args.other.now.counts c.loop-w.self.counts 32 c.args.other.now.size
    (λ k below. c.loop-w.invariant.done k (omega arith)) (λ k above. c.loop-w.invariant.same k (omega arith))
