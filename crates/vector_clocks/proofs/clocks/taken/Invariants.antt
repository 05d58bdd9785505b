use Rattle.std.proofs.Common.{ℕ, List, take}
use Rattle.vector_clocks.specs.declared.step.Step.{Step}
use Rattle.vector_clocks.specs.Joins.{IsAtLeast}
use Rattle.vector_clocks.specs.Knowing.{Taken, Shows, AreAt}
use Rattle.vector_clocks.proofs.clocks.taken.Given as goal

abbrev pub invariant-loop-channel : goal.invariant-loop-channel
invariant-loop-channel l = record {
  shows : (trace : List Step) (n : ℕ) → AreAt trace n l.workers l.channels → Shows trace n l.clock.counts (Taken trace n l.worker (take l.channel-index l.takes));
  rises : IsAtLeast l.clock.counts l.initial.clock.counts;
}
