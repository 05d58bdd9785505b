use Rattle.std.proofs.Common.{◌≡◌, length}
use Rattle.vector_clocks.specs.Knowing.{AreAt, ClocksUpTo}
use Rattle.vector_clocks.proofs.clocks.go_over.Given as goal

abbrev pub invariant-loop-n : goal.invariant-loop-n
invariant-loop-n l = record {
  are : AreAt l.trace l.n l.workers l.channels;
  many : length l.clocks.items ≡ l.n;
  upto : ClocksUpTo l.trace l.n l.clocks.items;
}
