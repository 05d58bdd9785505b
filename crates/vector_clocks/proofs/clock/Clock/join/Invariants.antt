use Rattle.std.proofs.Common.{◌≡◌, ℕ, ◌<◌, ◌≤◌, slice_index, max}
use Rattle.vector_clocks.proofs.clock.Clock.join.Given as goal

abbrev pub invariant-loop-w : goal.invariant-loop-w
invariant-loop-w l = record {
  done : (k : ℕ) → k < l.w → slice_index l.self.counts k ≡ max (slice_index l.initial.self.counts k) (slice_index l.other.counts k);
  same : (k : ℕ) → l.w ≤ k → slice_index l.self.counts k ≡ slice_index l.initial.self.counts k;
}
