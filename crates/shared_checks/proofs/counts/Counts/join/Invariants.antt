use Rattle.std.proofs.Common.{◌≡◌, ℕ, ◌<◌, ◌≤◌, slice_index, max}
use Rattle.shared_checks.proofs.counts.Counts.join.Given as goal

abbrev pub invariant-loop-caller : goal.invariant-loop-caller
invariant-loop-caller l = record {
  joined : (k : ℕ) → k < l.caller → slice_index l.self.of k ≡ max (slice_index l.initial.self.of k) (slice_index l.other.of k);
  same : (k : ℕ) → l.caller ≤ k → slice_index l.self.of k ≡ slice_index l.initial.self.of k;
}
