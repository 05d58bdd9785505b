use Rattle.std.proofs.Common.{ℕ, ◌<◌, ◌≤◌, slice_index}
use Rattle.shared_checks.proofs.counts.Counts.covers.Given as goal

abbrev pub invariant-loop-caller : goal.invariant-loop-caller
invariant-loop-caller l = (k : ℕ) → k < l.caller → slice_index l.other.of k ≤ slice_index l.self.of k
