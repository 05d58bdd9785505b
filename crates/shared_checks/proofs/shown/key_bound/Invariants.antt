use Rattle.std.proofs.Common.{◌≡◌, ℕ, ◌^◌, ◌<◌, ◌≤◌, Some, slice_get}
use Rattle.sync_model.specs.declared.item.SharedEntry.{SharedEntry}
use Rattle.shared_checks.specs.Showing.{IsAbove}
use Rattle.shared_checks.proofs.shown.key_bound.Given as goal

abbrev pub invariant-loop-entry : goal.invariant-loop-entry
invariant-loop-entry l = record {
  small : l.bound ≤ 2 ^ 32;
  above : (k : ℕ) (entry : SharedEntry) → k < l.entry-index → slice_get l.history k ≡ Some entry → IsAbove l.map l.bound entry;
}
