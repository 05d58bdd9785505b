use Rattle.std.proofs.Common.{◌≡◌, ℕ, ◌<◌, Some, slice_get}
use Rattle.sync_model.specs.declared.item.Item.{Item}
use Rattle.shared_checks.specs.Placing.{contents_of}
use Rattle.shared_checks.specs.Showing.{KeepsStep}
use Rattle.shared_checks.proofs.ranges.keep_ranges.Given as goal

abbrev pub invariant-loop-index : goal.invariant-loop-index
invariant-loop-index l = (i : ℕ) (x : Item) → i < l.index → slice_get l.items i ≡ Some x → KeepsStep (contents_of l.objects) l.history l.lists l.items i x
