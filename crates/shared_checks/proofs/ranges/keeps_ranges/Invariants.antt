use Rattle.std.proofs.Common.{◌≡◌, ℕ, ◌<◌, Some, slice_get}
use Rattle.sync_model.specs.declared.item.Item.{Item}
use Rattle.shared_checks.specs.Calls.{calls_in}
use Rattle.shared_checks.specs.Placing.{contents_of}
use Rattle.shared_checks.specs.Showing.{KeepsStep}
use Rattle.shared_checks.proofs.ranges.keeps_ranges.Given as goal

abbrev pub invariant-loop-caller : goal.invariant-loop-caller
invariant-loop-caller l = (c i : ℕ) (x : Item) → c < l.caller → slice_get (calls_in l.lists c) i ≡ Some x → KeepsStep (contents_of l.objects) l.history l.lists (calls_in l.lists c) i x
