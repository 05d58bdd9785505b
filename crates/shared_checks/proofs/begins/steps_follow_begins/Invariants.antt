use Rattle.std.proofs.Common.{◌≡◌, ℕ, ◌<◌, Some, slice_get}
use Rattle.sync_model.specs.declared.item.Item.{Item}
use Rattle.shared_checks.specs.Calls.{calls_in}
use Rattle.shared_checks.specs.Parts.{HasBegun}
use Rattle.shared_checks.proofs.begins.steps_follow_begins.Given as goal

abbrev pub invariant-loop-items : goal.invariant-loop-items
invariant-loop-items l = (c j : ℕ) (x : Item) → c < l.items-index → slice_get (calls_in l.lists c) j ≡ Some x → HasBegun (calls_in l.lists c) j x
