use Rattle.std.proofs.Common.{◌≡◌, ℕ, ◌<◌, Some, slice_get}
use Rattle.sync_model.specs.declared.item.Item.{Item}
use Rattle.shared_checks.specs.Parts.{HasBegun}
use Rattle.shared_checks.proofs.begins.have_begun.Given as goal

abbrev pub invariant-loop-index : goal.invariant-loop-index
invariant-loop-index l = (j : ℕ) (x : Item) → j < l.index → slice_get l.items j ≡ Some x → HasBegun l.items j x
