use Rattle.std.proofs.Common.{◌≡◌, ℕ, ◌<◌, Some, slice_get}
use Rattle.sync_model.specs.declared.item.Item.{Item}
use Rattle.shared_checks.specs.Fronts.{KnowsEach}
use Rattle.shared_checks.proofs.fronts.are_known_of.Given as goal

abbrev pub invariant-loop-item : goal.invariant-loop-item
invariant-loop-item l = (j : ℕ) (x : Item) → j < l.item-index → slice_get l.items j ≡ Some x → KnowsEach l.lists x.front x.place
