use Rattle.std.proofs.Common.{◌≡◌, ℕ, ◌<◌, Some, slice_get}
use Rattle.sync_model.specs.declared.item.Item.{Item}
use Rattle.shared_checks.specs.Placing.{contents_of, IsOn}
use Rattle.check_tests.proofs.shared.objects.list_is_on.Given as goal

abbrev pub invariant-loop-item : goal.invariant-loop-item
invariant-loop-item l = (j : ℕ) (x : Item) → j < l.item-index → slice_get l.items j ≡ Some x → IsOn (contents_of l.objects) x.call
