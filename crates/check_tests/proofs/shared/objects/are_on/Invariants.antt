use Rattle.std.proofs.Common.{◌≡◌, ℕ, ◌<◌, Some, slice_get}
use Rattle.sync_model.specs.declared.item.Item.{Item}
use Rattle.shared_checks.specs.Calls.{calls_in}
use Rattle.shared_checks.specs.Placing.{contents_of, IsOn}
use Rattle.check_tests.proofs.shared.objects.are_on.Given as goal

abbrev pub invariant-loop-items : goal.invariant-loop-items
invariant-loop-items l = (c j : ℕ) (x : Item) → c < l.items-index → slice_get (calls_in l.lists c) j ≡ Some x → IsOn (contents_of l.objects) x.call
