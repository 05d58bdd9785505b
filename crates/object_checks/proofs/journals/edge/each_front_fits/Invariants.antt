use Rattle.std.proofs.Common.{◌≡◌, ℕ, ◌<◌, ◌≤◌, Some, length, slice_get}
use Rattle.object_checks.specs.declared.journals.row.Row.{Row}
use Rattle.object_checks.proofs.journals.edge.each_front_fits.Given as goal

abbrev pub invariant-loop-row : goal.invariant-loop-row
invariant-loop-row l = (i : ℕ) (row : Row) → i < l.row-index → slice_get l.journal i ≡ Some row → length row.item.now.front ≤ 64
