use Rattle.std.proofs.Common.{ℕ, ◌<◌}
use Rattle.shared_checks.specs.Calls.{calls_in}
use Rattle.shared_checks.specs.Fronts.{IsInOrder}
use Rattle.shared_checks.proofs.fronts.are_in_order.Given as goal

abbrev pub invariant-loop-caller : goal.invariant-loop-caller
invariant-loop-caller l = (c : ℕ) → c < l.caller → IsInOrder c (calls_in l.lists c)
