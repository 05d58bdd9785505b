use Rattle.shared_checks.proofs.Orders.{InOrderTo}
use Rattle.shared_checks.proofs.fronts.is_in_order.Given as goal

abbrev pub invariant-loop-index : goal.invariant-loop-index
invariant-loop-index l = InOrderTo l.caller l.items l.index
