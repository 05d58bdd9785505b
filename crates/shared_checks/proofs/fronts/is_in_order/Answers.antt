use Rattle.std.proofs.Common.{refl}
use Rattle.shared_checks.proofs.Orders.{one_more, all_in_order}
use Rattle.shared_checks.proofs.fronts.is_in_order.Goals as goal

pub loop-index-preserved : goal.loop-index-preserved
loop-index-preserved c = one_more c.args.caller c.args.items.now c.loop-index.index c.loop-index.invariant (c.is_next.ensures.0 c.if-not-is_next.false)

pub returns : goal.returns
returns c = (λ yes_. all_in_order c.args.caller c.args.items.now c.loop-index.index c.loop-index-test.false c.loop-index.invariant, λ order. refl)
