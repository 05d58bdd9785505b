use Rattle.std.proofs.Common.{◌∙◌, sym}
use Rattle.std.proofs.lemmas.Bool.{false≢true}
use Rattle.shared_checks.specs.Calls.{calls_in}
use Rattle.shared_checks.proofs.Orders.{order_of, each_of, fronts_of}
use Rattle.shared_checks.proofs.fronts.keeps_fronts.Goals as goal

pub returns-then-are_in_order : goal.returns-then-are_in_order
returns-then-are_in_order c = (λ yes_. fronts_of c.args.lists.now (c.are_in_order.ensures.0 c.if-are_in_order.true) (c.are_known.ensures.0 yes_), λ law. c.are_known.ensures.1 (λ caller j x at. each_of c.args.lists.now x.front x.place (law.knows caller j x at)))

pub returns-else-are_in_order : goal.returns-else-are_in_order
returns-else-are_in_order c = (λ yes_. absurd (false≢true (sym c.if-are_in_order.false ∙ yes_)), λ law. c.are_in_order.ensures.1 (order_of (calls_in c.args.lists.now) law))
