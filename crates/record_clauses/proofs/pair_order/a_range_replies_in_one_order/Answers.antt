use Rattle.record_clauses.proofs.PairOrder.{one_order, one_replies}
use Rattle.record_clauses.proofs.RangeKeys.{line_apart, names_differ}
use Rattle.record_clauses.proofs.pair_order.a_range_replies_in_one_order.Goals as goal

pub returns-clause-order : goal.returns-clause-order
returns-clause-order c keys m shown one other apart first second = one_order keys m shown one other apart first second

pub returns-clause-replies : goal.returns-clause-replies
returns-clause-replies c plan told one other apart first second = one_replies plan told one other apart first second

pub returns-clause-apart : goal.returns-clause-apart
returns-clause-apart c plan worker history calls line ranges shows cs is =
    line_apart plan worker history calls ranges shows (names_differ plan.scripts (λ name number at. (c.keys_are_numbered_by_first_appearance.ensures.number plan.scripts name number).1 at)) line cs is
