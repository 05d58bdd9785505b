use Rattle.std.proofs.lemmas.Bool.{false≢true}
use Rattle.shared_checks.proofs.Orders.{least_on, not_least}
use Rattle.shared_checks.proofs.fronts.is_at_least.Goals as goal

pub returns-then-next_count-count : goal.returns-then-next_count-count
returns-then-next_count-count c = (
  λ no_. absurd (false≢true no_),
  λ least. absurd (not_least c.next_count.result c.in-Some.count.now c.loop-count.counts c.next_count.new.counts c.loop-count.count-iterator c.next.new.self
      c.next_count.ensures.count c.next_count.ensures.rest c.in-Some.ensures.steps c.if-next_count-count.true (c.loop-count.invariant.left.1 least)),
)

pub loop-count-preserved : goal.loop-count-preserved
loop-count-preserved c =
    let both = least_on c.next_count.result c.in-Some.count.now c.loop-count.counts c.next_count.new.counts c.loop-count.count-iterator c.next.new.self
    c.next_count.ensures.count c.next_count.ensures.rest c.in-Some.ensures.steps c.if-next_count-count.false in
    record { can = tt; ends = tt; left = (λ least. c.loop-count.invariant.left.0 (both.0 least), λ least. both.1 (c.loop-count.invariant.left.1 least)) }
