use Rattle.std.proofs.Common.{length, ◌∙◌, sym, ap, arith}
use Rattle.std.proofs.lemmas.Bool.{false≢true}
use Rattle.shared_checks.proofs.Orders.{known_on, known_first}
use Rattle.shared_checks.proofs.fronts.is_known.Goals as goal

pub returns-then-not-is_known_of : goal.returns-then-not-is_known_of
returns-then-not-is_known_of c = (
  λ no_. absurd (false≢true no_),
  λ each. absurd (false≢true (sym c.if-not-is_known_of.true ∙ c.is_known_of.ensures.1
      (known_first c.args.lists.now c.args.place c.loop-caller.caller c.in-Some.count.now c.loop-caller.count-iterator c.next.new.self c.in-Some.ensures.steps (c.loop-caller.invariant.left.1 each)))),
)

pub loop-caller-preserved : goal.loop-caller-preserved
loop-caller-preserved c =
    let both = known_on c.args.lists.now c.args.place c.loop-caller.caller c.in-Some.count.now c.loop-caller.count-iterator c.next.new.self c.in-Some.ensures.steps (c.is_known_of.ensures.0 c.if-not-is_known_of.false) in
    record { can = tt; ends = tt; small = let count = ap length c.in-Some.ensures.steps in omega (arith, count, c.loop-caller.invariant.small); left = (λ each. c.loop-caller.invariant.left.0 (both.0 each), λ each. both.1 (c.loop-caller.invariant.left.1 each)) }
