use Rattle.std.proofs.Common.{arith}
use Rattle.std.proofs.lemmas.Option.{slice_get-get_or}
use Rattle.shared_checks.specs.Showing.{IsAbove}
use Rattle.shared_checks.proofs.Begun.{one_item_more, all_items}
use Rattle.shared_checks.proofs.shown.key_bound.Goals as goal

pub loop-entry-preserved : goal.loop-entry-preserved
loop-entry-preserved c = record {
  small = c.raised-bound.ensures.small;
  above = one_item_more (λ k e. IsAbove c.args.map c.raised-bound.result e) c.args.history.now c.loop-entry.entry-index _ (slice_get-get_or _ _ _ c.loop-entry-test.true) c.raised-bound.ensures.above
      (λ k e before at key named. let less = c.loop-entry.invariant.above k e before at key named in omega (arith, less, c.raised-bound.ensures.keeps));
}

pub returns-clause-above : goal.returns-clause-above
returns-clause-above c = all_items (λ k e. IsAbove c.args.map c.loop-entry.bound e) c.args.history.now c.loop-entry.entry-index c.loop-entry-test.false c.loop-entry.invariant.above
