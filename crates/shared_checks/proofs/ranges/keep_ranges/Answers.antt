use Rattle.std.proofs.Common.{refl}
use Rattle.shared_checks.specs.Placing.{contents_of}
use Rattle.shared_checks.specs.Showing.{KeepsStep}
use Rattle.shared_checks.proofs.Begun.{all_items}
use Rattle.shared_checks.proofs.ShowingLemmas.{each_more}
use Rattle.shared_checks.proofs.ranges.keep_ranges.Goals as goal

pub loop-index-preserved : goal.loop-index-preserved
loop-index-preserved c = each_more (KeepsStep (contents_of c.args.objects.now) c.args.history.now c.args.lists.now c.args.items.now) c.args.items.now c.loop-index.index
    (c.keeps_step.ensures.0 c.if-not-keeps_step.false) c.loop-index.invariant

pub returns : goal.returns
returns c = (
  λ yes_. all_items (KeepsStep (contents_of c.args.objects.now) c.args.history.now c.args.lists.now c.args.items.now) c.args.items.now c.loop-index.index c.loop-index-test.false c.loop-index.invariant,
  λ all. refl,
)
