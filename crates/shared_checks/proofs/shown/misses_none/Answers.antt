use Rattle.std.proofs.Common.{refl, arith}
use Rattle.shared_checks.specs.Placing.{contents_of}
use Rattle.shared_checks.specs.Showing.{MayMiss}
use Rattle.shared_checks.proofs.ShowingLemmas.{all_missed}
use Rattle.shared_checks.proofs.Begun.{one_more}
use Rattle.shared_checks.proofs.shown.misses_none.Goals as goal

pub loop-key-preserved : goal.loop-key-preserved
loop-key-preserved c =
    one_more (MayMiss (contents_of c.args.objects.now) c.args.history.now c.args.items.now c.args.step.begin c.args.step.map c.args.step.from c.args.step.index c.args.step.reach)
    c.loop-key.key (c.may_miss.ensures.0 c.if-not-may_miss.false) c.loop-key.invariant

pub returns : goal.returns
returns c = (
  λ yes_. all_missed (contents_of c.args.objects.now) c.args.history.now c.args.items.now c.args.step.begin c.args.step.map c.args.step.from c.args.step.index c.args.step.reach c.requires.there c.requires.order c.requires.empty
      (λ k e at key named. let below = c.key_bound-key-end.ensures.above k e at key named in c.loop-key.invariant key (omega (arith, below, c.loop-key-test.false))),
  λ all. refl,
)
