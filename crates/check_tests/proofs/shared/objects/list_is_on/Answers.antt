use Rattle.std.proofs.Common.{length, refl}
use Rattle.std.proofs.lemmas.Option.{slice_get_read}
use Rattle.shared_checks.specs.Placing.{contents_of, IsOn}
use Rattle.shared_checks.proofs.Begun.{one_item_more, all_items}
use Rattle.check_tests.proofs.shared.objects.list_is_on.Goals as goal

pub loop-item-preserved : goal.loop-item-preserved
loop-item-preserved c = one_item_more (λ j x. IsOn (contents_of c.args.objects.now) x.call) c.args.items.now c.loop-item.item-index c.item-item.result
    (slice_get_read c.args.items.now (length c.args.items.now) c.loop-item.item-index c.item-item.result refl c.loop-item-test.true c.item-item.is)
    (c.is_on.ensures c.if-not-is_on.false) c.loop-item.invariant

pub returns : goal.returns
returns c = λ yes_. all_items (λ j x. IsOn (contents_of c.args.objects.now) x.call) c.args.items.now c.loop-item.item-index c.loop-item-test.false c.loop-item.invariant
