use Rattle.std.proofs.Common.{length, refl}
use Rattle.std.proofs.lemmas.Option.{slice_get_read}
use Rattle.shared_checks.specs.Parts.{HasBegun}
use Rattle.shared_checks.proofs.Begun.{one_item_more, all_items}
use Rattle.shared_checks.proofs.begins.have_begun.Goals as goal

pub loop-index-preserved : goal.loop-index-preserved
loop-index-preserved c = one_item_more (HasBegun c.args.items.now) c.args.items.now c.loop-index.index c.index-items-index.result
    (slice_get_read c.args.items.now (length c.args.items.now) c.loop-index.index c.index-items-index.result refl c.loop-index-test.true c.index-items-index.is)
    (c.has_begun.ensures.0 c.if-not-has_begun.false) c.loop-index.invariant

pub returns : goal.returns
returns c = (λ yes_. all_items (HasBegun c.args.items.now) c.args.items.now c.loop-index.index c.loop-index-test.false c.loop-index.invariant, λ all. refl)
