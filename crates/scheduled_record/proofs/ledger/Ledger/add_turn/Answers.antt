use Rattle.std.proofs.Common.{length, refl}
use Rattle.std.proofs.lemmas.Option.{slice_get_read}
use Rattle.scheduled_record.specs.ToldItems.{with_told_item}
use Rattle.scheduled_record.proofs.Adding.{folds_more, item_lengthens}
use Rattle.scheduled_record.proofs.ledger.Ledger.add_turn.Goals as goal

pub loop-item-preserved : goal.loop-item-preserved
loop-item-preserved c =
    let plan = c.args.workload.now in
    let made = c.as_slice-made.result.now in
    folds_more plan (with_told_item plan c.args.turn.now.index) (item_lengthens plan c.args.turn.now.index) made c.loop-item.item-index c.item-item.result c.args.self.now c.loop-item.self c.add_item.new.self
    (slice_get_read made (length made) c.loop-item.item-index c.item-item.result refl c.loop-item-test.true c.item-item.is) c.loop-item.invariant c.in_ok-add_item.ensures
