use Rattle.std.proofs.Common.{length, refl}
use Rattle.std.proofs.lemmas.Option.{slice_get_read}
use Rattle.scheduled_record.specs.ToldItems.{with_told_turn}
use Rattle.scheduled_record.proofs.Adding.{folds_more, turn_lengthens, items_at}
use Rattle.scheduled_record.proofs.ledger.Ledger.add_turns.Goals as goal

pub add_turn-requires-clause-items : goal.add_turn-requires-clause-items
add_turn-requires-clause-items c =
    items_at c.args.workload.now c.args.trace.now c.loop-turn.turn-index c.turn-item.result c.requires.items (slice_get_read c.args.trace.now (length c.args.trace.now) c.loop-turn.turn-index c.turn-item.result refl c.loop-turn-test.true c.turn-item.is)

pub loop-turn-preserved : goal.loop-turn-preserved
loop-turn-preserved c =
    let plan = c.args.workload.now in
    folds_more plan (with_told_turn plan) (turn_lengthens plan) c.args.trace.now c.loop-turn.turn-index c.turn-item.result c.args.self.now c.loop-turn.self c.add_turn.new.self
    (slice_get_read c.args.trace.now (length c.args.trace.now) c.loop-turn.turn-index c.turn-item.result refl c.loop-turn-test.true c.turn-item.is) c.loop-turn.invariant c.in_ok-add_turn.ensures
