use Rattle.std.proofs.Common.{fold, take}
use Rattle.scheduled_record.specs.Ledgers.{Adds}
use Rattle.scheduled_record.specs.ToldItems.{with_told_item}
use Rattle.scheduled_record.proofs.ledger.Ledger.add_turn.Given as goal

abbrev pub invariant-loop-item : goal.invariant-loop-item
invariant-loop-item l = Adds l.workload (λ told. fold (with_told_item l.workload l.turn.index) told (take l.item-index l.made)) l.fn.self l.self
