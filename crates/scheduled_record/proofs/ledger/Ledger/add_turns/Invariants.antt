use Rattle.std.proofs.Common.{fold, take}
use Rattle.scheduled_record.specs.Ledgers.{Adds}
use Rattle.scheduled_record.specs.ToldItems.{with_told_turn}
use Rattle.scheduled_record.proofs.ledger.Ledger.add_turns.Given as goal

abbrev pub invariant-loop-turn : goal.invariant-loop-turn
invariant-loop-turn l = Adds l.workload (λ told. fold (with_told_turn l.workload) told (take l.turn-index l.trace)) l.fn.self l.self
