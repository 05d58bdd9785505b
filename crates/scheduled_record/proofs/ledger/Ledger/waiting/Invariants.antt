use Rattle.std.proofs.Common.{◌≡◌, map}
use Rattle.std.specs.List.{range_with_len}
use Rattle.scheduled_record.specs.Ledgers.{waits_in}
use Rattle.scheduled_record.proofs.ledger.Ledger.waiting.Given as goal

abbrev pub invariant-loop-worker : goal.invariant-loop-worker
invariant-loop-worker l = l.waits.items ≡ map (waits_in l.self) (range_with_len 0 l.worker)
