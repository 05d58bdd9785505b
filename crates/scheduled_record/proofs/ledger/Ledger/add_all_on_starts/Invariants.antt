use Rattle.std.proofs.Common.{false, ◌++◌, filter, flat_map, get_or, None}
use Rattle.std.specs.List.{range_with_len}
use Rattle.step_runner.specs.Spelt.{made_on_starts}
use Rattle.scheduled_record.specs.Ledgers.{Adds}
use Rattle.scheduled_record.specs.RunActs.{acts_by}
use Rattle.scheduled_record.specs.ToldItems.{told_as}
use Rattle.scheduled_record.proofs.ledger.Ledger.add_all_on_starts.Given as goal

abbrev pub invariant-loop-worker : goal.invariant-loop-worker
invariant-loop-worker l = Adds l.workload (λ told. told ++ told_as None (flat_map (λ worker. acts_by worker (made_on_starts l.workload worker l.event l.answer)) (filter (λ worker. get_or l.among worker false) (range_with_len 0 l.worker)))) l.fn.self l.self
