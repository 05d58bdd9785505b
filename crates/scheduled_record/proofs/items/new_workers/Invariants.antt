use Rattle.std.proofs.Common.{◌≡◌, map, replicate}
use Rattle.std.specs.List.{range_with_len}
use Rattle.workload.specs.Plan.{is_dormant}
use Rattle.scheduled_record.proofs.items.new_workers.Given as goal

abbrev pub invariant-loop-worker : goal.invariant-loop-worker
invariant-loop-worker l = l.workers.items ≡ map (λ worker. record { front = replicate l.workload.workers 0; waits = is_dormant l.workload worker }) (range_with_len 0 l.worker)
