use Rattle.std.proofs.Common.{◌+◌, map}
use Rattle.std.specs.List.{range_with_len}
use Rattle.pool_core.specs.declared.pool_event.PoolEvent.TheVariants as pool_events
use Rattle.run_record.specs.declared.entered.ObjectEvent.TheVariants as events
use Rattle.step_runner.specs.Recorded.{made_on}
use Rattle.scheduled_record.specs.Ledgers.{Adds, adding}
use Rattle.scheduled_record.proofs.ledger.Ledger.add_sweep.Given as goal

abbrev pub invariant-loop-part : goal.invariant-loop-part
invariant-loop-part l = Adds l.workload (adding l.index l.worker (map (λ part. made_on l.workload (l.first + part) l.worker (events.Pool pool_events.Sweep) l.answer) (range_with_len 0 l.part))) l.fn.self l.self
