use Rattle.std.proofs.Common.{ℕ, map, take}
use Rattle.workload.specs.Keys.{keys_in, key_number}
use Rattle.run_record.specs.MapKind.{step_showing}
use Rattle.step_runner.specs.Recorded.{made_shared}
use Rattle.scheduled_record.specs.Ledgers.{Adds, adding}
use Rattle.scheduled_record.proofs.ledger.Ledger.add_steps.Given as goal

abbrev pub invariant-loop-key : goal.invariant-loop-key
invariant-loop-key l = (map_number begin : ℕ) → Adds l.workload (adding l.index l.worker (map (made_shared l.workload) (map (step_showing (keys_in l.workload.scripts) map_number begin) (map (λ pair. (key_number (keys_in l.workload.scripts) pair.0, pair.1)) (take l.key-index l.pairs))))) l.fn.self l.self
