use Rattle.std.proofs.Common.{◌≡◌, ◌*◌, ◌-◌}
use Rattle.step_runner.specs.Due.{looks_of}
use Rattle.step_runner.specs.Items.{look_items}
use Rattle.step_runner.specs.Noted.{noted}
use Rattle.step_runner.specs.PoolTurn.{found_by}
use Rattle.step_runner.proofs.turns.pool_turn.get.Given as goal

abbrev pub invariant-loop-number : goal.invariant-loop-number
invariant-loop-number l = record {
  rest : found_by l.taker.worker l.taker.moment (looks_of l.taker.workers l.taker.worker l.number (2 * l.taker.workers - l.number)) l.pool
      ≡ found_by l.taker.worker l.taker.moment (looks_of l.taker.workers l.taker.worker 0 (2 * l.taker.workers)) l.initial.pool;
  told : noted (look_items l.taker.worker l.taker.moment l.place (looks_of l.taker.workers l.taker.worker l.number (2 * l.taker.workers - l.number)) l.pool) l.notes
      ≡ noted (look_items l.taker.worker l.taker.moment l.place (looks_of l.taker.workers l.taker.worker 0 (2 * l.taker.workers)) l.initial.pool) l.initial.notes;
}
