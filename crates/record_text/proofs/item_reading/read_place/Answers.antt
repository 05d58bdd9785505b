use Rattle.std.proofs.Common.{ap, length}
use Rattle.record_text.specs.Cuts.{parts_in}
use Rattle.record_text.proofs.SaidLemmas.{place_none, place_worker, place_one, place_index, placed}
use Rattle.record_text.proofs.item_reading.read_place.Goals as goal

pub returns-in_err-first : goal.returns-in_err-first
returns-in_err-first c =
    rw c.from_residual.ensures (place_none c.args.workload.now (parts_in 32 c.args.rest) c.in_err-first.ensures)

pub returns-in_err-worker : goal.returns-in_err-worker
returns-in_err-worker c =
    let none = rw c.workers.ensures.workers at c.in_err-worker.ensures in rw c.from_residual-in_err-worker.ensures (place_worker c.args.workload.now (parts_in 32 c.args.rest) (parts_in 32 c.in_ok-first.rest) c.in_ok-first.first.now c.in_ok-first.ensures none)

pub returns-in_err-second : goal.returns-in_err-second
returns-in_err-second c =
    rw c.from_residual-in_err-second.ensures (place_one c.args.workload.now (parts_in 32 c.args.rest) (parts_in 32 c.in_ok-first.rest) c.in_ok-first.first.now c.in_ok-first.ensures c.in_err-second.ensures)

pub returns-in_err-index : goal.returns-in_err-index
returns-in_err-index c =
    let worker = rw c.workers.ensures.workers at c.in_ok-worker.ensures in rw c.from_residual-in_err-index.ensures (place_index c.args.workload.now (parts_in 32 c.args.rest) (parts_in 32 c.in_ok-first.rest) (parts_in 32 c.in_ok-second.rest) c.in_ok-first.first.now c.in_ok-second.second.now c.in_ok-worker.worker (length c.script-calls.result.now) c.workers.ensures.readable.few_workers c.in_ok-first.ensures worker.0 worker.1 c.in_ok-second.ensures (ap length c.script-calls.ensures.script) c.in_err-index.ensures)

pub returns : goal.returns
returns c =
    let worker = rw c.workers.ensures.workers at c.in_ok-worker.ensures in placed c.args.workload.now (parts_in 32 c.args.rest) (parts_in 32 c.in_ok-first.rest) (parts_in 32 c.in_ok-second.rest) c.in_ok-first.first.now c.in_ok-second.second.now c.in_ok-worker.worker (length c.script-calls.result.now) c.in_ok-index.index c.in_ok-first.ensures worker.0 worker.1 c.in_ok-second.ensures (ap length c.script-calls.ensures.script) c.in_ok-index.ensures.0 c.in_ok-index.ensures.1
