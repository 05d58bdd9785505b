use Rattle.record_text.specs.Cuts.{parts_in}
use Rattle.record_text.specs.ItemLines.{spaced}
use Rattle.record_text.proofs.SaidLemmas.{line_none, line_place, line_said, line_parts}
use Rattle.record_text.proofs.item_reading.read_parts.Goals as goal

pub returns-in_err-first : goal.returns-in_err-first
returns-in_err-first c =
    rw c.from_residual.ensures (line_none c.args.workload.now (spaced c.args.line.now) c.in_err-first.ensures)

pub returns-in_err-worker : goal.returns-in_err-worker
returns-in_err-worker c =
    rw c.from_residual-in_err-worker.ensures (line_place c.args.workload.now (spaced c.args.line.now) (parts_in 32 c.in_ok-first.rest) c.in_ok-first.first.now c.in_ok-first.ensures c.in_err-worker.ensures)

pub returns-in_err-front : goal.returns-in_err-front
returns-in_err-front c =
    rw c.from_residual-in_err-front.ensures (line_said c.args.workload.now (spaced c.args.line.now) (parts_in 32 c.in_ok-first.rest) (parts_in 32 c.in_ok-worker.rest) c.in_ok-first.first.now c.in_ok-worker.worker c.in_ok-worker.index c.in_ok-first.ensures c.in_ok-worker.ensures.1 c.in_err-front.ensures)

pub returns : goal.returns
returns c =
    (c.in_ok-worker.ensures.0, c.in_ok-front.ensures.0, line_parts c.args.workload.now (spaced c.args.line.now) (parts_in 32 c.in_ok-first.rest) (parts_in 32 c.in_ok-worker.rest) c.in_ok-first.first.now c.in_ok-front.front.now c.in_ok-worker.worker c.in_ok-worker.index c.in_ok-front.said c.in_ok-first.ensures c.in_ok-worker.ensures.1 c.in_ok-front.ensures.1 c.in_ok-front.ensures.2)
