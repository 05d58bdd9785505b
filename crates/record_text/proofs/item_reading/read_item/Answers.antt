use Rattle.record_text.specs.ItemLines.{spaced}
use Rattle.record_text.proofs.SaidLemmas.{no_front_in}
use Rattle.record_text.proofs.item_reading.read_item.Goals as goal

pub returns-in_default-2 : goal.returns-in_default-2
returns-in_default-2 c =
    let parts = c.in-Some.parts in
    let none = rw (c.in_default-2.is, c.workers.ensures.workers) at c.in_ok-front.ensures in
    no_front_in c.args.workload.now (spaced c.args.line.now) parts.worker parts.index parts.front.now parts.said c.in-Some.ensures.2 none
