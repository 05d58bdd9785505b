use Rattle.std.proofs.Common.{sym}
use Rattle.record_text.proofs.NameReads.{event_read}
use Rattle.record_text.proofs.event_reading.read_event.Goals as goal

pub returns : goal.returns
returns c =
    let found = rw c.split_name.ensures.name at c.in_ok-event.ensures in
    let read = rw c.split_name.ensures.operand at c.with_operand.ensures in
    event_read c.args.workers c.args.word.now c.in_ok-event.event c.with_operand.result (sym found) read
