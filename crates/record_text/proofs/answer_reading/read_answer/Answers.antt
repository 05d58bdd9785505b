use Rattle.std.proofs.Common.{sym}
use Rattle.record_text.proofs.NameReads.{answer_read}
use Rattle.record_text.proofs.answer_reading.read_answer.Goals as goal

pub returns : goal.returns
returns c =
    let found = rw c.split_name.ensures.name at c.in_ok-answer.ensures in
    let read = rw c.split_name.ensures.operand at c.with_operand.ensures in
    answer_read c.args.workers c.args.word.now c.in_ok-answer.answer c.with_operand.result (sym found) read
