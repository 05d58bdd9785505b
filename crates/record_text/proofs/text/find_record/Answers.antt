use Rattle.std.proofs.Common.{sym, ◌∙◌}
use Rattle.record_text.proofs.WalkLemmas.{pass_on}
use Rattle.record_text.proofs.text.find_record.Goals as goal

pub loop-start-preserved : goal.loop-start-preserved
loop-start-preserved c =
    let cut = rw c.text_from.ensures at c.split_line.ensures.line in
    let whole = rw c.text_from.ensures at c.split_line.ensures.whole in
    let less = rw c.text_from.ensures at c.split_line.ensures.less in
    pass_on c.args.bytes.now c.split_line.result.0.now c.split_line.result.1.now c.loop-start.start c.loop-start.next c.loop-start.invariant c.loop-start-test.true cut whole less (sym c.is_record_line.ensures ∙ c.if-is_record_line.false)
