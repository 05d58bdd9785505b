use Rattle.record_text.proofs.Decimals.{none_below}
use Rattle.record_text.proofs.number.read_below.Goals as goal

pub returns-else-number-limit : goal.returns-else-number-limit
returns-else-number-limit c = none_below c.args.word.now c.in_ok-number.number c.args.limit c.in_ok-number.ensures.0 c.in_ok-number.ensures.1 c.if-number-limit.false
