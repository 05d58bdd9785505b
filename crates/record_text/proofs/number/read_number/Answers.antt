use Rattle.record_text.proofs.Decimals.{as_read}
use Rattle.record_text.proofs.number.read_number.Goals as goal

pub returns : goal.returns
returns c = as_read c.args.word.now c.number.result c.number.ensures.none c.number.ensures.value c.number.ensures.spelled
