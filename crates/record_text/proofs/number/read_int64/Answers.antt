use Rattle.record_text.proofs.Decimals.{no_int_empty}
use Rattle.record_text.proofs.number.read_int64.Goals as goal

pub returns-in-None : goal.returns-in-None
returns-in-None c = no_int_empty c.args.word.now c.in-None.ensures.cases
