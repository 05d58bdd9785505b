use Rattle.record_text.proofs.Decimals.{no_whole_empty}
use Rattle.record_text.proofs.number.read_whole.Goals as goal

pub returns-in-None : goal.returns-in-None
returns-in-None c = no_whole_empty c.args.word.now c.in-None.ensures.cases
