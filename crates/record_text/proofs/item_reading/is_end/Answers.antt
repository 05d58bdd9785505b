use Rattle.record_text.proofs.ReplyLemmas.{ends}
use Rattle.record_text.proofs.item_reading.is_end.Goals as goal

pub returns : goal.returns
returns c = ends c.args.rest c.is_none.result c.is_none.ensures
