use Rattle.kept_record.proofs.AsRecord.{in_one_order}
use Rattle.kept_record.proofs.laws.all_that_was_made_stands_in_one_order.Goals as goal

pub returns : goal.returns
returns c plan acts all = in_one_order plan acts all c.numbers_that_rise_item_by_item_rise.ensures
