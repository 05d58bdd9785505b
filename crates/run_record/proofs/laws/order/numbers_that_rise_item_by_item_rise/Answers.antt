use Rattle.run_record.proofs.RisingNumbers.{rise_between}
use Rattle.run_record.proofs.laws.order.numbers_that_rise_item_by_item_rise.Goals as goal

pub returns : goal.returns
returns c least list times i j x y rise before at_x at_y = rise_between least list times i j x y rise before at_x at_y
