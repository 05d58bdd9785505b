use Rattle.sync_model.proofs.EndNames.{listed_by_name, numbers_in_name_order}
use Rattle.sync_model.proofs.laws.ends.numbers_by_name_are_in_name_order.Goals as goal

pub returns-clause-order : goal.returns-clause-order
returns-clause-order c name number numbers are = numbers_in_name_order name number numbers are

pub returns-clause-all : goal.returns-clause-all
returns-clause-all c numbers word key is = listed_by_name numbers word key is
