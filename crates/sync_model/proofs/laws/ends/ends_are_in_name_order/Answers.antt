use Rattle.sync_model.proofs.EndNames.{in_name_order}
use Rattle.sync_model.proofs.laws.ends.ends_are_in_name_order.Goals as goal

pub returns : goal.returns
returns c name number order atomics maps contents is among = in_name_order name number order is atomics maps contents among
