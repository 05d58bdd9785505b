use Rattle.race_clocks.proofs.Whose.{hands_on_there, takes_in_there}
use Rattle.race_clocks.proofs.laws.whose.a_channel_is_of_its_object.Goals as goal

pub returns-clause-hands_on : goal.returns-clause-hands_on
returns-clause-hands_on c = hands_on_there

pub returns-clause-takes_in : goal.returns-clause-takes_in
returns-clause-takes_in c = takes_in_there
