use Rattle.race_clocks.proofs.Whose.{just_started, first_alone}
use Rattle.race_clocks.proofs.laws.whose.a_start_is_of_its_worker.Goals as goal

pub returns-clause-hands_on : goal.returns-clause-hands_on
returns-clause-hands_on c = just_started

pub returns-clause-takes_in : goal.returns-clause-takes_in
returns-clause-takes_in c = first_alone
