use Rattle.run_laws.proofs.FrontNumbers.{knows_least, least_knows}
use Rattle.run_laws.proofs.fronts.what_a_front_knows_is_a_number.Goals as goal

pub returns-clause-made : goal.returns-clause-made
returns-clause-made c calls front n knows = knows.made

pub returns-clause-at_least : goal.returns-clause-at_least
returns-clause-at_least c = knows_least

pub returns-clause-and_any : goal.returns-clause-and_any
returns-clause-and_any c = least_knows
