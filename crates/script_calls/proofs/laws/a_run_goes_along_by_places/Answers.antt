use Rattle.script_calls.proofs.RunLemmas.{at_place, drop_over, past}
use Rattle.script_calls.proofs.laws.a_run_goes_along_by_places.Goals as goal

pub returns-clause-at : goal.returns-clause-at
returns-clause-at c = at_place

pub returns-clause-over : goal.returns-clause-over
returns-clause-over c = drop_over

pub returns-clause-past : goal.returns-clause-past
returns-clause-past c = past
