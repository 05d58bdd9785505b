use Rattle.run_check.proofs.OnObjects.{spelt_is_on}
use Rattle.run_check.proofs.SpeltOn.{all_on}
use Rattle.run_check.proofs.laws.what_is_spelt_is_on_objects_that_are_there.Goals as goal

pub returns-clause-line : goal.returns-clause-line
returns-clause-line c plan worker i line x readable runs is at = spelt_is_on plan worker i line x readable runs is at

pub returns-clause-all : goal.returns-clause-all
returns-clause-all c = all_on
