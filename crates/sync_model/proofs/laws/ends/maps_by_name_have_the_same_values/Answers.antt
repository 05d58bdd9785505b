use Rattle.sync_model.proofs.EndNames.{value_of_name, no_other_name}
use Rattle.sync_model.proofs.laws.ends.maps_by_name_have_the_same_values.Goals as goal

pub returns-clause-value : goal.returns-clause-value
returns-clause-value c name number m are key is = value_of_name name number m are key is

pub returns-clause-none : goal.returns-clause-none
returns-clause-none c name number m are word ne = no_other_name name number m are word ne
