use Rattle.sync_model.proofs.MapValues.{value_given, others_cost}
use Rattle.sync_model.proofs.laws.shared.a_map_has_the_values_of_its_calls.Goals as goal

pub returns-clause-values : goal.returns-clause-values
returns-clause-values c = λ call m key value. value_given m key value call

pub returns-clause-others : goal.returns-clause-others
returns-clause-others c = others_cost
