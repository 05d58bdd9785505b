use Rattle.step_runner.proofs.PairLemmas.{new_keys, at_keys}
use Rattle.step_runner.proofs.turns.laws.maps_keep_to_the_keys_of_calls.Goals as goal

pub returns-clause-begins : goal.returns-clause-begins
returns-clause-begins c names workers room kind = new_keys names workers room kind

pub returns-clause-goes_on : goal.returns-clause-goes_on
returns-clause-goes_on c names most worker moment call objects named room all = at_keys names most call worker moment objects named room all
