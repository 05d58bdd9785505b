use Rattle.sync_model.proofs.Histories.{maps_long, numbers_long, unchanged}
use Rattle.sync_model.proofs.laws.shared_steps.maps_and_atomics_stay.Goals as goal

pub returns-clause-maps : goal.returns-clause-maps
returns-clause-maps c = maps_long

pub returns-clause-numbers : goal.returns-clause-numbers
returns-clause-numbers c = numbers_long

pub returns-clause-no_entry : goal.returns-clause-no_entry
returns-clause-no_entry c = unchanged
