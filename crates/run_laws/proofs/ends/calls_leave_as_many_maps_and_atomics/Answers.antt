use Rattle.run_laws.proofs.AsMany.{as_many_after}
use Rattle.run_laws.proofs.ends.calls_leave_as_many_maps_and_atomics.Goals as goal

pub returns-clause-maps : goal.returns-clause-maps
returns-clause-maps c start history = (as_many_after history start).0

pub returns-clause-numbers : goal.returns-clause-numbers
returns-clause-numbers c start history = (as_many_after history start).1
