use Rattle.run_cuts.proofs.AlongCut.{same_calls, some_line}
use Rattle.run_cuts.proofs.laws.a_list_tells_of_which_call_each_item_is.Goals as goal

pub returns-clause-same : goal.returns-clause-same
returns-clause-same c plan worker script line told run is e = same_calls plan worker script line told run is e

pub returns-clause-some : goal.returns-clause-some
returns-clause-some c plan worker line valid none run is e = some_line plan worker line valid none run is e
