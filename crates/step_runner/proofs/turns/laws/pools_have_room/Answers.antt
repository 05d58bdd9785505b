use Rattle.step_runner.proofs.RoomLemmas.{new_object_fits, at_fits, put_is_kept}
use Rattle.step_runner.proofs.turns.laws.pools_have_room.Goals as goal

pub returns-clause-begins : goal.returns-clause-begins
returns-clause-begins c workers room keys kind = new_object_fits workers room keys kind

pub returns-clause-goes_on : goal.returns-clause-goes_on
returns-clause-goes_on c worker moment left call objects some fit = at_fits left call worker moment objects some fit

pub returns-clause-kept : goal.returns-clause-kept
returns-clause-kept c worker item left p here some fit = put_is_kept worker item left p here some fit
