use Rattle.std.proofs.Common.{false}
use Rattle.mutex_core.proofs.Turns.{turns, released_between}
use Rattle.mutex_core.proofs.laws.mutual_exclusion.Goals as goal

pub returns-clause-unlocked_between : goal.returns-clause-unlocked_between
returns-clause-unlocked_between c callers earlier between later first second follows =
    released_between false earlier between later first second (turns callers _ follows)

pub returns-clause-in_turn : goal.returns-clause-in_turn
returns-clause-in_turn c = turns
