use Rattle.run_check.proofs.PlacedCalls.{placed_on, told_on}
use Rattle.run_check.proofs.laws.what_is_told_is_on_objects_that_are_there.Goals as goal

pub returns-clause-told : goal.returns-clause-told
returns-clause-told c told found readable are = told_on told found are c.a_spelling_is_blind.ensures.lines readable

pub returns-clause-marked : goal.returns-clause-marked
returns-clause-marked c = placed_on
