use Rattle.step_runner.proofs.SpeltWithin.{enters_whole, goes_on}
use Rattle.step_runner.proofs.turns.laws.spelling_within.calls_begin_whole.Goals as goal

pub returns-clause-enters : goal.returns-clause-enters
returns-clause-enters c plan worker before call objects ready kinds idle out = enters_whole c.calls_are_entered_whole.ensures.enters plan worker before call.object call.operation objects ready kinds idle out

pub returns-clause-goes_on : goal.returns-clause-goes_on
returns-clause-goes_on c plan worker before begun call objects ready plain = goes_on c.calls_are_entered_whole.ensures.goes_on plan worker before call.object call.operation begun objects ready plain
