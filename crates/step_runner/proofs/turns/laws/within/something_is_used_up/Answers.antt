use Rattle.step_runner.proofs.WithinUses.{within_few, within_uses}
use Rattle.step_runner.proofs.turns.laws.within.something_is_used_up.Goals as goal

pub returns-clause-uses : goal.returns-clause-uses
returns-clause-uses c workers worker moment begun call objects ready =
    within_uses c.machines_tell_where_callers_stand.ensures.mutexes c.turns_keep_kinds_and_machines.ensures.ready c.turns_use_something_up.ensures workers worker moment begun call objects ready

pub returns-clause-few : goal.returns-clause-few
returns-clause-few c worker moment begun call objects few = within_few worker moment begun call objects few
