use Rattle.rw_core.proofs.Newcomers.{acquired, any_moment, unqueued}
use Rattle.rw_core.proofs.laws.newcomers.Goals as goal

pub returns-clause-unqueued : goal.returns-clause-unqueued
returns-clause-unqueued c = unqueued c.newcomers.ensures.at_once

pub returns-clause-any_moment : goal.returns-clause-any_moment
returns-clause-any_moment c = any_moment c.newcomers.ensures.any_moment

pub returns-clause-acquired : goal.returns-clause-acquired
returns-clause-acquired c = acquired c.newcomers.ensures.acquired
