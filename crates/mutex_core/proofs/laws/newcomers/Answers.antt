use Rattle.mutex_core.proofs.Newcomers.{acquired, acquires_at_once, any_moment, unqueued}
use Rattle.mutex_core.proofs.laws.newcomers.Goals as goal

pub returns-clause-at_once : goal.returns-clause-at_once
returns-clause-at_once c = acquires_at_once

pub returns-clause-unqueued : goal.returns-clause-unqueued
returns-clause-unqueued c = unqueued

pub returns-clause-any_moment : goal.returns-clause-any_moment
returns-clause-any_moment c = any_moment

pub returns-clause-acquired : goal.returns-clause-acquired
returns-clause-acquired c = acquired
