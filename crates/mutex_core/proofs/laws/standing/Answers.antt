use Rattle.mutex_core.proofs.Standing.{answers, stands, waits}
use Rattle.mutex_core.proofs.laws.standing.Goals as goal

pub returns-clause-answered : goal.returns-clause-answered
returns-clause-answered c = answers

pub returns-clause-out : goal.returns-clause-out
returns-clause-out c = stands

pub returns-clause-waits : goal.returns-clause-waits
returns-clause-waits c = waits
