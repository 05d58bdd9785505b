use Rattle.mutex_core.proofs.Modes.{next-begins, next-begun, next-ends, next-ended}
use Rattle.mutex_core.proofs.laws.changes_of_mode.Goals as goal

pub returns-clause-begins : goal.returns-clause-begins
returns-clause-begins c = next-begins

pub returns-clause-begun : goal.returns-clause-begun
returns-clause-begun c = next-begun

pub returns-clause-ends : goal.returns-clause-ends
returns-clause-ends c = next-ends

pub returns-clause-ended : goal.returns-clause-ended
returns-clause-ended c = next-ended
