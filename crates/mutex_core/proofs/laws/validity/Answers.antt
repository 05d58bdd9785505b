use Rattle.mutex_core.specs.MutexMachine.{start}
use Rattle.mutex_core.proofs.Validity.{start-valid, next-valid, after-valid, callers-next, callers-after}
use Rattle.mutex_core.proofs.laws.validity.Goals as goal

pub returns-clause-begins : goal.returns-clause-begins
returns-clause-begins c = start-valid

pub returns-clause-goes_on : goal.returns-clause-goes_on
returns-clause-goes_on c = next-valid

pub returns-clause-always : goal.returns-clause-always
returns-clause-always c callers log = after-valid (start callers) log (start-valid callers)

pub returns-clause-same_callers : goal.returns-clause-same_callers
returns-clause-same_callers c = callers-next

pub returns-clause-callers : goal.returns-clause-callers
returns-clause-callers c callers log = callers-after (start callers) log
