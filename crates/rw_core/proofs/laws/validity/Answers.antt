use Rattle.rw_core.specs.RwMachine.{start}
use Rattle.rw_core.proofs.Answers.{callers-next, callers-after}
use Rattle.rw_core.proofs.Runs.{start-valid, keeps, run-valid}
use Rattle.rw_core.proofs.laws.validity.Goals as goal

pub returns-clause-begins : goal.returns-clause-begins
returns-clause-begins c = start-valid (record { begins = c.validity.ensures.begins; goes_on = c.validity.ensures.goes_on })

pub returns-clause-goes_on : goal.returns-clause-goes_on
returns-clause-goes_on c = keeps (record { begins = c.validity.ensures.begins; goes_on = c.validity.ensures.goes_on })

pub returns-clause-always : goal.returns-clause-always
returns-clause-always c = run-valid (record { begins = c.validity.ensures.begins; goes_on = c.validity.ensures.goes_on })

pub returns-clause-same_callers : goal.returns-clause-same_callers
returns-clause-same_callers c = callers-next

pub returns-clause-callers : goal.returns-clause-callers
returns-clause-callers c callers log = callers-after (start callers) log
