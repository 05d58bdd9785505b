use Rattle.workload.proofs.Dialects.{only_variables, no_access}
use Rattle.workload.proofs.laws.only_variables_are_read_and_written.Goals as goal

pub returns-clause-variable : goal.returns-clause-variable
returns-clause-variable c = only_variables

pub returns-clause-none : goal.returns-clause-none
returns-clause-none c = no_access
