use Rattle.std.proofs.Common.{refl}
use Rattle.made_workload.specs.Generated.{generated_plan}
use Rattle.made_workload.proofs.Readable.{no_variables, no_unrecorded, script_at, script_calls, all_calls, readable}
use Rattle.made_workload.proofs.RunRounds.{no_tests}
use Rattle.made_workload.proofs.laws.workload_of_a_seed.Goals as goal

pub returns-clause-workers : goal.returns-clause-workers
unfolding generated_plan
returns-clause-workers c = λ seed. refl

pub returns-clause-objects : goal.returns-clause-objects
unfolding generated_plan
returns-clause-objects c = λ seed. refl

pub returns-clause-scripts : goal.returns-clause-scripts
unfolding generated_plan
returns-clause-scripts c = script_at

pub returns-clause-script : goal.returns-clause-script
returns-clause-script c = script_calls

pub returns-clause-calls : goal.returns-clause-calls
unfolding generated_plan
returns-clause-calls c = all_calls

pub returns-clause-no_tests : goal.returns-clause-no_tests
returns-clause-no_tests c = no_tests

pub returns-clause-no_dormant : goal.returns-clause-no_dormant
unfolding generated_plan
returns-clause-no_dormant c = λ seed. refl

pub returns-clause-readable : goal.returns-clause-readable
returns-clause-readable c = readable

pub returns-clause-no_variables : goal.returns-clause-no_variables
returns-clause-no_variables c = no_variables

pub returns-clause-no_unrecorded : goal.returns-clause-no_unrecorded
returns-clause-no_unrecorded c = no_unrecorded
