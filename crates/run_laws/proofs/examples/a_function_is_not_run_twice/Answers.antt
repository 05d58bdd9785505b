use Rattle.run_laws.proofs.ExplainedOnceFunc as func
use Rattle.run_laws.proofs.ExplainedOnceValue as value
use Rattle.run_laws.proofs.examples.a_function_is_not_run_twice.Goals as goal

pub returns-clause-value_explained : goal.returns-clause-value_explained
returns-clause-value_explained c = value.explained c.scripts_without_tests_are_spelt_call_by_call.ensures

pub returns-clause-value_refused : goal.returns-clause-value_refused
returns-clause-value_refused c = value.refused

pub returns-clause-func_explained : goal.returns-clause-func_explained
returns-clause-func_explained c = func.explained c.scripts_without_tests_are_spelt_call_by_call.ensures

pub returns-clause-func_refused : goal.returns-clause-func_refused
returns-clause-func_refused c = func.refused
