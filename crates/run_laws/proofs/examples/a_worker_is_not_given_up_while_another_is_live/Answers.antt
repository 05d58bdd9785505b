use Rattle.run_laws.proofs.ExplainedStarts as example
use Rattle.run_laws.proofs.examples.a_worker_is_not_given_up_while_another_is_live.Goals as goal

pub returns-clause-explained : goal.returns-clause-explained
returns-clause-explained c = example.explained c.scripts_without_tests_are_spelt_call_by_call.ensures

pub returns-clause-refused : goal.returns-clause-refused
returns-clause-refused c = example.refused
