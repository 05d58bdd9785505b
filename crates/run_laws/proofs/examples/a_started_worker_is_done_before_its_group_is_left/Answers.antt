use Rattle.run_laws.proofs.ExplainedGo as example
use Rattle.run_laws.proofs.examples.a_started_worker_is_done_before_its_group_is_left.Goals as goal

pub returns-clause-explained : goal.returns-clause-explained
returns-clause-explained c = example.explained c.scripts_without_tests_are_spelt_call_by_call.ensures

pub returns-clause-refused : goal.returns-clause-refused
returns-clause-refused c = example.refused

pub returns-clause-not_left : goal.returns-clause-not_left
returns-clause-not_left c = example.not_left
