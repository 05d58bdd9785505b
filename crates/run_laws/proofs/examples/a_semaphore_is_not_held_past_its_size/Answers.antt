use Rattle.run_laws.proofs.ExplainedSema as example
use Rattle.run_laws.proofs.examples.a_semaphore_is_not_held_past_its_size.Goals as goal

pub returns-clause-explained : goal.returns-clause-explained
returns-clause-explained c = example.explained c.scripts_without_tests_are_spelt_call_by_call.ensures

pub returns-clause-refused : goal.returns-clause-refused
returns-clause-refused c = example.too_early

pub returns-clause-not_at_once : goal.returns-clause-not_at_once
returns-clause-not_at_once c = example.by_two
