use Rattle.run_laws.proofs.ExplainedStoreAndTry as example
use Rattle.run_laws.proofs.order.a_store_before_a_failed_try_is_seen.Goals as goal

pub returns-clause-explained : goal.returns-clause-explained
returns-clause-explained c locks fails unlocks = example.explained locks fails unlocks c.scripts_without_tests_are_spelt_call_by_call.ensures

pub returns-clause-in_no_order : goal.returns-clause-in_no_order
returns-clause-in_no_order c locks fails unlocks order = example.in_no_order locks fails unlocks c.what_happened_before_is_seen.ensures.seen order

pub returns-clause-seen : goal.returns-clause-seen
returns-clause-seen c = example.seen c.scripts_without_tests_are_spelt_call_by_call.ensures

pub returns-clause-in_order : goal.returns-clause-in_order
returns-clause-in_order c = example.in_order
