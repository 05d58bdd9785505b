use Rattle.run_laws.proofs.ExplainedFlight as example
use Rattle.run_laws.proofs.examples.a_flight_is_not_led_by_two.Goals as goal

pub returns-clause-explained : goal.returns-clause-explained
returns-clause-explained c = example.explained c.scripts_without_tests_are_spelt_call_by_call.ensures

pub returns-clause-refused : goal.returns-clause-refused
returns-clause-refused c = example.by_two

pub returns-clause-not_another : goal.returns-clause-not_another
returns-clause-not_another c = example.with_another
