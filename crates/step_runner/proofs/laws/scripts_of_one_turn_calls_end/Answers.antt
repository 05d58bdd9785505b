use Rattle.step_runner.proofs.OneTurnCalls.{one_turn_calls_end}
use Rattle.step_runner.proofs.RunLemmas.{uses_up}
use Rattle.step_runner.proofs.laws.scripts_of_one_turn_calls_end.Goals as goal

pub returns : goal.returns
returns c plan valid all =
    one_turn_calls_end c.one_turn_completes_some_calls.ensures c.a_script_without_tests_is_its_own_run.ensures.left plan (c.validity.ensures.goes_on plan)
    (uses_up plan (c.events_use_something_up.ensures.still plan) (c.events_use_something_up.ensures.made plan) (c.events_use_something_up.ensures.misused plan))
    all (c.validity.ensures.begins plan valid)
