use Rattle.script_calls.proofs.RunLemmas.{own_run, own_back, own_left, own_made}
use Rattle.script_calls.proofs.laws.a_script_without_tests_is_its_own_run.Goals as goal

pub returns-clause-run : goal.returns-clause-run
returns-clause-run g c = own_run

pub returns-clause-back : goal.returns-clause-back
returns-clause-back g c = own_back

pub returns-clause-left : goal.returns-clause-left
returns-clause-left g c = own_left

pub returns-clause-made : goal.returns-clause-made
returns-clause-made g c = own_made
