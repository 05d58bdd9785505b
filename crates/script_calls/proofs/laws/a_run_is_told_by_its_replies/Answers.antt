use Rattle.script_calls.proofs.RunLemmas.{run_told, run_back}
use Rattle.script_calls.proofs.laws.a_run_is_told_by_its_replies.Goals as goal

pub returns-clause-told : goal.returns-clause-told
returns-clause-told g c = run_told

pub returns-clause-back : goal.returns-clause-back
returns-clause-back g c = run_back
